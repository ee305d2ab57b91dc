-- One call more at the end of a list of calls: the state that they lead to, and the answers.
use Rattle.std.proofs.Common.{◌≡◌, List, [], ◌∷◌, ◌++◌, refl, ap}
use Rattle.rules.specs.Calls.{serve}
use Rattle.rules.specs.Runs.{after}
use Rattle.rules.specs.Worked.{answers_of}
use Rattle.rules.specs.States.{Parts, State, Call}

module _ (ρ : Parts) where
  pub after_push : (s : State) (ks : List Call) (k : Call) → after ρ s (ks ++ (k ∷ [])) ≡ (serve ρ (after ρ s ks) k).state
  after_push s [] k = refl
  after_push s (c ∷ ks) k = after_push (serve ρ s c).state ks k

  pub answers_push : (s : State) (ks : List Call) (k : Call) → answers_of ρ s (ks ++ (k ∷ [])) ≡ answers_of ρ s ks ++ ((serve ρ (after ρ s ks) k).answer ∷ [])
  answers_push s [] k = refl
  answers_push s (c ∷ ks) k = ap (λ rs. (serve ρ s c).answer ∷ rs) (answers_push (serve ρ s c).state ks k)
