-- A list of calls served one by one on a new scheduler, their answers written one by one.
use Rattle.std.proofs.Common.{◌≡◌, ℕ, ◌+◌, ◌<◌, ◌≤◌, List, [], ◌∷◌, ◌++◌, map, length, get_or, take, drop, set, sym, ap, ◌∙◌, subst, Result, arith}
use Rattle.std.proofs.lemmas.Grind.{common_steps}
use Rattle.std.proofs.lemmas.List.{map-append, take_more, take_more_set, take_all}
use Rattle.jobs.specs.declared.refusal.Refusal.{Refusal}
use Rattle.rules.proofs.Ranging.{every_run_in_range}
use Rattle.rules.proofs.Sounding.{every_run_is_sound}
use Rattle.rules.specs.Calls.{serve}
use Rattle.rules.specs.Promise.{Sound}
use Rattle.rules.specs.Ranges.{InRange}
use Rattle.rules.specs.Runs.{after, trace}
use Rattle.rules.specs.Worked.{answers_of}
use Rattle.rules.specs.States.{Parts, LawfulParts, State, start, answers}
use Rattle.scheduler.specs.Calling.{asked_call, answered}
use Rattle.scheduler.specs.declared.calls.Answer.{Answer}
use Rattle.scheduler.specs.declared.calls.Call.{Call}
use Rattle.scheduler.proofs.Replaying.{after_push, answers_push}

-- the first i calls are served, and led to s
pub record Rerun (ρ : Parts) (ks : List Call) (old new : List (Result Answer Refusal)) (i : ℕ) (s : State) : Type 0 where
  pub state : s ≡ after ρ start (map asked_call (take i ks))
  pub told : map answered (take i new) ≡ answers_of ρ start (map asked_call (take i ks))
  pub behind : drop i new ≡ drop i old

module _ (ρ : Parts) (laws : LawfulParts ρ) (ks : List Call) (old : List (Result Answer Refusal)) where
  pub rerun_more : (new : List (Result Answer Refusal)) (i : ℕ) (d : Call) (s s' : State) (r : Result Answer Refusal) → i < length ks → i < length new → Rerun ρ ks old new i s → (InRange s → serve ρ s (asked_call (get_or ks i d)) ≡ answers (answered r) s') → Rerun ρ ks old (set new i r) (i + 1) s'
  rerun_more new i d s s' r within room so_far exact =
      let k = asked_call (get_or ks i d) in
      let done = map asked_call (take i ks) in
      let range : InRange s = subst InRange (sym so_far.state) (every_run_in_range ρ laws done) in
      let is = exact range in
      let more : map asked_call (take (i + 1) ks) ≡ done ++ (k ∷ []) = ap (map asked_call) (take_more ks i d within) ∙ map-append asked_call (take i ks) (get_or ks i d ∷ []) in
      let at : serve ρ (after ρ start done) k ≡ answers (answered r) s' = ap (λ w. serve ρ w k) (sym so_far.state) ∙ is in
      record {
        state = sym (ap (after ρ start) more ∙ after_push ρ start done k ∙ ap (λ o. o.state) at);
        told =
            ap (map answered) (take_more_set new i r room)
            ∙ map-append answered (take i new) (r ∷ [])
            ∙ ap (λ l. l ++ (answered r ∷ [])) so_far.told
            ∙ sym (ap (answers_of ρ start) more ∙ answers_push ρ start done k ∙ ap (λ o. answers_of ρ start done ++ (o.answer ∷ [])) at);
        behind = let was = so_far.behind in grind (arith, common_steps);
      }

  pub rerun_all : (new : List (Result Answer Refusal)) (i : ℕ) (s : State) → length ks ≤ i → Rerun ρ ks old new i s → s ≡ after ρ start (map asked_call ks)
  rerun_all new i s past so_far = so_far.state ∙ ap (λ l. after ρ start (map asked_call l)) (take_all i ks past)

  pub rerun_told : (new : List (Result Answer Refusal)) (i : ℕ) (s : State) → length ks ≤ i → Rerun ρ ks old new i s → map answered (take i new) ≡ answers_of ρ start (map asked_call ks)
  rerun_told new i s past so_far = so_far.told ∙ ap (λ l. answers_of ρ start (map asked_call l)) (take_all i ks past)

  pub rerun_sound : (s : State) → s ≡ after ρ start (map asked_call ks) → Sound ρ s (trace ρ start (map asked_call ks))
  rerun_sound s is = subst (λ w. Sound ρ w (trace ρ start (map asked_call ks))) (sym is) (every_run_is_sound ρ laws (map asked_call ks))
