-- A sweep, parked job by parked job.
use Rattle.std.proofs.Common.{◌≡◌, ℕ, ◌+◌, ◌<◌, ◌≤◌, Bool, true, false, cond, not, List, [], ◌∷◌, length, Ok, Err, Result, inl, inr, sym, ap, ◌∙◌, arith}
use Rattle.std.proofs.lemmas.Bool.{cond-true, cond-false, cond_both}
use Rattle.jobs.specs.declared.job.Job.{Job}
use Rattle.jobs.specs.declared.refusal.Refusal.{Refusal}
use Rattle.rules.proofs.Lengths.{length_insert}
use Rattle.rules.specs.Giving.{place, fits, Swept, left_parked, sweep}
use Rattle.rules.specs.States.{Parts, State, ready_order}
use Rattle.admission.specs.Retaining.{Retains}
use Rattle.admission.specs.Steps.{state, SweepsOne, Sweeps}
use Rattle.admission.proofs.Answered.{not_false, not_true}

abbrev lists : List Job → List Job → Swept
lists rs ps = record { ready = rs; parked = ps }

module _ (ρ : Parts) (t : ℕ) where
  abbrev pub One : Unit {0} → List Job → Job → Result Bool Refusal → Unit {0} → List Job → Type 0
  One _ rs j r _ rs' = SweepsOne ρ t j rs rs' r

  step : (b : Bool) (j : Job) (rs rs' ps us zs : List Job) → b ≡ not (fits ρ t rs j) → rs' ≡ cond b rs (place ρ j rs) → sweep ρ t rs' ps ≡ lists us zs → sweep ρ t rs (j ∷ ps) ≡ lists us (cond b (j ∷ zs) zs)
  step true j rs rs' ps us zs is put h = cond-false _ _ _ (not_false _ is) ∙ ap (left_parked j) (ap (λ l. sweep ρ t l ps) (sym put) ∙ h)
  step false j rs rs' ps us zs is put h = cond-true _ _ _ (not_true _ is) ∙ ap (λ l. sweep ρ t l ps) (sym put) ∙ h

  longer : (b : Bool) (j : Job) (rs : List Job) → length (cond b rs (place ρ j rs)) ≤ length rs + 1
  longer b j rs = let h = length_insert (ready_order ρ) j rs in cond_both b rs (place ρ j rs) (λ l. length l ≤ length rs + 1) (λ _. omega arith) (λ _. omega arith)

  -- the lists that a sweep leaves, or that there was no room
  abbrev Done : List Job → List Job → List Job → List Job → Result (Unit {0}) Refusal → Type 0
  Done rs ps rs' ps' (Ok _) = sweep ρ t rs ps ≡ lists rs' ps'
  Done rs ps rs' ps' (Err e) = 64 < length rs + length ps

  done : (rs ps ps' rs' : List Job) (r : Result (Unit {0}) Refusal) → Retains One tt rs ps ps' rs' r → Done rs ps rs' ps' r
  done rs [] ps' rs' (Ok _) h = (λ k. lists (sym h.1 k) (sym h.0 k))
  done rs (j ∷ ps) ps' rs' (Ok u) h = step h.0 j rs h.2 ps rs' h.3 h.4.0 h.4.1 (done h.2 ps h.3 rs' (Ok u) h.5) ∙ ap (lists rs') (sym h.6)
  done rs [] ps' rs' (Err e) h = absurd h
  done rs (j ∷ ps) ps' rs' (Err e) h =
      elim h [
        | inl w ↦ omega (arith, w.1)
        | inr w ↦ let more = done w.2 ps w.3 rs' (Err e) w.5 in omega (arith, ap length w.4.1, longer w.0 j rs)
      ]

pub swept_in_turn : (ρ : Parts) (s : State) (ps' rs' : List Job) (r : Result (Unit {0}) Refusal) → Retains (One ρ s.clock) tt s.ready s.parked ps' rs' r → Sweeps ρ r s (state s.clock rs' ps' s.ended)
swept_in_turn ρ s ps' rs' (Ok u) h = let d = done ρ s.clock s.ready s.parked ps' rs' (Ok u) h in λ k. state s.clock (d k).ready (d k).parked s.ended
swept_in_turn ρ s ps' rs' (Err e) h = done ρ s.clock s.ready s.parked ps' rs' (Err e) h
