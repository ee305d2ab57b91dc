-- An arrival that is checked and admitted, as the rules say.
use Rattle.std.proofs.Common.{◌≡◌, Ok, Err, Result, ◌∙◌, arith}
use Rattle.jobs.specs.declared.job.Job.{Job}
use Rattle.jobs.specs.declared.refusal.Refusal.{Refusal}
use Rattle.rules.specs.States.{Parts, LawfulParts, State, Arrival, arrive, refused}
use Rattle.admission.specs.Steps.{told, Admits}
use Rattle.admission.specs.declared.admitting.Admission.{Admission}
use Rattle.scheduler.specs.Calling.{or_refused}
use Rattle.scheduler.specs.Serving.{checked, Serves}
use Rattle.scheduler.proofs.Checking.{checked_err, checked_ok, in_range_ready_once}
use Rattle.scheduler.proofs.Exactly.{arrive_heard}
use Rattle.scheduler.proofs.Promising.{turned_down, taken_on}

module _ (ρ : Parts) (laws : LawfulParts ρ) (s : State) (a : Arrival) where
  pub not_accepted : (e : Refusal) → checked s a ≡ Err e → Serves ρ s (arrive a) (refused e) s
  not_accepted e is = turned_down ρ laws s (arrive a) e (checked_err s a ρ e is)

  pub arrived : (j : Job) (s' : State) (r : Result Admission Refusal) → checked s a ≡ Ok j → Admits ρ j r s s' → Serves ρ s (arrive a) (or_refused told r) s'
  arrived j s' (Ok x) ok done =
      taken_on ρ laws s (arrive a) (told x) s'
      (λ _. (checked_ok s a ρ j ok).2 ∙ done)
      (arrive_heard ρ s a j ok)
  arrived j s' (Err e) ok full =
      taken_on ρ laws s (arrive a) (refused e) s'
      (λ range. absurd (full (let free = (checked_ok s a ρ j ok).1 in omega arith) (in_range_ready_once s range)))
      (arrive_heard ρ s a j ok)
