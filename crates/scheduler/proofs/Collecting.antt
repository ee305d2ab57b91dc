-- The first ending answered and forgotten, as the rules say.
use Rattle.std.proofs.Common.{List, Ok, Err, Result, refl, sym, ap, ◌∙◌}
use Rattle.jobs.specs.declared.ending.Ending.{Ending}
use Rattle.jobs.specs.declared.refusal.Refusal.{Refusal}
use Rattle.jobs.specs.declared.refusal.Refusal.TheVariants.{Nothing}
use Rattle.rules.specs.Calls.{collect_first}
use Rattle.rules.specs.States.{Parts, LawfulParts, State, collect, line}
use Rattle.stores.specs.Tables.{First}
use Rattle.admission.specs.Steps.{with_ended}
use Rattle.scheduler.specs.Calling.{or_refused}
use Rattle.scheduler.specs.Serving.{Serves}
use Rattle.scheduler.proofs.Promising.{no_refusal, turned_down, taken_on}

module _ (ρ : Parts) (laws : LawfulParts ρ) (s : State) where
  pub collected : (es' : List Ending) (r : Result Ending Refusal) → First s.ended es' r → Serves ρ s collect (or_refused line r) (with_ended es' s)
  collected es' (Ok x) was =
      let is = ap (collect_first s) was in
      taken_on ρ laws s collect (line x) (with_ended es' s) (λ _. is) (λ e h. no_refusal (line x) e refl (sym (ap (λ o. o.answer) is) ∙ h))
  collected es' (Err e) was =
      rw was.0 (rw was.2 (turned_down ρ laws s collect Nothing (ap (collect_first s) was.1)))
