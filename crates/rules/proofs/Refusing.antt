-- A call that checks before it acts: refused, it leaves what was; else it acts with the check passed.
use Rattle.std.proofs.Common.{◌≡◌, Bool, true, false, refl}
use Rattle.jobs.specs.declared.refusal.Refusal.{Refusal}
use Rattle.rules.specs.Calls.{refusing}
use Rattle.rules.specs.States.{State, refused, Outcome, answers}

pub refusing_cases : (Q : Outcome → Type 0) (b : Bool) (e : Refusal) (s : State) (o : Outcome) → Q (answers (refused e) s) → (b ≡ false → Q o) → Q (refusing b e s o)
refusing_cases Q true e s o turned go = turned
refusing_cases Q false e s o turned go = go refl
