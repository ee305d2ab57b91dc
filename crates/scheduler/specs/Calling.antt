-- Calls and answers of the code as those of the rules.
use Rattle.std.specs.Prelude.{◌≡◌, ℕ, true, false, Ok, Err, Result}
use Rattle.jobs.specs.declared.refusal.Refusal.{Refusal}
use Rattle.jobs.specs.declared.refusal.Refusal.TheVariants.{Range}
use Rattle.rules.specs.Calls.{between}
use Rattle.rules.specs.States.{Arrival, Call, arrive, work, finish, withdraw, collect, Answer, now_at, saved, gone, line, refused}
use Rattle.admission.specs.Steps.{told}
use Rattle.scheduler.specs.declared.calls.Answer.{Answer as Answered}
use Rattle.scheduler.specs.declared.calls.Answer.TheVariants.{Admitted, Now, Saved, Gone, Ended}
use Rattle.scheduler.specs.declared.calls.Arrival.{Arrival as Asking}
use Rattle.scheduler.specs.declared.calls.Call.{Call as Calling}
use Rattle.scheduler.specs.declared.calls.Call.TheVariants.{Arrive, Work, Finish, Withdraw, Collect}

abbrev pub asked : Asking → Arrival
asked a = record { number = a.number; class = a.class; computation = a.computation; deadline_in = a.deadline_in; tolerance = a.tolerance; value = a.value }

abbrev pub asked_call : Calling → Call
asked_call (Arrive a) = arrive (asked a)
asked_call (Work n) = work n
asked_call (Finish n) = finish n
asked_call (Withdraw n) = withdraw n
asked_call Collect = collect

-- what a call is answered, or the refusal
abbrev pub or_refused : {T : Type 0} → (T → Answer) → Result T Refusal → Answer
or_refused says (Ok x) = says x
or_refused says (Err e) = refused e

abbrev pub answer_of : Answered → Answer
answer_of (Admitted a) = told a
answer_of (Now t) = now_at t
answer_of (Saved c) = saved c
answer_of Gone = gone
answer_of (Ended e) = line e

abbrev pub answered : Result Answered Refusal → Answer
answered r = or_refused answer_of r

-- a job's number, 1 to 65,535
abbrev pub NumberedSo : ℕ → Result ℕ Refusal → Type 0
NumberedSo n (Ok m) = (between 1 65535 n ≡ true) × (m ≡ n)
NumberedSo n (Err e) = (between 1 65535 n ≡ false) × (e ≡ Range)
