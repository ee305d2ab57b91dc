-- What a call on a scheduler promises, and the checks of an arrival.
use Rattle.std.specs.Prelude.{◌≡◌, ◌+◌, cond, List, ◌++◌, Ok, Err, Result, nat_le, nat_lt}
use Rattle.jobs.specs.declared.job.Job.{Job}
use Rattle.jobs.specs.declared.refusal.Refusal.{Refusal}
use Rattle.jobs.specs.declared.refusal.Refusal.TheVariants.{Range, Class as ClassRule, Known, Full, Hopeless}
use Rattle.rules.specs.Calls.{out_of_range, job_of, serve}
use Rattle.rules.specs.Promise.{Reached, PromiseKept}
use Rattle.rules.specs.Ranges.{InRange}
use Rattle.rules.specs.Runs.{Moment, moments}
use Rattle.rules.specs.States.{Parts, State, Arrival, Call, Answer, refused, answers, known, population}

-- a call that breaks a rule is refused and changes nothing, in any state
abbrev pub Refuses : Parts → State → Call → Answer → State → Type 0
Refuses ρ s k r s' = (e : Refusal) → (serve ρ s k).answer ≡ refused e → (r ≡ refused e) × (s' ≡ s)

-- what a call that leads from s to s' with the answer r promises
pub record Serves (ρ : Parts) (s : State) (k : Call) (r : Answer) (s' : State) : Type 0 where
  -- in a state in range it answers and does just what the rules say
  pub exact : InRange s → serve ρ s k ≡ answers r s'
  -- whatever calls led to s, the state after it is sound
  pub sound : PromiseKept ρ s k s'
  -- and is reached by one call more
  pub reached : (ms : List Moment) → Reached ρ s ms → Reached ρ s' (ms ++ moments ρ s k)
  pub refusal : Refuses ρ s k r s'

-- the job that an arrival brings, or the first rule that it breaks
abbrev pub checked : State → Arrival → Result Job Refusal
checked s a =
    cond (out_of_range a) (Err Range)
    (cond (nat_lt 1 a.class) (Err ClassRule)
    (cond (known s a.number) (Err Known)
    (cond (nat_le 64 (population s)) (Err Full)
    (cond (nat_lt (a.deadline_in + a.tolerance) a.computation) (Err Hopeless)
    (Ok (job_of s a))))))
