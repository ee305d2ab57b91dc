-- A walk through a list of jobs, and what it has counted so far.
use Rattle.std.specs.Prelude.{◌≡◌, ℕ, ◌+◌, ◌*◌, ◌<◌, ◌≤◌, cond, List, [], ◌∷◌, length, Ok, Err, Decides, Result, ◌==◌, nat_eq, nat_lt}
use Rattle.jobs.specs.declared.job.Job.{Job}
use Rattle.jobs.specs.declared.refusal.Refusal.{Refusal}
use Rattle.jobs.specs.declared.refusal.Refusal.TheVariants.{Full}
use Rattle.timing.specs.declared.entry.Entry.{Entry}
use Rattle.jobs.specs.Records.{number, excess}
use Rattle.timing.specs.Timing.{finish, holds, exceeding, cause, AllInTime, entry}

pub record Tally : Type 0 where
  pub start : ℕ
  -- how many jobs there were so far, and the ticks that they take
  pub jobs : ℕ
  pub sum : ℕ
  -- the greatest excess, and the first job that has it
  pub exceeding : ℕ
  pub cause : ℕ

-- what holds of every walk: it has at most 64 jobs, which take at most 2 ^ 32 ticks each on the average
abbrev pub Bounded : Tally → Type 0
Bounded w = (w.jobs ≤ 64) × (w.sum ≤ w.jobs * 4294967296)

-- a walk that starts at the tick t
abbrev pub fresh : ℕ → Tally
fresh t = record { start = t; jobs = 0; sum = 0; exceeding = 0; cause = 0 }

-- one job more; the cause changes only where the greatest excess rises
abbrev pub counted : Tally → Job → Tally
counted w j =
    let sum = w.sum + j.remaining in
    let e = excess (w.start + sum) j in
    record {
      start = w.start;
      jobs = w.jobs + 1;
      sum = sum;
      exceeding = cond (nat_lt w.exceeding e) e w.exceeding;
      cause = cond (nat_lt w.exceeding e) (number j) w.cause;
    }

abbrev pub counted_all : Tally → List Job → Tally
counted_all w [] = w
counted_all w (j ∷ js) = counted_all (counted w j) js

-- what a step answers: the job's entry or, after 64 jobs, the refusal, which leaves the walk as it was
abbrev pub Step : Tally → Job → Tally → Result Entry Refusal → Type 0
Step was j is (Ok e) = (was.jobs < 64) × (is ≡ counted was j) × (e ≡ entry was.start (was.sum + j.remaining) j)
Step was j is (Err e) = (e ≡ Full) × (was.jobs ≡ 64) × (is ≡ was)

-- what a walk through the whole list finds, begun at the tick t
pub record Walked (t : ℕ) (js : List Job) (w : Tally) : Type 0 where
  pub whole : w ≡ counted_all (fresh t) js
  pub finish : w.start + w.sum ≡ finish t js
  pub exceeding : w.exceeding ≡ exceeding t js
  pub cause : w.cause ≡ cause t js
  pub holds : nat_eq w.exceeding 0 ≡ holds t js
  pub in_time : Decides (w.exceeding == 0) (AllInTime t js)

-- the walk through a list or, exactly where it has more than 64 jobs, the refusal
abbrev pub Walk : ℕ → List Job → Result Tally Refusal → Type 0
Walk t js (Ok w) = (length js ≤ 64) × Walked t js w
Walk t js (Err e) = (e ≡ Full) × (64 < length js)
