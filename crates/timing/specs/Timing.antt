-- When the jobs of a list finish, worked one after the other from a start tick.
use Rattle.std.specs.Prelude.{ℕ, ◌+◌, ◌-◌, max, Bool, true, cond, ◌&&◌, List, [], ◌∷◌, pos, ◌+ℤ◌, ◌≤ℤ◌, Some, None, Option, ◌==◌, nat_le, nat_lt}
use Rattle.jobs.specs.declared.job.Job.{Job}
use Rattle.timing.specs.declared.entry.Entry.{Entry}
use Rattle.timing.specs.declared.entry.Load.{Load}
use Rattle.jobs.specs.Records.{number, limit, residual, excess}

-- the tick at which the last job of a list finishes, its first begun at t
abbrev pub finish : ℕ → List Job → ℕ
finish t [] = t
finish t (j ∷ js) = finish (t + j.remaining) js

-- every job finishes by its limit, its residual plus its tolerance being no less than 0
abbrev pub AllInTime : ℕ → List Job → Type 0
AllInTime t [] = Unit {0}
AllInTime t (j ∷ js) = (pos 0 ≤ℤ (residual (t + j.remaining) j +ℤ pos j.mark.tolerance)) × AllInTime (t + j.remaining) js

abbrev pub holds : ℕ → List Job → Bool
holds t [] = true
holds t (j ∷ js) = nat_le (t + j.remaining) (limit j) && holds (t + j.remaining) js

-- the greatest excess of a list
abbrev pub exceeding : ℕ → List Job → ℕ
exceeding t [] = 0
exceeding t (j ∷ js) = max (excess (t + j.remaining) j) (exceeding (t + j.remaining) js)

-- the number of the first job whose excess is e
abbrev pub first_by : ℕ → ℕ → List Job → ℕ
first_by e t [] = 0
first_by e t (j ∷ js) = cond (excess (t + j.remaining) j == e) (number j) (first_by e (t + j.remaining) js)

-- the first job that has the greatest excess, 0 where the list holds
abbrev pub cause : ℕ → List Job → ℕ
cause t js = cond (exceeding t js == 0) 0 (first_by (exceeding t js) t js)

-- the load of a job up to which the list from the start tick t takes `sum` ticks, absent once its deadline has come
abbrev pub load : ℕ → ℕ → Job → Option Load
load t sum j = cond (nat_lt t j.mark.deadline) (Some (record { sum = sum; span = j.mark.deadline - t })) None

abbrev pub entry : ℕ → ℕ → Job → Entry
entry t sum j = record { number = number j; finish = t + sum; residual = residual (t + sum) j; load = load t sum j }

-- an entry for each job, those before the list taking `sum` ticks
abbrev pub entries : ℕ → ℕ → List Job → List Entry
entries t sum [] = []
entries t sum (j ∷ js) = entry t (sum + j.remaining) j ∷ entries t (sum + j.remaining) js
