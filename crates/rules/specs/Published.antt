-- Facts that the published method rests on.
use Rattle.std.specs.Prelude.{◌≡◌, ℕ, ◌+◌, ◌-◌, ◌≤◌, pos, ◌+ℤ◌, ◌-ℤ◌}
use Rattle.jobs.specs.declared.job.Job.{Job}
use Rattle.jobs.specs.Records.{residual}

-- the residual of a job from that of the job before it, which finishes at f: R = R before + (d − d before) − c
abbrev pub ResidualRecursion : Type 0
ResidualRecursion =
    (f : ℕ) (before j : Job) → residual (f + j.remaining) j ≡ (residual f before +ℤ (pos j.mark.deadline -ℤ pos before.mark.deadline)) -ℤ pos j.remaining

-- the load of a job, sum ÷ (d − t), is 1 − R ÷ (d − t): in whole numbers, sum = (d − t) − R
abbrev pub LoadLaw : Type 0
LoadLaw = (t sum : ℕ) (j : Job) → t ≤ j.mark.deadline → pos sum ≡ pos (j.mark.deadline - t) -ℤ residual (t + sum) j
