-- The numbers and names of classes and kinds, how an ending is written, a job that arrives, and what a job's deadline and limit say of its finish.
use Rattle.std.specs.Prelude.{◌≡◌, ℕ, suc, zero, ◌+◌, ◌-◌, ◌<◌, ◌≤◌, List, ◌++◌, Ok, Err, Result, codes, decimal, ℤ, pos, ◌-ℤ◌}
use Rattle.jobs.specs.declared.ending.Ending.{Ending}
use Rattle.jobs.specs.declared.ending.EndKind.{EndKind}
use Rattle.jobs.specs.declared.ending.EndKind.TheVariants.{InTime, Missed, Withdrawn}
use Rattle.jobs.specs.declared.job.Class.{Class}
use Rattle.jobs.specs.declared.job.Class.TheVariants.{Hard, Critical}
use Rattle.jobs.specs.declared.job.Job.{Job}
use Rattle.jobs.specs.declared.job.Mark.{Mark}
use Rattle.jobs.specs.declared.refusal.Refusal.{Refusal}
use Rattle.jobs.specs.declared.refusal.Refusal.TheVariants.{Class as ClassRule}

abbrev pub class_number : Class → ℕ
class_number Hard = 0
class_number Critical = 1

abbrev pub class_of : ℕ → Class
class_of zero = Hard
class_of (suc n) = Critical

-- 0 is HARD, 1 is CRITICAL, any other number is refused
abbrev pub Classed : ℕ → Result Class Refusal → Type 0
Classed n (Ok c) = (n ≤ 1) × (c ≡ class_of n)
Classed n (Err e) = (1 < n) × (e ≡ ClassRule)

abbrev pub kind_number : EndKind → ℕ
kind_number InTime = 1
kind_number Missed = 2
kind_number Withdrawn = 3

abbrev pub kind_name : EndKind → List ℕ
kind_name InTime = codes "intime"
kind_name Missed = codes "missed"
kind_name Withdrawn = codes "withdrawn"

-- ended NUMBER KIND TICK BY
abbrev pub ended_text : Ending → List ℕ
ended_text e =
    codes "ended " ++ (decimal e.number ++ (codes " " ++ (kind_name e.kind ++ (codes " " ++ (decimal e.tick ++ (codes " " ++ decimal e.by))))))

abbrev pub number : Job → ℕ
number j = j.mark.number

-- a job that arrives
abbrev pub arrived : Mark → ℕ → Job
arrived m c = record { mark = m; computation = c; remaining = c; by = 0 }

abbrev pub mark_limit : Mark → ℕ
mark_limit m = m.deadline + m.tolerance

-- the last tick by which the job must be done
abbrev pub limit : Job → ℕ
limit j = mark_limit j.mark

-- what a job that finishes at f leaves to its deadline, negative where it is late
abbrev pub residual : ℕ → Job → ℤ
residual f j = pos j.mark.deadline -ℤ pos f

-- the time by which a job that finishes at f passes its limit, 0 where it does not
abbrev pub excess : ℕ → Job → ℕ
excess f j = f - limit j

-- what stands where no job does
abbrev pub blank : Job
blank =
    record {
      mark = record { number = 0; class = Hard; arrival = 0; deadline = 0; tolerance = 0; value = 0 };
      computation = 0;
      remaining = 0;
      by = 0;
    }
