-- A table of jobs in the order of their deadlines, and the tick at which the first of them begins.
use Rattle.std.specs.Prelude.{◌≡◌, ℕ, cond, List, [], length, Ok, Err, Result, nat_le}
use Rattle.jobs.specs.declared.job.Job.{Job}
use Rattle.jobs.specs.declared.refusal.Refusal.{Refusal}
use Rattle.jobs.specs.declared.refusal.Refusal.TheVariants.{Known, Full}
use Rattle.rankings.specs.Ranked.{before, insert}
use Rattle.rankings.specs.Rankings.{by_mark, earlier_deadline}
use Rattle.jobs.specs.Records.{number}
use Rattle.stores.specs.Tables.{listed, known}
use Rattle.tables.specs.declared.table.Table.{Table}

pub record Sheet : Type 0 where
  pub start : ℕ
  pub jobs : List Job

abbrev pub sheet : Table → Sheet
sheet t = record { start = t.start; jobs = listed t.jobs }

abbrev pub blank : Sheet
blank = record { start = 0; jobs = [] }

-- the sheet with one job more, by deadline; a number that is there already is refused, then a 65th job
abbrev pub entered : Sheet → Job → Result Sheet Refusal
entered s j =
    cond (known number (number j) s.jobs) (Err Known)
    (cond (nat_le 64 (length s.jobs)) (Err Full)
    (Ok (record { start = s.start; jobs = insert (before (by_mark earlier_deadline) number) j s.jobs })))

-- what entering a job answers and leaves; refused, the sheet is as it was
abbrev pub Entered : Sheet → Job → Sheet → Result (Unit {0}) Refusal → Type 0
Entered was j is (Ok _) = entered was j ≡ Ok is
Entered was j is (Err e) = (entered was j ≡ Err e) × (is ≡ was)
