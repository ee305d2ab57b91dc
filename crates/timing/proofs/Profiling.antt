-- A table that is filled with the entries of a list, one after the other.
use Rattle.std.proofs.Common.{◌≡◌, ℕ, List, ◌++◌, take, drop}
use Rattle.timing.specs.declared.entry.Entry.{Entry}
use Rattle.jobs.specs.declared.job.Job.{Job}
use Rattle.timing.specs.Timing.{entries}

-- the first i entries are written, and those to come complete the profile; the rest is as it was
pub record Filled (t : ℕ) (js : List Job) (old table : List Entry) (i sum : ℕ) : Type 0 where
  pub front : take i table ++ entries t sum (drop i js) ≡ entries t 0 js
  pub back : drop i table ≡ drop i old
