-- What a profile writes.
use Rattle.std.specs.Prelude.{◌≡◌, ℕ, cond, List, ◌++◌, length, drop, Some, None, Ok, Err, Option, Result, nat_lt}
use Rattle.jobs.specs.declared.job.Job.{Job}
use Rattle.jobs.specs.declared.refusal.Refusal.{Refusal}
use Rattle.jobs.specs.declared.refusal.Refusal.TheVariants.{Full, Short}
use Rattle.timing.specs.declared.entry.Entry.{Entry}
use Rattle.timing.specs.Timing.{entries}

-- a list of more than 64 jobs is refused a profile, then a table shorter than the list
abbrev pub profile_refusal : List Job → List Entry → Option Refusal
profile_refusal js table = cond (nat_lt 64 (length js)) (Some Full) (cond (nat_lt (length table) (length js)) (Some Short) None)

-- a profile: an entry for each job in the front of the table, whose other entries stay, and their count; refused, the table stays
abbrev pub Profile : ℕ → List Job → List Entry → List Entry → Result ℕ Refusal → Type 0
Profile t js old new (Ok n) = (profile_refusal js old ≡ None) × (n ≡ length js) × (new ≡ entries t 0 js ++ drop (length js) old)
Profile t js old new (Err e) = (profile_refusal js old ≡ Some e) × (new ≡ old)
