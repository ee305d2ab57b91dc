-- A list of jobs by its places, counted from 0: what reading and changing it answers and leaves.
use Rattle.std.specs.Prelude.{◌≡◌, ℕ, cond, ◌&&◌, List, length, drop, get_or, Ok, Err, Result, nat_le, nat_lt, slice_index_or, slice_set}
use Rattle.std.specs.List.{insert, remove}
use Rattle.jobs.specs.declared.job.Job.{Job}
use Rattle.jobs.specs.declared.refusal.Refusal.{Refusal}
use Rattle.jobs.specs.declared.refusal.Refusal.TheVariants.{Range, Full}
use Rattle.jobs.specs.Records.{blank}
use Rattle.stores.specs.declared.ready.Jobs.{Jobs}

-- the job at a place; a place past the end is refused
abbrev pub read_at : ℕ → List Job → Result Job Refusal
read_at i js = cond (nat_lt i (length js)) (Ok (slice_index_or js i blank)) (Err Range)

-- a job put in at a place, which may be just after the last: a place past that is refused, then a list of 64
abbrev pub insert_at : ℕ → Job → List Job → Result (List Job) Refusal
insert_at i j js = cond (nat_lt (length js) i) (Err Range) (cond (nat_le 64 (length js)) (Err Full) (Ok (insert js i j)))

-- the list without the job at a place
abbrev pub take_at : ℕ → List Job → Result (List Job) Refusal
take_at i js = cond (nat_lt i (length js)) (Ok (remove js i)) (Err Range)

abbrev pub with_remaining : ℕ → Job → Job
with_remaining c j = record { mark = j.mark; computation = j.computation; remaining = c; by = j.by }

-- the job at a place with c ticks to go, 1 to its computation time
abbrev pub set_at : ℕ → ℕ → List Job → Result (List Job) Refusal
set_at i c js =
    let j = get_or js i blank in
    cond (nat_lt i (length js) && (nat_le 1 c && nat_le c j.computation)) (Ok (slice_set js i (with_remaining c j))) (Err Range)

-- what a call that changes the list answers and leaves; refused, the list is as it was
abbrev pub Changes : {X : Type 0} → Result (List Job) Refusal → List Job → List Job → Result X Refusal → Type 0
Changes due was is (Ok x) = due ≡ Ok is
Changes due was is (Err e) = (due ≡ Err e) × (is ≡ was)

-- the jobs that an iterator over a store has still to give, by what the store means
abbrev pub jobs_left : {S : Type 0} → (S → List Job) → Jobs S → List Job
jobs_left jobs it = drop it.place (jobs it.store.now)
