-- What every reached state keeps, in parts that each change by itself: the books, the story, the times, and that it is full.
use Rattle.std.proofs.Common.{◌≡◌, ℕ, ◌+◌, ◌<◌, ◌≤◌, Bool, true, false, ◌⊎◌, List}
use Rattle.std.specs.List.{AllByRecursion as Every}
use Rattle.jobs.specs.declared.ending.EndKind.{EndKind}
use Rattle.jobs.specs.declared.ending.EndKind.TheVariants.{InTime, Missed, Withdrawn}
use Rattle.jobs.specs.declared.ending.Ending.{Ending}
use Rattle.jobs.specs.declared.job.Job.{Job}
use Rattle.jobs.specs.Records.{number, limit}
use Rattle.rankings.specs.Ranked.{Sorted}
use Rattle.timing.specs.Timing.{holds}
use Rattle.rules.specs.Giving.{fits}
use Rattle.rules.specs.Lists.{count, Among}
use Rattle.rules.specs.Promise.{standing, SameJob, LineOf}
use Rattle.rules.specs.States.{Parts, State, ready_order, parked_order, ended_order, has}

-- the jobs owed are js
pub record Books (s : State) (js : List Job) : Type 0 where
  pub each : (n : ℕ) → standing n s ≡ count (has n) js
  pub once : (n : ℕ) → count (has n) js ≤ 1
  pub same_ready : Every (λ j. Among (SameJob j) js) s.ready
  pub same_parked : Every (λ j. Among (SameJob j) js) s.parked
  pub lines : Every (LineOf js) s.ended

-- the line of a missed job explains itself
abbrev pub Told : (ℕ → Bool) → (ℕ → ℕ) → Ending → EndKind → Type 0
Told seen last e InTime = Unit {0}
Told seen last e Missed = (seen e.number ≡ false) ⊎ ((0 < e.by) × (last e.number ≡ e.by))
Told seen last e Withdrawn = Unit {0}

-- `seen n`: the job n was ready; `last n`: who last displaced it
pub record Story (s : State) (seen : ℕ → Bool) (last : ℕ → ℕ) : Type 0 where
  pub by_ready : Every (λ j. j.by ≡ last (number j)) s.ready
  pub by_parked : Every (λ j. j.by ≡ last (number j)) s.parked
  -- a parked job that was ready has been displaced
  pub waits : Every (λ j. seen (number j) ≡ true → 0 < j.by) s.parked
  pub told : Every (λ e. Told seen last e e.kind) s.ended

abbrev pub Lasting : Job → Type 0
Lasting j = (1 ≤ j.remaining) × (j.remaining ≤ j.computation)

pub record Times (ρ : Parts) (s : State) : Type 0 where
  pub by_order : Sorted (ready_order ρ) s.ready
  pub by_parking : Sorted (parked_order ρ) s.parked
  pub by_tick : Sorted ended_order s.ended
  pub lasting_ready : Every Lasting s.ready
  pub lasting_parked : Every Lasting s.parked
  pub kept : holds s.clock s.ready ≡ true

-- every parked job could still make its limit, were it worked at once
abbrev pub Can : State → Type 0
Can s = Every (λ p. s.clock + p.remaining ≤ limit p) s.parked

-- and none fits
abbrev pub Full : Parts → State → Type 0
Full ρ s = Every (λ p. fits ρ s.clock s.ready p ≡ false) s.parked

pub record Invariant (ρ : Parts) (s : State) (js : List Job) (seen : ℕ → Bool) (last : ℕ → ℕ) : Type 0 where
  pub books : Books s js
  pub story : Story s seen last
  pub times : Times ρ s
  pub can : Can s
  pub full : Full ρ s
