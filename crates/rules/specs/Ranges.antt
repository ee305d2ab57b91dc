-- The ranges that every reached state keeps.
use Rattle.std.specs.Prelude.{ℕ, ◌+◌, ◌<◌, ◌≤◌, List, ◌++◌}
use Rattle.std.specs.List.{AllByRecursion as Every}
use Rattle.jobs.specs.declared.ending.Ending.{Ending}
use Rattle.jobs.specs.declared.job.Job.{Job}
use Rattle.rules.specs.Promise.{standing}
use Rattle.rules.specs.Runs.{after}
use Rattle.rules.specs.States.{Parts, LawfulParts, State, start, Call, population}

-- a job that is ready or parked at the tick t
pub record JobInRange (t : ℕ) (j : Job) : Type 0 where
  pub number : (1 ≤ j.mark.number) × (j.mark.number ≤ 65535)
  pub arrival : j.mark.arrival ≤ t
  pub deadline : (j.mark.arrival < j.mark.deadline) × (j.mark.deadline ≤ j.mark.arrival + 100000000)
  pub tolerance : j.mark.tolerance ≤ 100000000
  pub value : j.mark.value ≤ 65535
  pub computation : (1 ≤ j.computation) × (j.computation ≤ 1000000)
  pub remaining : (1 ≤ j.remaining) × (j.remaining ≤ j.computation)
  pub by : j.by ≤ 65535

pub record LineInRange (t : ℕ) (e : Ending) : Type 0 where
  pub number : (1 ≤ e.number) × (e.number ≤ 65535)
  pub tick : e.tick ≤ t
  pub by : e.by ≤ 65535

-- what one tick alone keeps: all but the clock's own range, and that no number stands twice
pub record Fields (s : State) : Type 0 where
  pub few : population s ≤ 64
  pub ready : Every (JobInRange s.clock) s.ready
  pub parked : Every (JobInRange s.clock) s.parked
  pub lines : Every (LineInRange s.clock) s.ended

pub record InRange (s : State) : Type 0 where
  pub clock : s.clock ≤ 1000000000
  pub few : population s ≤ 64
  pub once : (n : ℕ) → standing n s ≤ 1
  pub jobs : Every (JobInRange s.clock) (s.ready ++ s.parked)
  pub lines : Every (LineInRange s.clock) s.ended

abbrev pub EveryRunInRange : Type 0
EveryRunInRange = (ρ : Parts) → LawfulParts ρ → (ks : List Call) → InRange (after ρ start ks)
