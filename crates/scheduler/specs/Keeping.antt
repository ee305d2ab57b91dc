-- A scheduler as the rules see it, and what each of its calls promises.
use Rattle.std.specs.Prelude.{◌≡◌, List}
use Rattle.jobs.specs.declared.job.Job.{Job}
use Rattle.jobs.specs.declared.job.Mark.{Mark}
use Rattle.rankings.specs.declared.ranking.Ranking.{Ghosts as RankingOf}
use Rattle.rules.specs.States.{State, Call, Answer}
use Rattle.stores.specs.declared.ready.ReadyStore.{Ghosts as StoreOf}
use Rattle.admission.specs.Disciplines.{PolicyOf, parts}
use Rattle.admission.specs.Rosters.{roster_state}
use Rattle.scheduler.specs.Serving.{Serves}
use Rattle.scheduler.specs.declared.scheduler.Scheduler.{Scheduler}

-- `jobs` is the list that the store means
abbrev pub view : {S O P : Type 0} → (S → List Job) → Scheduler S O P → State
view jobs s = roster_state jobs s.roster

-- what a call that leads from `was` to `is` with the answer r promises, given what store, order and policy mean
pub record Keeps {S O P : Type 0} (store : StoreOf S) (order : RankingOf O Mark) (policy : PolicyOf P) (was : Scheduler S O P) (k : Call) (r : Answer) (is : Scheduler S O P) : Type 0 where
  -- order and policy stay
  pub same : is.discipline ≡ was.discipline
  pub serves : Serves (parts order policy was.discipline) (view store.jobs was) k r (view store.jobs is)
