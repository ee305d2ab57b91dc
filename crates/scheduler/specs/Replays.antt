-- What the replay of a list of calls on a new scheduler promises.
use Rattle.std.specs.Prelude.{◌≡◌, ◌<◌, ◌≤◌, List, map, length, take, drop, Ok, Err, Result}
use Rattle.jobs.specs.declared.job.Mark.{Mark}
use Rattle.jobs.specs.declared.refusal.Refusal.{Refusal}
use Rattle.jobs.specs.declared.refusal.Refusal.TheVariants.{Short}
use Rattle.rankings.specs.declared.ranking.Ranking.{Ghosts as RankingOf}
use Rattle.rules.specs.Promise.{Sound}
use Rattle.rules.specs.Runs.{after, trace}
use Rattle.rules.specs.Worked.{answers_of}
use Rattle.rules.specs.States.{start}
use Rattle.stores.specs.declared.ready.ReadyStore.{Ghosts as StoreOf}
use Rattle.admission.specs.Disciplines.{PolicyOf, parts}
use Rattle.scheduler.specs.Calling.{asked_call, answered}
use Rattle.scheduler.specs.Keeping.{view}
use Rattle.scheduler.specs.declared.calls.Answer.{Answer}
use Rattle.scheduler.specs.declared.calls.Call.{Call}
use Rattle.scheduler.specs.declared.scheduler.Scheduler.{Scheduler}

module _ {S O P : Type 0} (store : StoreOf S) (ranking : RankingOf O Mark) (rejection : PolicyOf P) where
  -- the calls ks were served on a new scheduler, which is s now
  pub record RunKept (order : O) (policy : P) (ks : List Call) (old new : List (Result Answer Refusal)) (s : Scheduler S O P) : Type 0 where
    pub by_order : s.discipline.order.0 ≡ order
    pub by_policy : s.discipline.policy ≡ policy
    -- each call has the answer that the rules give, and what stood behind the answers stays
    pub answers : map answered (take (length ks) new) ≡ answers_of (parts ranking rejection s.discipline) start (map asked_call ks)
    pub behind : drop (length ks) new ≡ drop (length ks) old
    -- the scheduler stands where the calls lead, and the whole promise holds there
    pub state : view store.jobs s ≡ after (parts ranking rejection s.discipline) start (map asked_call ks)
    pub sound : Sound (parts ranking rejection s.discipline) (view store.jobs s) (trace (parts ranking rejection s.discipline) start (map asked_call ks))

  -- a table shorter than the list of calls is refused, and stays
  abbrev pub Replayed : O → P → List Call → List (Result Answer Refusal) → List (Result Answer Refusal) → Result (Scheduler S O P) Refusal → Type 0
  Replayed order policy ks old new (Ok s) = (length ks ≤ length old) × RunKept order policy ks old new s
  Replayed order policy ks old new (Err e) = (e ≡ Short) × (length old < length ks) × (new ≡ old)
