-- Plans: which job each tick from a start tick on is given to, past the end of the clock too.
use Rattle.std.specs.Prelude.{◌≡◌, ℕ, zero, suc, ◌+◌, ◌-◌, ◌≤◌, Bool, false, cond, List, [], ◌∷◌, ◌==◌, nat_lt}
use Rattle.std.proofs.Math.Option.{Option, none, some}
use Rattle.std.specs.List.{AllByRecursion as Every}
use Rattle.jobs.specs.declared.job.Job.{Job}
use Rattle.jobs.specs.Records.{number, limit}

-- the number of the job that has the tick, or nobody
abbrev pub Plan : Type 0
Plan = ℕ → Option ℕ

abbrev pub given : Option ℕ → ℕ → Bool
given none n = false
given (some m) n = n == m

-- how many of the k ticks from t on the plan gives to the job n
abbrev pub ticks : Plan → ℕ → ℕ → ℕ → ℕ
ticks p n t zero = 0
ticks p n t (suc k) = cond (given (p t) n) 1 0 + ticks p n (suc t) k

-- the job gets exactly its remaining ticks from t on, all of them before the tick `end`
pub record Served (p : Plan) (t end : ℕ) (j : Job) : Type 0 where
  pub whole : ticks p (number j) t (end - t) ≡ j.remaining
  pub none_after : (u : ℕ) → end ≤ u → given (p u) (number j) ≡ false

-- the plan holds the list: each job has ended by its limit
abbrev pub PlanHolds : Plan → ℕ → List Job → Type 0
PlanHolds p t js = Every (λ j. Served p t (limit j) j) js

-- no job stands before one with an earlier limit
abbrev pub FollowsLimits : List Job → Type 0
FollowsLimits [] = Unit {0}
FollowsLimits (j ∷ js) = Every (λ k. limit j ≤ limit k) js × FollowsLimits js

-- the first job of the list that has not had all its ticks when the tick u begins
abbrev pub first_unended : Plan → ℕ → ℕ → List Job → Option ℕ
first_unended p t u [] = none
first_unended p t u (j ∷ js) = cond (nat_lt (ticks p (number j) t (u - t)) j.remaining) (some (number j)) (first_unended p t u js)

-- the list is worked in its order: each tick goes to the first job that has not ended
abbrev pub WorksInOrder : Plan → ℕ → List Job → Type 0
WorksInOrder p t js = (u : ℕ) → t ≤ u → p u ≡ first_unended p t u js

-- such a plan: the first job has its ticks, then the next
abbrev pub in_order : ℕ → List Job → Plan
in_order t [] u = none
in_order t (j ∷ js) u = cond (nat_lt u (t + j.remaining)) (some (number j)) (in_order (t + j.remaining) js u)
