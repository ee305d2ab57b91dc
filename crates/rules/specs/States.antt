-- A scheduler as its caller sees it: its parts, its state, its calls and their answers.
use Rattle.std.specs.Prelude.{◌≡◌, ℕ, ◌+◌, Bool, not, ◌||◌, List, [], length, ◌==◌}
use Rattle.jobs.specs.declared.ending.Ending.{Ending}
use Rattle.jobs.specs.declared.job.Job.{Job}
use Rattle.jobs.specs.declared.job.Mark.{Mark}
use Rattle.jobs.specs.declared.refusal.Refusal.{Refusal}
use Rattle.rankings.specs.Ranked.{Lawful, before}
use Rattle.rankings.specs.Rankings.{by_mark, earlier_tick}
use Rattle.jobs.specs.Records.{number}
use Rattle.rules.specs.Lists.{some}

-- what a scheduler is put together from: four rankings' tests, and which jobs the policy spares
pub record Parts : Type 0 where
  -- the dispatch order
  pub order : Mark → Mark → Bool
  -- the rejection policy
  pub policy : Job → Job → Bool
  pub spared : Job → Bool
  -- the ranking of the parked list
  pub parking : Job → Job → Bool

-- the job with another displacer
abbrev pub displaced : ℕ → Job → Job
displaced n j = record { mark = j.mark; computation = j.computation; remaining = j.remaining; by = n }

-- parts that keep the laws of a ranking; nothing is asked of `spared`
pub record LawfulParts (ρ : Parts) : Type 0 where
  pub order : Lawful ρ.order
  pub policy : Lawful ρ.policy
  pub parking : Lawful ρ.parking
  -- who displaced a job does not move it in the parked list
  pub parking_steady : (m n : ℕ) (x y : Job) → ρ.parking (displaced m x) (displaced n y) ≡ ρ.parking x y

-- the orders of the three lists, and the policy's: by the ranking, then by the lower number
abbrev pub ready_order : Parts → Job → Job → Bool
ready_order ρ = before (by_mark ρ.order) number

abbrev pub parked_order : Parts → Job → Job → Bool
parked_order ρ = before ρ.parking number

abbrev pub ended_order : Ending → Ending → Bool
ended_order = before earlier_tick (λ e. e.number)

abbrev pub policy_order : Parts → Job → Job → Bool
policy_order ρ = before ρ.policy number

pub record State : Type 0 where
  pub clock : ℕ
  pub ready : List Job
  pub parked : List Job
  pub ended : List Ending

-- a new scheduler
abbrev pub start : State
start = record { clock = 0; ready = []; parked = []; ended = [] }

pub record Arrival : Type 0 where
  pub number : ℕ
  -- 0 is HARD, 1 is CRITICAL
  pub class : ℕ
  pub computation : ℕ
  pub deadline_in : ℕ
  pub tolerance : ℕ
  pub value : ℕ

pub data Call : Type 0 where
  arrive : Arrival → Call
  work : ℕ → Call
  finish : ℕ → Call
  withdraw : ℕ → Call
  collect : Call

-- ready and parked come with E, the cause and the number of jobs displaced
pub data Answer : Type 0 where
  ready : ℕ → ℕ → ℕ → Answer
  parked : ℕ → ℕ → ℕ → Answer
  now_at : ℕ → Answer
  saved : ℕ → Answer
  gone : Answer
  line : Ending → Answer
  refused : Refusal → Answer

pub record Outcome : Type 0 where
  pub answer : Answer
  pub state : State

abbrev pub answers : Answer → State → Outcome
answers a s = record { answer = a; state = s }

abbrev pub has : ℕ → Job → Bool
has n j = number j == n

abbrev pub line_has : ℕ → Ending → Bool
line_has n e = e.number == n

abbrev pub other : ℕ → Job → Bool
other n j = not (has n j)

-- a job of this number is ready or parked
abbrev pub pending : State → ℕ → Bool
pending s n = some (has n) s.ready || some (has n) s.parked

-- or has ended and is not collected
abbrev pub known : State → ℕ → Bool
known s n = pending s n || some (line_has n) s.ended

-- how many jobs are known
abbrev pub population : State → ℕ
population s = length s.ready + (length s.parked + length s.ended)
