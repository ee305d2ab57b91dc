-- The promise: what holds in every state that calls on a new scheduler can bring about.
use Rattle.std.specs.Prelude.{◌≡◌, ℕ, ◌+◌, ◌<◌, ◌≤◌, true, false, ◌⊎◌, List, [], ◌∷◌, ◌++◌}
use Rattle.std.specs.List.{AllByRecursion as Every}
use Rattle.jobs.specs.declared.ending.EndKind.{EndKind}
use Rattle.jobs.specs.declared.ending.EndKind.TheVariants.{InTime, Missed, Withdrawn}
use Rattle.jobs.specs.declared.ending.Ending.{Ending}
use Rattle.jobs.specs.declared.job.Class.{Class}
use Rattle.jobs.specs.declared.job.Class.TheVariants.{Hard, Critical}
use Rattle.jobs.specs.declared.job.Job.{Job}
use Rattle.rankings.specs.Ranked.{strictly, Sorted}
use Rattle.rankings.specs.Rankings.{earlier_limit}
use Rattle.jobs.specs.Records.{number, limit}
use Rattle.timing.specs.Timing.{holds}
use Rattle.rules.specs.Calls.{job_of, serve}
use Rattle.rules.specs.Giving.{place, fits, without}
use Rattle.rules.specs.Lists.{some, count, Among}
use Rattle.rules.specs.Plans.{Plan, PlanHolds, FollowsLimits, WorksInOrder, in_order}
use Rattle.rules.specs.Runs.{Moment, moments, after, trace, owed, was_ready, displacer}
use Rattle.rules.specs.States.{Parts, LawfulParts, ready_order, parked_order, ended_order, policy_order, State, start, Arrival, Call, arrive, Answer, ready, parked, now_at, saved, gone, line, refused, has, line_has}

-- 1. EACH JOB OWED STANDS ONCE

-- in how many places a job of this number stands
abbrev pub standing : ℕ → State → ℕ
standing n s = count (has n) s.ready + (count (has n) s.parked + count (line_has n) s.ended)

-- j is the job o, later
abbrev pub SameJob : Job → Job → Type 0
SameJob j o = (o.mark ≡ j.mark) × (o.computation ≡ j.computation)

-- every job owed stands exactly once, in one list alone, as it was accepted, and no other job stands there
pub record StandsOnce (s : State) (js : List Job) : Type 0 where
  pub each : (n : ℕ) → standing n s ≡ count (has n) js
  pub once : (n : ℕ) → count (has n) js ≤ 1
  pub same : Every (λ j. Among (SameJob j) js) (s.ready ++ s.parked)

-- each list stands in its ranking
pub record RankedLists (ρ : Parts) (s : State) : Type 0 where
  pub by_order : Sorted (ready_order ρ) s.ready
  pub by_parking : Sorted (parked_order ρ) s.parked
  pub by_tick : Sorted ended_order s.ended

-- 4. ARRIVALS

-- a ready job that may give way
abbrev pub Yields : Parts → State → Job → Type 0
Yields ρ s v = Among (λ r. r ≡ v) s.ready × (v.mark.class ≡ Hard) × (ρ.spared v ≡ false)

-- to a HARD arrival may give way nobody, or one job strictly before it in the policy; to a CRITICAL one any set
abbrev pub MayGiveWay : Parts → State → Job → Class → List Job → Type 0
MayGiveWay ρ s j Hard vs = (vs ≡ []) ⊎ ((v : Job) × (vs ≡ v ∷ []) × Yields ρ s v × (strictly ρ.policy v j ≡ true))
MayGiveWay ρ s j Critical vs = Every (Yields ρ s) vs

abbrev pub SomeSetHelps : Parts → State → Job → Type 0
SomeSetHelps ρ s j = (vs : List Job) × MayGiveWay ρ s j j.mark.class vs × (fits ρ s.clock (without vs s.ready) j ≡ true)

abbrev pub NoSetHelps : Parts → State → Job → Type 0
NoSetHelps ρ s j = (vs : List Job) → MayGiveWay ρ s j j.mark.class vs → fits ρ s.clock (without vs s.ready) j ≡ false

-- an arrival is parked exactly when no set that may give way helps
abbrev pub ParkedOnlyForWant : Parts → State → Job → Answer → Type 0
ParkedOnlyForWant ρ s j (ready e w n) = SomeSetHelps ρ s j
ParkedOnlyForWant ρ s j (parked e w n) = NoSetHelps ρ s j
ParkedOnlyForWant ρ s j (now_at t) = ⊥
ParkedOnlyForWant ρ s j (saved c) = ⊥
ParkedOnlyForWant ρ s j gone = ⊥
ParkedOnlyForWant ρ s j (line e) = ⊥
ParkedOnlyForWant ρ s j (refused e) = Unit {0}

-- the arrival n stands where the answer says; parked, it leaves the ready list as it was; refused, all
abbrev pub StandsAsAnswered : ℕ → State → State → Answer → Type 0
StandsAsAnswered n s s' (ready e w k) = some (has n) s'.ready ≡ true
StandsAsAnswered n s s' (parked e w k) = (some (has n) s'.parked ≡ true) × (s'.ready ≡ s.ready)
StandsAsAnswered n s s' (now_at t) = ⊥
StandsAsAnswered n s s' (saved c) = ⊥
StandsAsAnswered n s s' gone = ⊥
StandsAsAnswered n s s' (line e) = ⊥
StandsAsAnswered n s s' (refused e) = s' ≡ s

-- v alone would make room for the HARD arrival j
abbrev pub WouldDo : Parts → State → Job → Job → Type 0
WouldDo ρ s j v = Yields ρ s v × (strictly ρ.policy v j ≡ true) × (fits ρ s.clock (without (v ∷ []) s.ready) j ≡ true)

-- r was displaced lawfully: by a HARD arrival, as the first in the policy of the jobs that would do
abbrev pub GaveWay : Parts → State → Job → Class → Job → Type 0
GaveWay ρ s j Hard r = WouldDo ρ s j r × Every (λ v. WouldDo ρ s j v → policy_order ρ v r ≡ false) s.ready
GaveWay ρ s j Critical r = Yields ρ s r

abbrev pub DisplacedLawfully : Parts → State → Job → State → Type 0
DisplacedLawfully ρ s j s' = Every (λ r. some (has (number r)) s'.parked ≡ true → GaveWay ρ s j j.mark.class r) s.ready

-- 5. ENDINGS

-- a job that ended in time ended by its limit; a missed one had more to do than there was time left
abbrev pub Timely : Job → Ending → EndKind → Type 0
Timely o e InTime = e.tick ≤ limit o
Timely o e Missed = limit o < e.tick + o.computation
Timely o e Withdrawn = Unit {0}

-- the line is that of a job owed
abbrev pub LineOf : List Job → Ending → Type 0
LineOf js e = Among (λ o. (number o ≡ e.number) × Timely o e e.kind) js

-- a missed job was never ready, or its line names the arrival that last displaced it
abbrev pub Explained : List Moment → Ending → EndKind → Type 0
Explained ms e InTime = Unit {0}
Explained ms e Missed = (was_ready e.number false ms ≡ false) ⊎ ((0 < e.by) × (displacer e.number 0 ms ≡ e.by))
Explained ms e Withdrawn = Unit {0}

-- a job that was missed in this moment was parked, and what it still had to do was more than the time to its limit
abbrev pub MissedLate : Moment → Type 0
MissedLate m = Every (λ p. Among (λ e. (e.number ≡ number p) × (e.kind ≡ Missed)) m.after.ended → limit p < m.after.clock + p.remaining) m.before.parked

-- THE WHOLE, of a state and of the moments that led to it
pub record Sound (ρ : Parts) (s : State) (ms : List Moment) : Type 0 where
  -- 1
  pub stands : StandsOnce s (owed ms [])
  pub ranked : RankedLists ρ s
  pub lasting : Every (λ j. (1 ≤ j.remaining) × (j.remaining ≤ j.computation)) (s.ready ++ s.parked)
  -- 2
  pub kept : holds s.clock s.ready ≡ true
  pub worked : (q : Plan) → WorksInOrder q s.clock s.ready → PlanHolds q s.clock s.ready
  pub workable : WorksInOrder (in_order s.clock s.ready) s.clock s.ready
  -- 3
  pub full : Every (λ p. fits ρ s.clock s.ready p ≡ false) s.parked
  pub no_plan : Every (λ p. FollowsLimits (place ρ p s.ready) → (q : Plan) → PlanHolds q s.clock (place ρ p s.ready) → ⊥) s.parked
  -- 4
  pub fair : (a : Arrival) → ParkedOnlyForWant ρ s (job_of s a) (serve ρ s (arrive a)).answer
  pub placed : (a : Arrival) → StandsAsAnswered a.number s (serve ρ s (arrive a)).state (serve ρ s (arrive a)).answer
  pub displaced : (a : Arrival) → DisplacedLawfully ρ s (job_of s a) (serve ρ s (arrive a)).state
  -- 5
  pub timely : Every (LineOf (owed ms [])) s.ended
  pub late : Every MissedLate ms
  pub explained : Every (λ e. Explained ms e e.kind) s.ended

-- In every state of every run, under any lawful parts, the promise holds.
abbrev pub EveryRunIsSound : Type 0
EveryRunIsSound = (ρ : Parts) → LawfulParts ρ → (ks : List Call) → Sound ρ (after ρ start ks) (trace ρ start ks)

-- calls on a new scheduler lead to this state by these moments
abbrev pub Reached : Parts → State → List Moment → Type 0
Reached ρ s ms = (ks : List Call) × (after ρ start ks ≡ s) × (trace ρ start ks ≡ ms)

-- what a call that leads from s to s' promises: whatever led to s, the state after it is sound
abbrev pub PromiseKept : Parts → State → Call → State → Type 0
PromiseKept ρ s k s' = (ms : List Moment) → Reached ρ s ms → Sound ρ s' (ms ++ moments ρ s k)

-- every call keeps the promise, and leads from a reached state to a reached state
pub record CallKeeps (ρ : Parts) (s : State) (k : Call) : Type 0 where
  pub sound : PromiseKept ρ s k (serve ρ s k).state
  pub reached : (ms : List Moment) → Reached ρ s ms → Reached ρ (serve ρ s k).state (ms ++ moments ρ s k)

abbrev pub EveryCallKeeps : Type 0
EveryCallKeeps = (ρ : Parts) → LawfulParts ρ → (s : State) (k : Call) → CallKeeps ρ s k

-- Under the order by earlier limit the ready jobs with any other always follow the limits: no plan at all holds a parked job as well.
abbrev pub NoPlanByLimit : Type 0
NoPlanByLimit =
    (ρ : Parts) → LawfulParts ρ → ρ.order ≡ earlier_limit → (ks : List Call) →
    let s = after ρ start ks in
    Every (λ p. (q : Plan) → PlanHolds q s.clock (place ρ p s.ready) → ⊥) s.parked
