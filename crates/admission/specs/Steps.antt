-- What each step of a roster does: it leads from the state s to s'.
--
-- A step that needs room says of a refusal where the room was wanting, so that whoever has it knows that the step is done.
use Rattle.std.specs.Prelude.{◌≡◌, ℕ, ◌+◌, ◌<◌, ◌≤◌, Bool, false, cond, not, List, [], ◌∷◌, length, take, Some, None, Ok, Err, Option, Result, slice_index_or}
use Rattle.std.specs.List.{remove, AllByRecursion as Every}
use Rattle.jobs.specs.Records.{number, blank}
use Rattle.jobs.specs.declared.ending.EndKind.{EndKind}
use Rattle.jobs.specs.declared.ending.EndKind.TheVariants.{Missed}
use Rattle.jobs.specs.declared.ending.Ending.{Ending}
use Rattle.jobs.specs.declared.job.Job.{Job}
use Rattle.jobs.specs.declared.refusal.Refusal.{Refusal}
use Rattle.rankings.specs.Ranked.{insert}
use Rattle.rules.specs.Calls.{name_displacer, make_way, admit, ends, worked, last_tick, late, expire, tick}
use Rattle.rules.specs.Giving.{place, fits, swept, among, without, gives_way, candidates, enough, victims}
use Rattle.rules.specs.Lists.{insert_all, some, count}
use Rattle.rules.specs.Ranges.{Fields}
use Rattle.rules.specs.States.{Parts, ended_order, State, Answer, ready, parked, answers, has, population}
use Rattle.timing.specs.Overruns.{exceeding_of, cause_of}
use Rattle.stores.specs.Tables.{listed}
use Rattle.stores.specs.declared.table.RecordTable.{RecordTable}
use Rattle.admission.specs.declared.admitting.Admission.{Admission}
use Rattle.admission.specs.declared.admitting.Verdict.{Verdict}
use Rattle.admission.specs.declared.admitting.Verdict.TheVariants.{Ready, Parked}

abbrev pub state : ℕ → List Job → List Job → List Ending → State
state t rs ps es = record { clock = t; ready = rs; parked = ps; ended = es }

-- a state with another ready, parked or ended list

abbrev pub with_ready : List Job → State → State
with_ready rs s = state s.clock rs s.parked s.ended

abbrev pub with_parked : List Job → State → State
with_parked ps s = state s.clock s.ready ps s.ended

abbrev pub with_ended : List Ending → State → State
with_ended es s = state s.clock s.ready s.parked es

-- what a step leaves alone, also where it is refused: the clock, and some of the lists

abbrev pub KeepsClock : State → State → Type 0
KeepsClock s s' = s'.clock ≡ s.clock

abbrev pub KeepsReady : State → State → Type 0
KeepsReady s s' = (s'.clock ≡ s.clock) × (s'.ready ≡ s.ready)

abbrev pub KeepsEndings : State → State → Type 0
KeepsEndings s s' = (s'.clock ≡ s.clock) × (s'.ended ≡ s.ended)

-- all but the ready jobs
abbrev pub KeepsOthers : State → State → Type 0
KeepsOthers s s' = (s'.clock ≡ s.clock) × (s'.parked ≡ s.parked) × (s'.ended ≡ s.ended)

-- a clock within its range stays within it
abbrev pub KeepsRange : State → State → Type 0
KeepsRange s s' = s.clock ≤ 1000000000 → s'.clock ≤ 1000000000

-- BECOMING READY

abbrev pub Enqueues : Parts → Job → Result (Unit {0}) Refusal → State → State → Type 0
Enqueues ρ j (Ok _) s s' = s' ≡ with_ready (place ρ j s.ready) s
Enqueues ρ j (Err e) s s' = 64 ≤ length s.ready

-- the parked job j becomes one of the ready jobs rs if it fits, and else stays parked
abbrev pub SweepsOne : Parts → ℕ → Job → List Job → List Job → Result Bool Refusal → Type 0
SweepsOne ρ t j rs rs' (Ok stays) = (stays ≡ not (fits ρ t rs j)) × (rs' ≡ cond stays rs (place ρ j rs))
SweepsOne ρ t j rs rs' (Err e) = 64 ≤ length rs

abbrev pub Sweeps : Parts → Result (Unit {0}) Refusal → State → State → Type 0
Sweeps ρ (Ok _) s s' = swept ρ s ≡ s'
Sweeps ρ (Err e) s s' = 64 < length s.ready + length s.parked

-- GIVING WAY

abbrev pub TellsWho : Parts → State → Job → Job → Result Bool Refusal → Type 0
TellsWho ρ s j v (Ok b) = b ≡ gives_way ρ s j j.mark.class v
TellsWho ρ s j v (Err e) = 64 ≤ length s.ready

abbrev pub FindsCandidates : Parts → State → Job → Result (RecordTable Job) Refusal → Type 0
FindsCandidates ρ s j (Ok found) = listed found ≡ candidates ρ s j
FindsCandidates ρ s j (Err e) = 64 ≤ length s.ready

-- the first n of the candidates cs are enough, or even all of them are not
abbrev pub FindsEnough : Parts → State → Job → List Job → Result (Option ℕ) Refusal → Type 0
FindsEnough ρ s j cs (Ok (Some n)) = (1 ≤ n) × (n ≤ length cs) × (take n cs ≡ enough ρ s.clock j s.ready cs)
FindsEnough ρ s j cs (Ok None) = enough ρ s.clock j s.ready cs ≡ []
FindsEnough ρ s j cs (Err e) = 64 ≤ length s.ready

abbrev pub LeavesOut : List Job → List Job → List Job → Result (Unit {0}) Refusal → Type 0
LeavesOut vs rs rs' (Ok _) = rs' ≡ without vs rs
LeavesOut vs rs rs' (Err e) = ⊥

abbrev pub Parks : (Job → Job → Bool) → List Job → List Job → List Job → Result (Unit {0}) Refusal → Type 0
Parks first vs ps ps' (Ok _) = ps' ≡ insert_all first vs ps
Parks first vs ps ps' (Err e) = 64 < length vs + length ps

abbrev pub Names : ℕ → List Job → List Job → List Job → ℕ → Type 0
Names n vs ps ps' k = (ps' ≡ name_displacer vs n ps) × (k ≡ count (among vs) ps')

-- the jobs vs gave way to j, and k of them are displaced
pub record WayMade (ρ : Parts) (j : Job) (vs : List Job) (s s' : State) (k : ℕ) : Type 0 where
  pub state : make_way ρ s j vs ≡ s'
  pub displaced : k ≡ count (among vs) s'.parked

-- how many jobs stand in the two lists once the jobs vs have given way to one more
abbrev pub crowd : List Job → List Job → List Job → ℕ
crowd vs rs ps = 1 + (length (without vs rs) + (length vs + length ps))

abbrev pub MakesWay : Parts → Job → List Job → Result ℕ Refusal → State → State → Type 0
MakesWay ρ j vs (Ok k) s s' = WayMade ρ j vs s s' k
MakesWay ρ j vs (Err e) s s' = 64 < crowd vs s.ready s.parked

-- room is made for j, or nothing helps
abbrev pub Gives : Parts → Job → Result (Option ℕ) Refusal → State → State → Type 0
Gives ρ j (Ok (Some k)) s s' = (v : Job) × (vs : List Job) × (victims ρ s j ≡ v ∷ vs) × WayMade ρ j (v ∷ vs) s s' k
Gives ρ j (Ok None) s s' = (victims ρ s j ≡ []) × (s' ≡ s)
Gives ρ j (Err e) s s' = length s.ready < 64 → 64 < crowd (victims ρ s j) s.ready s.parked

-- ARRIVING

abbrev pub told_by : Verdict → ℕ → ℕ → Answer
told_by (Ready n) e w = ready e w n
told_by Parked e w = parked e w 0

-- what an admission tells: where the job stands, E, the cause and the number of jobs displaced
abbrev pub told : Admission → Answer
told a = told_by a.verdict (exceeding_of a.overrun) (cause_of a.overrun)

-- exactly as the rules say, wherever fewer than 64 jobs are known and no ready number stands twice
abbrev pub Admits : Parts → Job → Result Admission Refusal → State → State → Type 0
Admits ρ j (Ok a) s s' = admit ρ s j ≡ answers (told a) s'
Admits ρ j (Err e) s s' = length s.ready + length s.parked < 64 → ((n : ℕ) → count (has n) s.ready ≤ 1) → ⊥

-- ENDING

-- the first place of the job n
abbrev pub Finds : ℕ → List Job → Option ℕ → Type 0
Finds n js (Some p) = (p < length js) × (number (slice_index_or js p blank) ≡ n) × (some (has n) (take p js) ≡ false)
Finds n js None = some (has n) js ≡ false

-- j, which stood at a place, has left its list, and its line stands among the endings
pub record Ended (place : ℕ) (k : EndKind) (t : ℕ) (js : List Job) (es : List Ending) (js' : List Job) (es' : List Ending) (j : Job) : Type 0 where
  pub within : place < length js
  pub job : j ≡ slice_index_or js place blank
  pub left : js' ≡ remove js place
  pub lines : es' ≡ insert ended_order (ends t k j) es

abbrev pub Ends : ℕ → EndKind → ℕ → List Job → List Ending → List Job → List Ending → Result Job Refusal → Type 0
Ends place k t js es js' es' (Ok j) = Ended place k t js es js' es' j
Ends place k t js es js' es' (Err e) = place < length js → 64 ≤ length es

-- the line of j among the endings
abbrev pub with_line : EndKind → Job → State → State
with_line k j s = with_ended (insert ended_order (ends s.clock k j) s.ended) s

-- the ready job j, which stood at a place, has ended, and the sweep has run
pub record ReadyEnded (ρ : Parts) (place : ℕ) (k : EndKind) (s s' : State) (j : Job) : Type 0 where
  pub within : place < length s.ready
  pub job : j ≡ slice_index_or s.ready place blank
  pub state : swept ρ (with_ready (remove s.ready place) (with_line k j s)) ≡ s'

abbrev pub EndsReady : Parts → ℕ → EndKind → Result Job Refusal → State → State → Type 0
EndsReady ρ place k (Ok j) s s' = ReadyEnded ρ place k s s' j
EndsReady ρ place k (Err e) s s' = place < length s.ready → 64 < population s

-- the parked job j, which stood at a place, has ended
pub record ParkedEnded (place : ℕ) (k : EndKind) (s s' : State) (j : Job) : Type 0 where
  pub within : place < length s.parked
  pub job : j ≡ slice_index_or s.parked place blank
  pub state : with_parked (remove s.parked place) (with_line k j s) ≡ s'

abbrev pub EndsParked : ℕ → EndKind → Result Job Refusal → State → State → Type 0
EndsParked place k (Ok j) s s' = ParkedEnded place k s s' j
EndsParked place k (Err e) s s' = place < length s.parked → 64 ≤ length s.ended

-- the parked job j ends as missed if it can no longer make its limit, and else stays parked
abbrev pub ExpiresOne : ℕ → Job → List Ending → List Ending → Result Bool Refusal → Type 0
ExpiresOne t j es es' (Ok stays) = (stays ≡ not (late t j)) × (es' ≡ cond stays es (insert ended_order (ends t Missed j) es))
ExpiresOne t j es es' (Err e) = 64 ≤ length es

abbrev pub Expires : Result (Unit {0}) Refusal → State → State → Type 0
Expires (Ok _) s s' = expire s ≡ s'
Expires (Err e) s s' = 64 < length s.parked + length s.ended

-- WORKING

-- the first ready job, if any, is worked for the tick that ends now
pub record FirstWorked (s s' : State) (b : Bool) : Type 0 where
  pub done : b ≡ last_tick s.ready
  pub state : worked s.clock s s.ready ≡ s'

abbrev pub Lasting : Job → Type 0
Lasting j = (1 ≤ j.remaining) × (j.remaining ≤ j.computation)

abbrev pub WorksFirst : Result Bool Refusal → State → State → Type 0
WorksFirst (Ok done) s s' = (s'.clock ≡ s.clock) × (Every Lasting s.ready → FirstWorked s s' done)
WorksFirst (Err e) s s' = Every Lasting s.ready → 64 < length s.ready + length s.ended

-- the steps of the tick that ends now, which began at the tick u: where the fields were in their ranges then, they do what that tick does, and none is refused
abbrev pub TakesSteps : Parts → Result (Unit {0}) Refusal → State → State → Type 0
TakesSteps ρ (Ok _) s s' = (s'.clock ≡ s.clock) × ((u : ℕ) → s.clock ≡ u + 1 → Fields (state u s.ready s.parked s.ended) → tick ρ (state u s.ready s.parked s.ended) ≡ s')
TakesSteps ρ (Err e) s s' = (u : ℕ) → s.clock ≡ u + 1 → Fields (state u s.ready s.parked s.ended) → ⊥

abbrev pub Ticks : Parts → Result ℕ Refusal → State → State → Type 0
Ticks ρ (Ok t) s s' = (t ≡ s.clock + 1) × (t ≤ 1000000000) × (t ≡ s'.clock) × (Fields s → tick ρ s ≡ s')
Ticks ρ (Err e) s s' = Fields s → (1000000000 ≤ s.clock) × (s' ≡ s)
