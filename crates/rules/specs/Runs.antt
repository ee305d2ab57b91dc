-- Runs of calls on a scheduler, moment by moment, and what their moments alone tell of each job.
use Rattle.std.specs.Prelude.{ℕ, zero, suc, Bool, false, cond, not, ◌&&◌, ◌||◌, List, [], ◌∷◌, ◌++◌, filter}
use Rattle.jobs.specs.declared.job.Job.{Job}
use Rattle.jobs.specs.Records.{number}
use Rattle.rules.specs.Calls.{job_of, tick, serve}
use Rattle.rules.specs.Lists.{some}
use Rattle.rules.specs.States.{Parts, State, Call, arrive, work, finish, withdraw, collect, Answer, ready, parked, now_at, saved, gone, line, refused, has, other}

pub data Event : Type 0 where
  accepted : Job → Event
  collected : ℕ → Event
  nothing_new : Event

-- a call, or a tick of work: what came of it, and the states around it
pub record Moment : Type 0 where
  pub event : Event
  pub before : State
  pub after : State

-- a job is accepted when its arrive is not refused
abbrev pub arrived : Job → Answer → Event
arrived j (ready e w n) = accepted j
arrived j (parked e w n) = accepted j
arrived j (now_at t) = nothing_new
arrived j (saved c) = nothing_new
arrived j gone = nothing_new
arrived j (line e) = nothing_new
arrived j (refused e) = nothing_new

-- and collected when collect answers its line
abbrev pub handed_out : Answer → Event
handed_out (ready e w n) = nothing_new
handed_out (parked e w n) = nothing_new
handed_out (now_at t) = nothing_new
handed_out (saved c) = nothing_new
handed_out gone = nothing_new
handed_out (line e) = collected e.number
handed_out (refused e) = nothing_new

abbrev pub event_of : State → Call → Answer → Event
event_of s (arrive a) r = arrived (job_of s a) r
event_of s (work n) r = nothing_new
event_of s (finish n) r = nothing_new
event_of s (withdraw n) r = nothing_new
event_of s collect r = handed_out r

abbrev pub moment_of : Parts → State → Call → Moment
moment_of ρ s k = record { event = event_of s k (serve ρ s k).answer; before = s; after = (serve ρ s k).state }

abbrev pub tick_moments : Parts → ℕ → State → List Moment
tick_moments ρ zero s = []
tick_moments ρ (suc n) s = record { event = nothing_new; before = s; after = tick ρ s } ∷ tick_moments ρ n (tick ρ s)

-- work that is done goes by its ticks; refused, it is one moment
abbrev pub work_moments : Parts → State → ℕ → Answer → List Moment
work_moments ρ s n (ready e w k) = []
work_moments ρ s n (parked e w k) = []
work_moments ρ s n (now_at t) = tick_moments ρ n s
work_moments ρ s n (saved c) = []
work_moments ρ s n gone = []
work_moments ρ s n (line e) = []
work_moments ρ s n (refused e) = record { event = nothing_new; before = s; after = s } ∷ []

abbrev pub moments : Parts → State → Call → List Moment
moments ρ s (arrive a) = moment_of ρ s (arrive a) ∷ []
moments ρ s (work n) = work_moments ρ s n (serve ρ s (work n)).answer
moments ρ s (finish n) = moment_of ρ s (finish n) ∷ []
moments ρ s (withdraw n) = moment_of ρ s (withdraw n) ∷ []
moments ρ s collect = moment_of ρ s collect ∷ []

-- the state after a list of calls, and all the moments on the way
abbrev pub after : Parts → State → List Call → State
after ρ s [] = s
after ρ s (k ∷ ks) = after ρ (serve ρ s k).state ks

abbrev pub trace : Parts → State → List Call → List Moment
trace ρ s [] = []
trace ρ s (k ∷ ks) = moments ρ s k ++ trace ρ (serve ρ s k).state ks

-- THE JOBS OWED: accepted and not yet collected, as they were accepted

abbrev pub note : Event → List Job → List Job
note (accepted j) js = j ∷ js
note (collected n) js = filter (other n) js
note nothing_new js = js

abbrev pub owed : List Moment → List Job → List Job
owed [] js = js
owed (m ∷ ms) js = owed ms (note m.event js)

-- WAS READY: the job n stood in the ready list after some moment since it was accepted

abbrev pub accepts : ℕ → Event → Bool
accepts n (accepted j) = has n j
accepts n (collected k) = false
accepts n nothing_new = false

abbrev pub seen_after : ℕ → Moment → Bool → Bool
seen_after n m seen = some (has n) m.after.ready || (seen && not (accepts n m.event))

abbrev pub was_ready : ℕ → Bool → List Moment → Bool
was_ready n seen [] = seen
was_ready n seen (m ∷ ms) = was_ready n (seen_after n m seen) ms

-- THE DISPLACER: the number of the arrival that last displaced the job n since it was accepted, 0 where none did.
-- An arrival displaced it if it stood ready before that call and parked after it.

abbrev pub moved : ℕ → State → State → Bool
moved n b a = some (has n) b.ready && some (has n) a.parked

abbrev pub displaced_by : ℕ → Event → State → State → ℕ → ℕ
displaced_by n (accepted j) b a last = cond (has n j) 0 (cond (moved n b a) (number j) last)
displaced_by n (collected k) b a last = last
displaced_by n nothing_new b a last = last

abbrev pub displacer : ℕ → ℕ → List Moment → ℕ
displacer n last [] = last
displacer n last (m ∷ ms) = displacer n (displaced_by n m.event m.before m.after last) ms
