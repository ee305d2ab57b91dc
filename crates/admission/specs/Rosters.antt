-- A roster as the rules see it, given what its store means.
use Rattle.std.specs.Prelude.{List}
use Rattle.jobs.specs.declared.job.Job.{Job}
use Rattle.rules.specs.States.{State}
use Rattle.stores.specs.Tables.{listed}
use Rattle.stores.specs.declared.ready.ReadyStore.{Ghosts as StoreOf}
use Rattle.admission.specs.declared.roster.Roster.{Roster}

abbrev pub roster_state : {S : Type 0} → (S → List Job) → Roster S → State
roster_state jobs r = record { clock = r.clock; ready = jobs r.ready; parked = listed r.parked; ended = listed r.ended }

-- a step leads from the roster r to r'
abbrev pub Leads : {S : Type 0} → StoreOf S → (State → State → Type 0) → Roster S → Roster S → Type 0
Leads store step r r' = step (roster_state store.jobs r) (roster_state store.jobs r')
