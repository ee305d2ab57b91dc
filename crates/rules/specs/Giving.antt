-- Which jobs give way to an arrival, and how lists change hands.
use Rattle.std.specs.Prelude.{ℕ, Bool, true, false, cond, not, ◌&&◌, List, [], ◌∷◌, filter}
use Rattle.jobs.specs.declared.job.Class.{Class}
use Rattle.jobs.specs.declared.job.Class.TheVariants.{Hard, Critical}
use Rattle.jobs.specs.declared.job.Job.{Job}
use Rattle.rankings.specs.Ranked.{strictly, insert}
use Rattle.jobs.specs.Records.{number}
use Rattle.timing.specs.Timing.{holds}
use Rattle.rules.specs.Lists.{insert_all, some}
use Rattle.rules.specs.States.{Parts, State, ready_order, policy_order, has, other}

-- the ready list with one job more
abbrev pub place : Parts → Job → List Job → List Job
place ρ = insert (ready_order ρ)

-- the list, with j added by the dispatch order, holds from the tick t on
abbrev pub fits : Parts → ℕ → List Job → Job → Bool
fits ρ t rs j = holds t (place ρ j rs)

-- the two lists, parked jobs taken once in their ranking: each that fits becomes ready
pub record Swept : Type 0 where
  pub ready : List Job
  pub parked : List Job

abbrev pub left_parked : Job → Swept → Swept
left_parked p w = record { ready = w.ready; parked = p ∷ w.parked }

abbrev pub sweep : Parts → ℕ → List Job → List Job → Swept
sweep ρ t rs [] = record { ready = rs; parked = [] }
sweep ρ t rs (p ∷ ps) = cond (fits ρ t rs p) (sweep ρ t (place ρ p rs) ps) (left_parked p (sweep ρ t rs ps))

abbrev pub swept : Parts → State → State
swept ρ s =
    let w = sweep ρ s.clock s.ready s.parked in
    record { clock = s.clock; ready = w.ready; parked = w.parked; ended = s.ended }

-- of the jobs vs
abbrev pub among : List Job → Job → Bool
among vs j = some (has (number j)) vs

abbrev pub without : List Job → List Job → List Job
without vs rs = filter (λ r. not (among vs r)) rs

abbrev pub is_hard : Class → Bool
is_hard Hard = true
is_hard Critical = false

-- a ready job that may give way: HARD and not spared
abbrev pub yields : Parts → Job → Bool
yields ρ v = is_hard v.mark.class && not (ρ.spared v)

-- to a HARD arrival, a job strictly before it in the policy, without which it fits; to a CRITICAL one, any
abbrev pub gives_way : Parts → State → Job → Class → Job → Bool
gives_way ρ s j Hard v = yields ρ v && (strictly ρ.policy v j && fits ρ s.clock (filter (other (number v)) s.ready) j)
gives_way ρ s j Critical v = yields ρ v

-- those jobs in the policy's order
abbrev pub candidates : Parts → State → Job → List Job
candidates ρ s j = insert_all (policy_order ρ) (filter (gives_way ρ s j j.mark.class) s.ready) []

abbrev pub and_more : Job → List Job → List Job
and_more v [] = []
and_more v (m ∷ ms) = v ∷ (m ∷ ms)

-- the shortest front of the candidates without which j fits; none where even all do not do
abbrev pub enough : Parts → ℕ → Job → List Job → List Job → List Job
enough ρ t j rs [] = []
enough ρ t j rs (v ∷ vs) =
    let left = filter (other (number v)) rs in
    cond (fits ρ t left j) (v ∷ []) (and_more v (enough ρ t j left vs))

-- the jobs that are set aside for j, none where nothing helps
abbrev pub victims : Parts → State → Job → List Job
victims ρ s j = enough ρ s.clock j s.ready (candidates ρ s j)
