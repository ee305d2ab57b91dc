-- The parts of the rules that a discipline stands for, given what its order and its policy mean.
use Rattle.std.specs.Prelude.{Bool}
use Rattle.jobs.specs.Records.{number}
use Rattle.jobs.specs.declared.job.Job.{Job}
use Rattle.jobs.specs.declared.job.Mark.{Mark}
use Rattle.rankings.specs.Ranked.{before}
use Rattle.rankings.specs.Rankings.{by_mark, larger_value}
use Rattle.rankings.specs.declared.orders.ByMark.{ByMark}
use Rattle.rankings.specs.declared.ranking.Ranking.{Ghosts as RankingOf}
use Rattle.rules.specs.States.{Parts}
use Rattle.admission.specs.declared.discipline.Discipline.{Discipline}

-- what a policy means: its ranking, and the jobs that it spares
abbrev pub PolicyOf : Type 0 → Type 0
PolicyOf P = record { may : P → Job → Job → Bool; spared : P → Job → Bool }

abbrev pub policy_of : {P : Type 0} → (P → Job → Job → Bool) → (P → Job → Bool) → PolicyOf P
policy_of may spared = record { may = may; spared = spared }

-- parked jobs stand by larger value
abbrev pub parts : {O P : Type 0} → RankingOf O Mark → PolicyOf P → Discipline O P → Parts
parts order policy d = record { order = order.may d.order.0; policy = policy.may d.policy; spared = policy.spared d.policy; parking = larger_value }

-- which of two ready jobs is worked first
abbrev pub by_dispatch : {O : Type 0} → RankingOf O Mark → ByMark O → Job → Job → Bool
by_dispatch order o = before (by_mark (order.may o.0)) number
