use Rattle.std.proofs.Common.{◌≡◌}
use Rattle.admission.specs.Disciplines.{policy_of, parts}
use Rattle.scheduler.specs.Keeping.{view}
use Rattle.scheduler.proofs.TickByTick.{Worked}
use Rattle.scheduler.proofs.scheduler.Scheduler.work.Given as goal

abbrev pub invariant-loop-passed : goal.invariant-loop-passed
invariant-loop-passed g l =
    let d = l.initial.self.discipline in
    let view_of = view g.S.ReadyStore.jobs in
    (l.self.discipline ≡ d)
    × Worked (parts g.O.Ranking (policy_of g.P.Ranking.may g.P.Policy.spared) d) (view_of l.initial.self) l.ticks (view_of l.self) l._passed
