use Rattle.std.proofs.Common.{◌≡◌}
use Rattle.admission.specs.Disciplines.{policy_of, parts}
use Rattle.scheduler.specs.Keeping.{view}
use Rattle.scheduler.proofs.Rerunning.{Rerun}
use Rattle.scheduler.proofs.replay.replay.Given as goal

abbrev pub invariant-loop-place : goal.invariant-loop-place
invariant-loop-place g l =
    let d = l.initial.scheduler.discipline in
    (l.scheduler.discipline ≡ d)
    × Rerun (parts g.O.Ranking (policy_of g.P.Ranking.may g.P.Policy.spared) d) l.calls l.initial.answers l.answers l.place (view g.S.ReadyStore.jobs l.scheduler)
