use Rattle.stores.specs.Places.{jobs_left}
use Rattle.admission.specs.Disciplines.{by_dispatch}
use Rattle.admission.specs.Trials.{turn}
use Rattle.admission.proofs.Trying.{Under}
use Rattle.admission.proofs.trial.try_out.Given as goal

abbrev pub invariant-loop-other : goal.invariant-loop-other
invariant-loop-other g l =
    let first = by_dispatch g.O.Ranking l.order in
    let jobs = g.S.ReadyStore.jobs in
    (goal.iterator-loop-other g).can_next l.other-iterator
    × (goal.iterator-loop-other g).is_finite l.other-iterator
    × Under first l.job l.tick l.absent (jobs l.ready) (turn l.walk) (jobs_left jobs l.other-iterator)
