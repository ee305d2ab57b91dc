use Rattle.std.proofs.Common.{◌≡◌, drop}
use Rattle.timing.specs.Tallies.{fresh, Bounded, counted_all}
use Rattle.timing.proofs.timeline.Timeline.of.Given as goal

abbrev pub invariant-loop-job : goal.invariant-loop-job
invariant-loop-job l =
    (l.timeline.jobs ≡ l.job-index)
    × Bounded l.timeline
    × (counted_all l.timeline (drop l.job-index l.jobs) ≡ counted_all (fresh l.start) l.jobs)
