use Rattle.std.proofs.Common.{◌≡◌}
use Rattle.timing.proofs.Profiling.{Filled}
use Rattle.timing.proofs.timeline.profile.Given as goal

abbrev pub invariant-loop-place : goal.invariant-loop-place
invariant-loop-place l =
    (l.timeline.start ≡ l.start)
    × (l.timeline.jobs ≡ l.place)
    × Filled l.start l.jobs l.initial.table l.table l.place l.timeline.sum
