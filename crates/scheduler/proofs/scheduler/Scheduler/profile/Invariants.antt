use Rattle.std.proofs.Common.{◌≡◌}
use Rattle.timing.proofs.Profiling.{Filled}
use Rattle.scheduler.proofs.scheduler.Scheduler.profile.Given as goal

abbrev pub invariant-loop-place : goal.invariant-loop-place
invariant-loop-place g l =
    (l.timeline.start ≡ l.self.roster.clock)
    × (l.timeline.jobs ≡ l.place)
    × Filled l.self.roster.clock (g.S.ReadyStore.jobs l.self.roster.ready) l.initial.entry-items l.entry-items l.place l.timeline.sum
