use Rattle.std.proofs.Common.{◌-◌, length}
use Rattle.std.specs.Fn.{CalledWithState}
use Rattle.admission.proofs.Asking.{Asking}
use Rattle.admission.proofs.retaining.try_retain.Given as goal

abbrev pub invariant-loop-place : goal.invariant-loop-place
invariant-loop-place g l =
    let jobs = g.S.ReadyStore.jobs in
    goal.F-IsAlwaysCallable g l.keep
    × Asking (CalledWithState g.F.FnMut) l.initial.keep l.initial.state (jobs l.initial.list) l.keep l.state (jobs l.list) l.place

abbrev pub decreases-loop-place : goal.decreases-loop-place
decreases-loop-place g l = length (g.S.ReadyStore.jobs l.list) - l.place
