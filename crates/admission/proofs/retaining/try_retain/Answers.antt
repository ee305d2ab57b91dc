use Rattle.std.proofs.Common.{◌<◌, length, refl, ap, arith, of_calls}
use Rattle.std.proofs.lemmas.Result.{err_from_is_err_and}
use Rattle.std.proofs.lemmas.List.Edits.{length-remove}
use Rattle.admission.proofs.Reading.{read_job, taken}
use Rattle.admission.proofs.Asking.{asking_begun, asking_stays, asking_goes, asking_refused, asking_ended}
use Rattle.admission.proofs.retaining.try_retain.Goals as goal

pub loop-place-init : goal.loop-place-init
loop-place-init g c = (search of_calls, asking_begun _ _ _ _)

pub returns-in_err-stays : goal.returns-in_err-stays
returns-in_err-stays g c =
    let xs = g.S.ReadyStore.jobs c.loop-place.list in
    let i = c.loop-place.place in
    let within : i < length xs = omega arith in
    let p = err_from_is_err_and c.from_residual-in_err-stays.result c.from_residual-in_err-stays.ensures.1 in
    rw (p.1, p.2) (asking_refused _ _ _ _ _ _ _ _ c.loop-place.invariant.1 within _ (read_job i xs within c.in_ok-job.job c.in_ok-job.ensures) _ _ _ (record { shown = _; shows = refl; left = _; called = c.in_err-stays.ensures; leaves = refl }))

pub loop-place-smaller-then-stays : goal.loop-place-smaller-then-stays
loop-place-smaller-then-stays g c = omega arith

pub loop-place-preserved-then-stays : goal.loop-place-preserved-then-stays
loop-place-preserved-then-stays g c =
    let xs = g.S.ReadyStore.jobs c.loop-place.list in
    let i = c.loop-place.place in
    let within : i < length xs = omega arith in
    (search of_calls, asking_stays _ _ _ _ _ _ _ _ c.loop-place.invariant.1 within _ (read_job i xs within c.in_ok-job.job c.in_ok-job.ensures) _ _ _ c.if-stays.true (record { shown = _; shows = refl; left = _; called = c.in_ok-stays.ensures; leaves = refl }))

pub loop-place-smaller : goal.loop-place-smaller
loop-place-smaller g c =
    let xs = g.S.ReadyStore.jobs c.loop-place.list in
    let i = c.loop-place.place in
    let within : i < length xs = omega arith in
    let out = ap length (taken i xs within _ c.in_ok-take.ensures.list) in
    omega (arith, length-remove xs i within)

pub loop-place-preserved : goal.loop-place-preserved
loop-place-preserved g c =
    let xs = g.S.ReadyStore.jobs c.loop-place.list in
    let i = c.loop-place.place in
    let within : i < length xs = omega arith in
    (search of_calls, asking_goes _ _ _ _ _ _ _ _ c.loop-place.invariant.1 within _ (read_job i xs within c.in_ok-job.job c.in_ok-job.ensures) _ _ _ c.if-stays.false (record { shown = _; shows = refl; left = _; called = c.in_ok-stays.ensures; leaves = refl }) _ (taken i xs within _ c.in_ok-take.ensures.list))

pub returns : goal.returns
returns g c = asking_ended _ _ _ _ _ _ _ _ c.loop-place.invariant.1 (omega arith)
