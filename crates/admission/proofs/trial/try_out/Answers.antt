use Rattle.std.proofs.Common.{ap, ◌∙◌}
use Rattle.std.proofs.lemmas.Result.{err_from_is_err_and}
use Rattle.stores.specs.Places.{jobs_left}
use Rattle.admission.proofs.Trying.{try_begun, try_skip, try_pass, try_full, try_end}
use Rattle.admission.proofs.trial.try_out.Goals as goal

pub loop-other-init : goal.loop-other-init
loop-other-init g c =
    let all = ap (jobs_left g.S.ReadyStore.jobs) c.into_iter-other-iterator.ensures.into_iter_gives ∙ c.iter-other-items.ensures in
    (tt, tt, try_begun _ _ _ _ _ _ _ c.new.ensures.value all)

pub loop-other-preserved-then-has_number : goal.loop-other-preserved-then-has_number
loop-other-preserved-then-has_number g c =
    (tt, tt, try_skip _ _ _ _ _ _ _ _ _ _ c.in-Some.ensures.steps c.has_number.ensures c.loop-other.invariant.2 c.if-has_number.true)

pub loop-other-preserved : goal.loop-other-preserved
loop-other-preserved g c =
    (tt, tt, try_pass _ _ _ _ _ _ _ _ _ _ c.in-Some.ensures.steps c.has_number.ensures c.loop-other.invariant.2 _ c.if-has_number.false c.in_ok-pass.ensures)

pub returns-in_err-pass : goal.returns-in_err-pass
returns-in_err-pass g c =
    let p = err_from_is_err_and c.from_residual.result c.from_residual.ensures.1 in
    rw p.1 (try_full _ _ _ _ _ _ _ _ _ _ c.in-Some.ensures.steps c.has_number.ensures c.loop-other.invariant.2 c.if-has_number.false c.in_err-pass.ensures)

pub returns : goal.returns
returns g c = try_end _ _ _ _ _ _ _ _ c.in-None.ensures.steps.0 c.loop-other.invariant.2 c.finish.ensures
