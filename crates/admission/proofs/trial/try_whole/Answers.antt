use Rattle.std.proofs.Common.{subst}
use Rattle.rules.proofs.Fitting.{without_none}
use Rattle.admission.specs.Disciplines.{by_dispatch}
use Rattle.admission.specs.Trials.{Tries}
use Rattle.admission.proofs.trial.try_whole.Goals as goal

pub returns : goal.returns
returns g c =
    let first = by_dispatch g.O.Ranking c.args.order.now in
    subst (λ rs. Tries first c.args.tick c.args.job.now rs c.try_out.result) (without_none (g.S.ReadyStore.jobs c.args.ready.now)) c.try_out.ensures
