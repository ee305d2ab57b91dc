use Rattle.std.proofs.Common.{sym, ap, not, ◌∙◌}
use Rattle.std.proofs.lemmas.Result.{err_from_is_err_and}
use Rattle.rules.specs.States.{ready_order}
use Rattle.admission.specs.Disciplines.{policy_of, parts}
use Rattle.admission.proofs.Places.{placed, placed_full}
use Rattle.admission.proofs.roster.fn.Roster.sweep.try_retain.Goals as goal

pub returns-in_err-insert : goal.returns-in_err-insert
returns-in_err-insert g c =
    let ρ = parts g.O.Ranking (policy_of g.P.Ranking.may g.P.Policy.spared) c.captures.discipline.now in
    let p = err_from_is_err_and c.from_residual-in_err-insert.result c.from_residual-in_err-insert.ensures.1 in
    rw p.1 (placed_full (ready_order ρ) c.args.job (g.S.ReadyStore.jobs c.args.ready.now) _ _ c.in_ok-trial.ensures.at c.in_err-insert.ensures.list.0)

pub returns : goal.returns
returns g c =
    let ρ = parts g.O.Ranking (policy_of g.P.Ranking.may g.P.Policy.spared) c.captures.discipline.now in (
      ap not (sym (sym c.in_ok-trial.ensures.fits ∙ sym c.fits.ensures ∙ c.if-not-fits.false)),
      placed (ready_order ρ) c.args.job (g.S.ReadyStore.jobs c.args.ready.now) _ _ c.in_ok-trial.ensures.at c.in_ok-insert.ensures.list,
    )
