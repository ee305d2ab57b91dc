use Rattle.std.proofs.Common.{sym, ◌∙◌, arith}
use Rattle.std.proofs.lemmas.Result.{err_from_is_err_and}
use Rattle.rules.specs.States.{ready_order}
use Rattle.admission.specs.Disciplines.{policy_of, parts}
use Rattle.admission.specs.Rosters.{roster_state}
use Rattle.admission.proofs.Deciding.{admitted, room}
use Rattle.admission.proofs.Places.{placed, placed_full}
use Rattle.admission.proofs.roster.Roster.admit.Goals as goal

pub returns-in_err-insert-clause-step : goal.returns-in_err-insert-clause-step
returns-in_err-insert-clause-step g c =
    let ρ = parts g.O.Ranking (policy_of g.P.Ranking.may g.P.Policy.spared) c.args.discipline.now in
    let was = roster_state g.S.ReadyStore.jobs c.args.self.now in
    let full = placed_full (ready_order ρ) c.args.job was.ready _ _ c.in_ok-trial.ensures.at c.in_err-insert.ensures.list.0 in
    let p = err_from_is_err_and c.from_residual-in_err-insert.result c.from_residual-in_err-insert.ensures.1 in
    rw p.1 (λ few distinct. omega arith)

pub returns-in_ok-insert-clause-step : goal.returns-in_ok-insert-clause-step
returns-in_ok-insert-clause-step g c =
    let ρ = parts g.O.Ranking (policy_of g.P.Ranking.may g.P.Policy.spared) c.args.discipline.now in
    let was = roster_state g.S.ReadyStore.jobs c.args.self.now in
    let put = placed (ready_order ρ) c.args.job was.ready _ _ c.in_ok-trial.ensures.at c.in_ok-insert.ensures.list in
    admitted ρ c.args.job was _ c.in_ok-trial.trial c.in_ok-trial.ensures (sym c.fits.ensures ∙ c.if-fits.true) put

pub returns-in_err-displaced-clause-step : goal.returns-in_err-displaced-clause-step
returns-in_err-displaced-clause-step g c =
    let ρ = parts g.O.Ranking (policy_of g.P.Ranking.may g.P.Policy.spared) c.args.discipline.now in
    let was = roster_state g.S.ReadyStore.jobs c.args.self.now in
    let p = err_from_is_err_and c.from_residual-in_err-displaced.result c.from_residual-in_err-displaced.ensures.1 in
    rw p.1 (λ few distinct. room ρ c.args.job was few distinct c.in_err-displaced.ensures.step)
