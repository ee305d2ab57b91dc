use Rattle.std.proofs.Common.{ap}
use Rattle.std.proofs.lemmas.Result.{err_from_is_err_and}
use Rattle.rules.specs.States.{ready_order}
use Rattle.admission.specs.Disciplines.{policy_of, parts}
use Rattle.admission.specs.Rosters.{roster_state}
use Rattle.admission.specs.Steps.{with_ready}
use Rattle.admission.proofs.Places.{placed, placed_full}
use Rattle.admission.proofs.roster.Roster.enqueue.Goals as goal

pub returns-in_err-insert-clause-step : goal.returns-in_err-insert-clause-step
returns-in_err-insert-clause-step g c =
    let ρ = parts g.O.Ranking (policy_of g.P.Ranking.may g.P.Policy.spared) c.args.discipline.now in
    let p = err_from_is_err_and c.from_residual-in_err-insert.result c.from_residual-in_err-insert.ensures.1 in
    rw p.1 (placed_full (ready_order ρ) c.args.job (g.S.ReadyStore.jobs c.args.self.now.ready) _ _ c.in_ok-place.ensures.at c.in_err-insert.ensures.list.0)

pub returns-clause-step : goal.returns-clause-step
returns-clause-step g c =
    let ρ = parts g.O.Ranking (policy_of g.P.Ranking.may g.P.Policy.spared) c.args.discipline.now in
    let was = roster_state g.S.ReadyStore.jobs c.args.self.now in
    ap (λ rs. with_ready rs was) (placed (ready_order ρ) c.args.job was.ready _ _ c.in_ok-place.ensures.at c.in_ok-insert.ensures.list)
