use Rattle.std.proofs.Common.{arith, rules}
use Rattle.std.proofs.lemmas.Result.{err_from_is_err_and}
use Rattle.admission.specs.Disciplines.{policy_of, parts}
use Rattle.admission.specs.Rosters.{roster_state}
use Rattle.admission.specs.Steps.{state}
use Rattle.admission.proofs.Lawful.{lawful_parts}
use Rattle.admission.proofs.OneTick.{all_lasting, begun, room_to_expire, room_to_sweep, tick_goes_on, tick_sweeps}
use Rattle.admission.proofs.roster.Roster.take_steps.Goals as goal

pub returns-in_err-expire-clause-step : goal.returns-in_err-expire-clause-step
returns-in_err-expire-clause-step g c =
    let d = c.args.discipline.now in
    let ρ = parts g.O.Ranking (policy_of g.P.Ranking.may g.P.Policy.spared) d in
    let laws = lawful_parts g.O.Ranking (policy_of g.P.Ranking.may g.P.Policy.spared) g.met.O.Ranking.total g.met.O.Ranking.transitive g.met.P.Ranking.total g.met.P.Ranking.transitive d in
    let now = roster_state g.S.ReadyStore.jobs c.args.self.now in
    let p = err_from_is_err_and c.from_residual-in_err-expire.result c.from_residual-in_err-expire.ensures.1 in
    rw p.1 (λ u is f. let was = state u now.ready now.parked now.ended in absurd (omega (arith, room_to_expire ρ laws was f _ _ (begun now _ _ u is (c.in_ok-done.ensures.step.1 (all_lasting was f))), c.in_err-expire.ensures.step)))

pub returns-in_err-sweep-clause-step : goal.returns-in_err-sweep-clause-step
returns-in_err-sweep-clause-step g c =
    let d = c.args.discipline.now in
    let ρ = parts g.O.Ranking (policy_of g.P.Ranking.may g.P.Policy.spared) d in
    let laws = lawful_parts g.O.Ranking (policy_of g.P.Ranking.may g.P.Policy.spared) g.met.O.Ranking.total g.met.O.Ranking.transitive g.met.P.Ranking.total g.met.P.Ranking.transitive d in
    let now = roster_state g.S.ReadyStore.jobs c.args.self.now in
    let p = err_from_is_err_and c.from_residual-in_err-sweep.result c.from_residual-in_err-sweep.ensures.1 in
    rw p.1 (λ u is f. let was = state u now.ready now.parked now.ended in absurd (omega (arith, room_to_sweep ρ laws was f _ _ (begun now _ _ u is (c.in_ok-done.ensures.step.1 (all_lasting was f))) _ c.in_ok-expire.ensures.step, c.in_err-sweep.ensures.step)))

pub returns-in_ok-sweep-clause-step : goal.returns-in_ok-sweep-clause-step
returns-in_ok-sweep-clause-step g c =
    let d = c.args.discipline.now in
    let ρ = parts g.O.Ranking (policy_of g.P.Ranking.may g.P.Policy.spared) d in
    let laws = lawful_parts g.O.Ranking (policy_of g.P.Ranking.may g.P.Policy.spared) g.met.O.Ranking.total g.met.O.Ranking.transitive g.met.P.Ranking.total g.met.P.Ranking.transitive d in
    let now = roster_state g.S.ReadyStore.jobs c.args.self.now in
    (search rules, λ u is f. let was = state u now.ready now.parked now.ended in tick_sweeps ρ laws was f _ _ (begun now _ _ u is (c.in_ok-done.ensures.step.1 (all_lasting was f))) _ c.in_ok-expire.ensures.step _ c.if-done.true c.in_ok-sweep.ensures.step)

pub returns-else-done-clause-step : goal.returns-else-done-clause-step
returns-else-done-clause-step g c =
    let d = c.args.discipline.now in
    let ρ = parts g.O.Ranking (policy_of g.P.Ranking.may g.P.Policy.spared) d in
    let laws = lawful_parts g.O.Ranking (policy_of g.P.Ranking.may g.P.Policy.spared) g.met.O.Ranking.total g.met.O.Ranking.transitive g.met.P.Ranking.total g.met.P.Ranking.transitive d in
    let now = roster_state g.S.ReadyStore.jobs c.args.self.now in
    (search rules, λ u is f. let was = state u now.ready now.parked now.ended in tick_goes_on ρ laws was f _ _ (begun now _ _ u is (c.in_ok-done.ensures.step.1 (all_lasting was f))) _ c.in_ok-expire.ensures.step c.if-done.false)
