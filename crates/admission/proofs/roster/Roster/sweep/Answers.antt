use Rattle.std.proofs.Common.{rules}
use Rattle.std.specs.Fn.{CalledWithState}
use Rattle.admission.proofs.Asking.{retains_seen}
use Rattle.admission.specs.Disciplines.{policy_of, parts}
use Rattle.admission.specs.Rosters.{roster_state}
use Rattle.admission.specs.Steps.{SweepsOne}
use Rattle.admission.proofs.Rounds.{swept_in_turn}
use Rattle.admission.proofs.roster.Roster.sweep.Goals as goal

pub returns-clause-step : goal.returns-clause-step
returns-clause-step g c =
    let ρ = parts g.O.Ranking (policy_of g.P.Ranking.may g.P.Policy.spared) c.args.discipline.now in
    let was = roster_state g.S.ReadyStore.jobs c.args.self.now in
    swept_in_turn ρ was _ _ _ (retains_seen (CalledWithState _) _ g.S.ReadyStore.jobs (λ rs j r rs'. SweepsOne ρ was.clock j rs rs' r) _ _ _ _ _ c.try_retain.ensures (λ s x r f t called. search rules))
