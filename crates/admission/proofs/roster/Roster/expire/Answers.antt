use Rattle.std.proofs.Common.{rules}
use Rattle.std.specs.Fn.{CalledWithState}
use Rattle.admission.proofs.Asking.{retains_seen}
use Rattle.stores.specs.Tables.{listed}
use Rattle.admission.specs.Rosters.{roster_state}
use Rattle.admission.specs.Steps.{ExpiresOne}
use Rattle.admission.proofs.Expiring.{expired_in_turn}
use Rattle.admission.proofs.roster.Roster.expire.Goals as goal

pub returns-clause-step : goal.returns-clause-step
returns-clause-step g c =
    let was = roster_state g.S.ReadyStore.jobs c.args.self.now in
    expired_in_turn was _ _ _ (retains_seen (CalledWithState _) _ listed (λ es j r es'. ExpiresOne was.clock j es es' r) _ _ _ _ _ c.try_retain.ensures (λ s x r f t called. search rules))
