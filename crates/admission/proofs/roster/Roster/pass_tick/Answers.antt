use Rattle.std.proofs.Common.{refl}
use Rattle.admission.specs.Rosters.{roster_state}
use Rattle.admission.proofs.roster.Roster.pass_tick.Goals as goal

pub returns-in-Err-clause-step : goal.returns-in-Err-clause-step
returns-in-Err-clause-step g c = λ f. absurd (c.in-Err.ensures.step (roster_state g.S.ReadyStore.jobs c.args.self.now).clock refl f)
