use Rattle.std.proofs.Common.{sym, refl}
use Rattle.std.proofs.lemmas.Result.{err_from_is_err_and}
use Rattle.admission.specs.Rosters.{roster_state}
use Rattle.admission.proofs.Lawful.{lawful_parts}
use Rattle.admission.specs.Disciplines.{policy_of, parts}
use Rattle.admission.specs.declared.discipline.Discipline.{Discipline}
use Rattle.rules.specs.States.{LawfulParts}
use Rattle.scheduler.specs.Calling.{asked}
use Rattle.scheduler.specs.Keeping.{view}
use Rattle.scheduler.proofs.Arriving.{arrived, not_accepted}
use Rattle.scheduler.proofs.scheduler.Scheduler.arrive.Given.{Over}
use Rattle.scheduler.proofs.scheduler.Scheduler.arrive.Goals as goal

laws_of : (g : Over) (d : Discipline g.row.O.Denot g.row.P.Denot) → LawfulParts (parts g.O.Ranking (policy_of g.P.Ranking.may g.P.Policy.spared) d)
laws_of g =
    lawful_parts g.O.Ranking (policy_of g.P.Ranking.may g.P.Policy.spared) g.met.O.Ranking.total g.met.O.Ranking.transitive g.met.P.Ranking.total g.met.P.Ranking.transitive

pub returns-in_err-job : goal.returns-in_err-job
returns-in_err-job g c =
    let p = err_from_is_err_and c.from_residual.result c.from_residual.ensures.1 in
    rw (p.1, p.2) (record { same = refl; serves = not_accepted _ (laws_of g c.args.self.now.discipline) (view g.S.ReadyStore.jobs c.args.self.now) (asked c.args.arrival.now) _ (sym c.in_err-job.ensures) })

pub returns : goal.returns
returns g c =
    record { same = refl; serves = arrived _ (laws_of g c.args.self.now.discipline) (view g.S.ReadyStore.jobs c.args.self.now) (asked c.args.arrival.now) c.in_ok-job.job (roster_state g.S.ReadyStore.jobs c.admit.new.self) c.admit.result (sym c.in_ok-job.ensures) c.admit.ensures.step }
