use Rattle.std.proofs.Common.{refl}
use Rattle.std.proofs.lemmas.Result.{err_from_is_err_and}
use Rattle.admission.proofs.Lawful.{lawful_parts}
use Rattle.admission.specs.Disciplines.{policy_of, parts}
use Rattle.admission.specs.declared.discipline.Discipline.{Discipline}
use Rattle.rules.specs.States.{LawfulParts}
use Rattle.scheduler.specs.Keeping.{view}
use Rattle.scheduler.proofs.Ended.{withdraw_out, withdraw_none, withdraw_done, withdraw_full, withdraw_parked_done, withdraw_parked_full}
use Rattle.scheduler.proofs.scheduler.Scheduler.withdraw.Given.{Over}
use Rattle.scheduler.proofs.scheduler.Scheduler.withdraw.Goals as goal

laws_of : (g : Over) (d : Discipline g.row.O.Denot g.row.P.Denot) → LawfulParts (parts g.O.Ranking (policy_of g.P.Ranking.may g.P.Policy.spared) d)
laws_of g =
    lawful_parts g.O.Ranking (policy_of g.P.Ranking.may g.P.Policy.spared) g.met.O.Ranking.total g.met.O.Ranking.transitive g.met.P.Ranking.total g.met.P.Ranking.transitive

pub returns-in_err-name : goal.returns-in_err-name
returns-in_err-name g c =
    let p = err_from_is_err_and c.from_residual.result c.from_residual.ensures.1 in
    rw (p.1, p.2) (record { same = refl; serves = withdraw_out _ (laws_of g c.args.self.now.discipline) (view g.S.ReadyStore.jobs c.args.self.now) c.args.number _ c.in_err-name.ensures })

pub returns-in_err-end_ready : goal.returns-in_err-end_ready
returns-in_err-end_ready g c =
    let p = err_from_is_err_and c.from_residual-in_err-end_ready.result c.from_residual-in_err-end_ready.ensures.1 in
    rw p.1 (record { same = refl; serves = withdraw_full _ (laws_of g c.args.self.now.discipline) (view g.S.ReadyStore.jobs c.args.self.now) c.args.number c.in_ok-name.name c.in_ok-name.ensures c.in-Some.place c.in-Some.ensures _ _ c.in_err-end_ready.ensures.step })

pub returns-in-Some : goal.returns-in-Some
returns-in-Some g c =
    record { same = refl; serves = withdraw_done _ (laws_of g c.args.self.now.discipline) (view g.S.ReadyStore.jobs c.args.self.now) c.args.number c.in_ok-name.name c.in_ok-name.ensures c.in-Some.place c.in-Some.ensures _ c.in_ok-end_ready.field-0 c.in_ok-end_ready.ensures.step }

pub returns-in_default-find : goal.returns-in_default-find
returns-in_default-find g c =
    record { same = refl; serves = withdraw_none _ (laws_of g c.args.self.now.discipline) (view g.S.ReadyStore.jobs c.args.self.now) c.args.number c.in_ok-name.name c.in_ok-name.ensures c.in_default.ensures c.in_default-find.ensures }

pub returns-in_err-end_parked : goal.returns-in_err-end_parked
returns-in_err-end_parked g c =
    let p = err_from_is_err_and c.from_residual-in_err-end_parked.result c.from_residual-in_err-end_parked.ensures.1 in
    rw p.1 (record { same = refl; serves = withdraw_parked_full _ (laws_of g c.args.self.now.discipline) (view g.S.ReadyStore.jobs c.args.self.now) c.args.number c.in_ok-name.name c.in_ok-name.ensures c.in_default.ensures c.in-Some-find.place c.in-Some-find.ensures _ _ c.in_err-end_parked.ensures.step })

pub returns : goal.returns
returns g c =
    record { same = refl; serves = withdraw_parked_done _ (laws_of g c.args.self.now.discipline) (view g.S.ReadyStore.jobs c.args.self.now) c.args.number c.in_ok-name.name c.in_ok-name.ensures c.in_default.ensures c.in-Some-find.place c.in-Some-find.ensures _ c.in_ok-end_parked.field-0 c.in_ok-end_parked.ensures.step }
