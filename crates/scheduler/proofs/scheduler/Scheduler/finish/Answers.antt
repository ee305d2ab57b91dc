use Rattle.std.proofs.Common.{sym, refl, ◌∙◌, arith}
use Rattle.std.proofs.lemmas.Result.{err_from_is_err_and}
use Rattle.admission.proofs.Lawful.{lawful_parts}
use Rattle.admission.specs.Disciplines.{policy_of, parts}
use Rattle.admission.specs.declared.discipline.Discipline.{Discipline}
use Rattle.rules.specs.States.{LawfulParts}
use Rattle.scheduler.specs.Keeping.{view}
use Rattle.scheduler.proofs.Ended.{finish_out, finish_none, finish_waits, finish_later, finish_done, finish_full}
use Rattle.scheduler.proofs.scheduler.Scheduler.finish.Given.{Over}
use Rattle.scheduler.proofs.scheduler.Scheduler.finish.Goals as goal

laws_of : (g : Over) (d : Discipline g.row.O.Denot g.row.P.Denot) → LawfulParts (parts g.O.Ranking (policy_of g.P.Ranking.may g.P.Policy.spared) d)
laws_of g =
    lawful_parts g.O.Ranking (policy_of g.P.Ranking.may g.P.Policy.spared) g.met.O.Ranking.total g.met.O.Ranking.transitive g.met.P.Ranking.total g.met.P.Ranking.transitive

pub returns-in_err-name : goal.returns-in_err-name
returns-in_err-name g c =
    let p = err_from_is_err_and c.from_residual.result c.from_residual.ensures.1 in
    rw (p.1, p.2) (record { same = refl; serves = finish_out _ (laws_of g c.args.self.now.discipline) (view g.S.ReadyStore.jobs c.args.self.now) c.args.number _ c.in_err-name.ensures })

pub returns-then-knows : goal.returns-then-knows
returns-then-knows g c =
    record { same = refl; serves = finish_waits _ (laws_of g c.args.self.now.discipline) (view g.S.ReadyStore.jobs c.args.self.now) c.args.number c.in_ok-name.name c.in_ok-name.ensures c.in_default.ensures (sym c.knows.ensures ∙ c.if-knows.true) }

pub returns-in_default : goal.returns-in_default
returns-in_default g c =
    record { same = refl; serves = finish_none _ (laws_of g c.args.self.now.discipline) (view g.S.ReadyStore.jobs c.args.self.now) c.args.number c.in_ok-name.name c.in_ok-name.ensures c.in_default.ensures (sym c.knows.ensures ∙ c.if-knows.false) }

pub returns-then-place-gt0 : goal.returns-then-place-gt0
returns-then-place-gt0 g c =
    record { same = refl; serves = finish_later _ (laws_of g c.args.self.now.discipline) (view g.S.ReadyStore.jobs c.args.self.now) c.args.number c.in_ok-name.name c.in_ok-name.ensures c.in-Some.place c.in-Some.ensures (omega arith) }

pub returns-in_err-job : goal.returns-in_err-job
returns-in_err-job g c =
    let p = err_from_is_err_and c.from_residual-in_err-job.result c.from_residual-in_err-job.ensures.1 in
    rw p.1 (record { same = refl; serves = finish_full _ (laws_of g c.args.self.now.discipline) (view g.S.ReadyStore.jobs c.args.self.now) c.args.number c.in_ok-name.name c.in_ok-name.ensures c.in-Some.place c.in-Some.ensures (omega arith) _ _ c.in_err-job.ensures.step })

pub returns : goal.returns
returns g c =
    record { same = refl; serves = finish_done _ (laws_of g c.args.self.now.discipline) (view g.S.ReadyStore.jobs c.args.self.now) c.args.number c.in_ok-name.name c.in_ok-name.ensures c.in-Some.place c.in-Some.ensures (omega arith) _ c.in_ok-job.job c.in_ok-job.ensures.step }
