use Rattle.std.proofs.Common.{◌≡◌, sym, refl, ◌∙◌, subst, arith}
use Rattle.std.proofs.lemmas.Result.{err_from_is_err_and}
use Rattle.admission.proofs.Lawful.{lawful_parts}
use Rattle.admission.specs.Disciplines.{policy_of, parts}
use Rattle.admission.specs.declared.discipline.Discipline.{Discipline}
use Rattle.rules.specs.States.{LawfulParts}
use Rattle.scheduler.specs.Keeping.{view}
use Rattle.rules.specs.Calls.{tick}
use Rattle.admission.specs.Rosters.{roster_state}
use Rattle.scheduler.proofs.Checking.{in_bounds, out_of_bounds}
use Rattle.scheduler.proofs.Working.{work_outside, work_past, work_stuck, work_did}
use Rattle.scheduler.proofs.TickByTick.{Worked, worked_more}
use Rattle.scheduler.proofs.scheduler.Scheduler.work.Given.{Over}
use Rattle.scheduler.proofs.scheduler.Scheduler.work.Goals as goal

laws_of : (g : Over) (d : Discipline g.row.O.Denot g.row.P.Denot) → LawfulParts (parts g.O.Ranking (policy_of g.P.Ranking.may g.P.Policy.spared) d)
laws_of g =
    lawful_parts g.O.Ranking (policy_of g.P.Ranking.may g.P.Policy.spared) g.met.O.Ranking.total g.met.O.Ranking.transitive g.met.P.Ranking.total g.met.P.Ranking.transitive

pub returns-in_err-ticks : goal.returns-in_err-ticks
returns-in_err-ticks g c =
    let p = err_from_is_err_and c.from_residual.result c.from_residual.ensures.1 in
    let out = out_of_bounds 1 10000 c.args.ticks _ c.in_err-ticks.ensures in
    rw (p.1, p.2, out.1) (record { same = refl; serves = work_outside _ (laws_of g c.args.self.now.discipline) (view g.S.ReadyStore.jobs c.args.self.now) c.args.ticks out.0 })

pub returns-then-self-ticks-gt-LAST_TICK : goal.returns-then-self-ticks-gt-LAST_TICK
returns-then-self-ticks-gt-LAST_TICK g c =
    let inside = in_bounds 1 10000 c.args.ticks c.in_ok-ticks.ticks c.in_ok-ticks.ensures in
    record { same = refl; serves = work_past _ (laws_of g c.args.self.now.discipline) (view g.S.ReadyStore.jobs c.args.self.now) c.args.ticks inside.0 (omega (arith, inside.1)) }

pub loop-passed-preserved : goal.loop-passed-preserved
loop-passed-preserved g c =
    let now = roster_state g.S.ReadyStore.jobs c.pass_tick.new.self in
    let was = view g.S.ReadyStore.jobs c.loop-passed.self in
    let ticked = c.in_ok-pass_tick.ensures.step in
    let same = c.loop-passed.invariant.0 in
    (same, worked_more _ (laws_of g c.args.self.now.discipline) (view g.S.ReadyStore.jobs c.args.self.now) c.in_ok-ticks.ticks was now c.loop-passed._passed (omega arith) c.loop-passed.invariant.1 (sym ticked.2 ∙ ticked.0) (λ f. subst (λ e. tick (parts g.O.Ranking (policy_of g.P.Ranking.may g.P.Policy.spared) e) was ≡ now) same (ticked.3 f)))

pub returns-in_err-pass_tick : goal.returns-in_err-pass_tick
returns-in_err-pass_tick g c =
    let p = err_from_is_err_and c.from_residual-in_err-pass_tick.result c.from_residual-in_err-pass_tick.ensures.1 in
    let inside = in_bounds 1 10000 c.args.ticks c.in_ok-ticks.ticks c.in_ok-ticks.ensures in
    let ρ = parts g.O.Ranking (policy_of g.P.Ranking.may g.P.Policy.spared) c.args.self.now.discipline in
    let s = view g.S.ReadyStore.jobs c.args.self.now in
    let w = view g.S.ReadyStore.jobs c.loop-passed.self in
    rw p.1 (record { same = c.loop-passed.invariant.0; serves = work_stuck ρ (laws_of g c.args.self.now.discipline) s c.args.ticks inside.0 (omega (arith, inside.1)) w c.loop-passed._passed (subst (λ n. Worked ρ s n w c.loop-passed._passed) inside.1 c.loop-passed.invariant.1) (omega (arith, inside.1)) _ _ (λ f. (c.in_err-pass_tick.ensures.step f).0) })

pub returns : goal.returns
returns g c =
    let inside = in_bounds 1 10000 c.args.ticks c.in_ok-ticks.ticks c.in_ok-ticks.ensures in
    let ρ = parts g.O.Ranking (policy_of g.P.Ranking.may g.P.Policy.spared) c.args.self.now.discipline in
    let s = view g.S.ReadyStore.jobs c.args.self.now in
    let w = view g.S.ReadyStore.jobs c.loop-passed.self in
    record { same = c.loop-passed.invariant.0; serves = work_did ρ (laws_of g c.args.self.now.discipline) s c.args.ticks inside.0 (omega (arith, inside.1)) w c.loop-passed._passed (subst (λ n. Worked ρ s n w c.loop-passed._passed) inside.1 c.loop-passed.invariant.1) (omega (arith, inside.1)) }
