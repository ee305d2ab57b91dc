use Rattle.std.proofs.Common.{◌≡◌, map, length, get_or, take, drop, sym, ap, ◌∙◌, subst, arith}
use Rattle.rules.specs.Calls.{serve}
use Rattle.rules.specs.Ranges.{InRange}
use Rattle.rules.specs.Worked.{answers_of}
use Rattle.rules.specs.States.{LawfulParts, start, answers}
use Rattle.admission.proofs.Lawful.{lawful_parts}
use Rattle.admission.specs.Disciplines.{policy_of, parts}
use Rattle.admission.specs.declared.discipline.Discipline.{Discipline}
use Rattle.scheduler.specs.Calling.{asked_call, answered}
use Rattle.scheduler.specs.Keeping.{view}
use Rattle.scheduler.specs.declared.calls.Call.{Call}
use Rattle.scheduler.specs.declared.calls.Call.TheVariants.{Arrive}
use Rattle.scheduler.proofs.Rerunning.{Rerun, rerun_more, rerun_all, rerun_told, rerun_sound}
use Rattle.scheduler.proofs.replay.replay.Given.{Over}
use Rattle.scheduler.proofs.replay.replay.Goals as goal

laws_of : (g : Over) (d : Discipline g.row.O.Denot g.row.P.Denot) → LawfulParts (parts g.O.Ranking (policy_of g.P.Ranking.may g.P.Policy.spared) d)
laws_of g =
    lawful_parts g.O.Ranking (policy_of g.P.Ranking.may g.P.Policy.spared) g.met.O.Ranking.total g.met.O.Ranking.transitive g.met.P.Ranking.total g.met.P.Ranking.transitive

-- what a slice of calls is read as where it has none
abbrev blank_call : Call
blank_call = Arrive (record { number = 0; class = 0; computation = 0; deadline_in = 0; tolerance = 0; value = 0 })

pub loop-place-preserved : goal.loop-place-preserved
loop-place-preserved g c =
    let d = c.new-scheduler.result.discipline in
    let ρ = parts g.O.Ranking (policy_of g.P.Ranking.may g.P.Policy.spared) d in
    let laws = laws_of g d in
    let same = c.loop-place.invariant.0 in
    let was = view g.S.ReadyStore.jobs c.loop-place.scheduler in
    let now = view g.S.ReadyStore.jobs c.call.new.self in
    let k = asked_call (get_or c.args.calls.now c.loop-place.place blank_call) in
    let exact = λ (range : InRange was). subst (λ e. serve (parts g.O.Ranking (policy_of g.P.Ranking.may g.P.Policy.spared) e) was k ≡ answers (answered c.call.result) now) same (c.call.ensures.serves.exact range) in
    (c.call.ensures.same ∙ same, rerun_more ρ laws c.args.calls.now c.args.answers.now c.loop-place.answers c.loop-place.place blank_call was now c.call.result c.loop-place-test.true (omega arith) c.loop-place.invariant.1 exact)

pub returns : goal.returns
returns g c =
    let d = c.loop-place.scheduler.discipline in
    let ρ = parts g.O.Ranking (policy_of g.P.Ranking.may g.P.Policy.spared) d in
    let laws = laws_of g d in
    let same = c.loop-place.invariant.0 in
    let ks = c.args.calls.now in
    let old = c.args.answers.now in
    let new = c.loop-place.answers in
    let i = c.loop-place.place in
    let s = view g.S.ReadyStore.jobs c.loop-place.scheduler in
    let all : i ≡ length ks = omega arith in
    let run = subst (λ e. Rerun (parts g.O.Ranking (policy_of g.P.Ranking.may g.P.Policy.spared) e) ks old new i s) (sym same) c.loop-place.invariant.1 in
    let state = rerun_all ρ laws ks old new i s (omega arith) run in (
      c.if-answers-calls.false,
      record {
        by_order = ap (λ e. e.order.0) same ∙ c.new-scheduler.ensures.order;
        by_policy = ap (λ e. e.policy) same ∙ c.new-scheduler.ensures.policy;
        answers = subst (λ n. map answered (take n new) ≡ answers_of ρ start (map asked_call ks)) all (rerun_told ρ laws ks old new i s (omega arith) run);
        behind = subst (λ n. drop n new ≡ drop n old) all run.behind;
        state = state;
        sound = rerun_sound ρ laws ks old s state;
      },
    )
