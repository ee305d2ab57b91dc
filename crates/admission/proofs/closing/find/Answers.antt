use Rattle.std.proofs.Common.{◌≡◌, None, Some, sym, ◌∙◌, arith, rules}
use Rattle.std.specs.List.{position}
use borrow.Author.Tests.{tests}
use Rattle.std.proofs.lemmas.Iterator.Consumers.{YieldsList-from_first}
use Rattle.std.proofs.lemmas.Iterator.Search.{position_from_yields_List}
use Rattle.rules.specs.States.{has}
use Rattle.stores.specs.Places.{jobs_left}
use Rattle.admission.proofs.Seeking.{found}
use Rattle.admission.proofs.closing.find.Goals as goal

pub returns-in_err-place : goal.returns-in_err-place
returns-in_err-place g c =
    let n = c.args.number in
    let jobs = g.S.ReadyStore.jobs in
    let first : c.position.result ≡ position (has n) (jobs c.args.list.now) = position_from_yields_List (has n) c.position.new.self _ c.position.result c.position.ensures.ran (YieldsList-from_first (λ x. x) (jobs_left jobs) _ c.iter.ensures) (λ x b q k. search (rules, tests)) in
    rw c.from_residual.ensures (found n _ None (sym c.in_err-place.was ∙ first))

pub returns : goal.returns
returns g c =
    let n = c.args.number in
    let jobs = g.S.ReadyStore.jobs in
    let first : c.position.result ≡ position (has n) (jobs c.args.list.now) = position_from_yields_List (has n) c.position.new.self _ c.position.result c.position.ensures.ran (YieldsList-from_first (λ x. x) (jobs_left jobs) _ c.iter.ensures) (λ x b q k. search (rules, tests)) in
    let there = found n _ (Some c.in_ok-place.place) (sym c.in_ok-place.was ∙ first) in
    grind arith
