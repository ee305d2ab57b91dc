use Rattle.std.proofs.Common.{refl}
use Rattle.stores.specs.Tables.{listed}
use Rattle.admission.proofs.Lawful.{lawful_parts}
use Rattle.admission.specs.Disciplines.{policy_of, parts}
use Rattle.scheduler.specs.Keeping.{view}
use Rattle.scheduler.proofs.Collecting.{collected}
use Rattle.scheduler.proofs.scheduler.Scheduler.collect.Goals as goal

pub returns : goal.returns
returns g c =
    let d = c.args.self.now.discipline in
    let ρ = parts g.O.Ranking (policy_of g.P.Ranking.may g.P.Policy.spared) d in
    let laws = lawful_parts g.O.Ranking (policy_of g.P.Ranking.may g.P.Policy.spared) g.met.O.Ranking.total g.met.O.Ranking.transitive g.met.P.Ranking.total g.met.P.Ranking.transitive d in
    let s = view g.S.ReadyStore.jobs c.args.self.now in
    record { same = refl; serves = collected ρ laws s (listed c.take_first.new.self) c.take_first.result c.take_first.ensures }
