use Rattle.std.proofs.Common.{arith}
use Rattle.std.proofs.lemmas.Grind.{common_steps}
use Rattle.timing.proofs.Tallying.{walked}
use Rattle.tables.proofs.report.write_entries.Goals as goal

pub returns-clause-walked : goal.returns-clause-walked
returns-clause-walked c = walked _ _ _ (grind (arith, common_steps))
