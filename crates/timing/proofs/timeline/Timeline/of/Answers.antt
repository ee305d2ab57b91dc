use Rattle.std.proofs.Common.{arith}
use Rattle.std.proofs.lemmas.Grind.{common_steps}
use Rattle.timing.proofs.Tallying.{walked}
use Rattle.timing.proofs.timeline.Timeline.of.Goals as goal

pub returns-clause-value : goal.returns-clause-value
returns-clause-value c = (omega arith, walked c.args.start c.args.jobs.now _ (grind (arith, common_steps)))
