use Rattle.std.proofs.Common.{refl}
use Rattle.rules.proofs.run_past_a_deadline.Goals as goal

pub returns : goal.returns
returns c = (refl, refl)
