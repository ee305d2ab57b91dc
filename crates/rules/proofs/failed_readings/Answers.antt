use Rattle.std.proofs.Common.{refl}
use Rattle.rankings.specs.Ranked.{before}
use Rattle.rules.proofs.failed_readings.Goals as goal

pub returns : goal.returns
unfolding before
returns c = ((refl, refl, refl, refl), (refl, refl, refl), (refl, refl, refl), (refl, refl))
