use Rattle.std.proofs.Common.{arith}
use Rattle.std.proofs.lemmas.Int.{ints}
use Rattle.rules.proofs.residual_recursion.Goals as goal

pub returns : goal.returns
returns c = λ f before j. omega (arith, ints)
