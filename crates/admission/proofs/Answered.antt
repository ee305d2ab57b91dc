-- The answer of a test read from its opposite.
use Rattle.std.proofs.Common.{◌≡◌, Bool, true, false, not, refl}

pub not_false : (b : Bool) → true ≡ not b → b ≡ false
not_false true is = cc
not_false false is = refl

pub not_true : (b : Bool) → false ≡ not b → b ≡ true
not_true true is = refl
not_true false is = cc
