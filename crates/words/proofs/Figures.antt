-- How large a number of a few digits is.
use Rattle.std.proofs.Common.{ℕ, ◌^◌, ◌<◌, ◌≤◌, arith}
use Rattle.std.proofs.Math.Nat.{pow-le-pow_right}

pub power_few : (i : ℕ) → i < 9 → 10 ^ i ≤ 100000000
power_few i few = pow-le-pow_right {n = 10} (omega arith) {i = i} {j = 8} (omega arith)
