-- Numbers that are held to a range.
use Rattle.std.specs.Prelude.{ℕ, cond, ◌&&◌, Ok, Err, Result, nat_le}
use Rattle.jobs.specs.declared.refusal.Refusal.{Refusal}
use Rattle.jobs.specs.declared.refusal.Refusal.TheVariants.{Range}

-- n, if it is one of low to high; any other number is refused
abbrev pub in_range : ℕ → ℕ → ℕ → Result ℕ Refusal
in_range low high n = cond (nat_le low n && nat_le n high) (Ok n) (Err Range)
