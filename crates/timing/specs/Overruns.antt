-- What an overrun says in numbers, 0 where there is none.
use Rattle.std.specs.Prelude.{ℕ, Some, None, Option}
use Rattle.timing.specs.declared.overrun.Overrun.{Overrun}

abbrev pub exceeding_of : Option Overrun → ℕ
exceeding_of None = 0
exceeding_of (Some o) = o.by

abbrev pub cause_of : Option Overrun → ℕ
cause_of None = 0
cause_of (Some o) = o.cause
