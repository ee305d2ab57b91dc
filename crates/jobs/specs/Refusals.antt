-- The number and the name of each refusal.
use Rattle.std.specs.Prelude.{ℕ, List, codes}
use Rattle.jobs.specs.declared.refusal.Refusal.{Refusal}
use Rattle.jobs.specs.declared.refusal.Refusal.TheVariants.{Range, Class, Horizon, Known, Full, Hopeless, Unknown, Waiting, Nothing, Short}

abbrev pub refusal_number : Refusal → ℕ
refusal_number Range = 1
refusal_number Class = 2
refusal_number Horizon = 3
refusal_number Known = 4
refusal_number Full = 5
refusal_number Hopeless = 6
refusal_number Unknown = 7
refusal_number Waiting = 8
refusal_number Nothing = 9
refusal_number Short = 10

abbrev pub refusal_name : Refusal → List ℕ
refusal_name Range = codes "range"
refusal_name Class = codes "class"
refusal_name Horizon = codes "horizon"
refusal_name Known = codes "known"
refusal_name Full = codes "full"
refusal_name Hopeless = codes "hopeless"
refusal_name Unknown = codes "unknown"
refusal_name Waiting = codes "waiting"
refusal_name Nothing = codes "nothing"
refusal_name Short = codes "short"
