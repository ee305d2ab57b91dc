-- The number and the name of each cause, and how a fault is written.
use Rattle.std.specs.Prelude.{ℕ, List, ◌++◌, Ok, Err, codes, decimal, Result}
use Rattle.jobs.specs.Refusals.{refusal_number, refusal_name}
use Rattle.jobs.specs.declared.refusal.Refusal.{Refusal}
use Rattle.words.specs.declared.fault.Cause.{Cause}
use Rattle.words.specs.declared.fault.Cause.TheVariants.{Letter, Missing, Digits, Extra, Length, Rule}
use Rattle.words.specs.declared.fault.Fault.{Fault}
use Rattle.words.specs.declared.fault.WordFault.{WordFault}

abbrev pub cause_number : Cause → ℕ
cause_number Letter = 21
cause_number Missing = 22
cause_number Digits = 23
cause_number Extra = 24
cause_number Length = 25
cause_number (Rule refusal) = refusal_number refusal

abbrev pub cause_name : Cause → List ℕ
cause_name Letter = codes "letter"
cause_name Missing = codes "missing"
cause_name Digits = codes "digits"
cause_name Extra = codes "extra"
cause_name Length = codes "length"
cause_name (Rule refusal) = refusal_name refusal

-- a word's fault in the line of that number
abbrev pub fault_in : ℕ → WordFault → Fault
fault_in n f = record { cause = f.cause; line = n; place = f.place }

-- the fault of an input of more than 65,536 bytes
abbrev pub too_long : Fault
too_long = record { cause = Length; line = 0; place = 0 }

-- refused NUMBER NAME LINE PLACE
abbrev pub fault_text : Fault → List ℕ
fault_text f =
    codes "refused " ++ (decimal (cause_number f.cause) ++ (codes " " ++ (cause_name f.cause ++ (codes " " ++ (decimal f.line ++ (codes " " ++ decimal f.place))))))

-- a refused call as a fault at the place p
abbrev pub broken_at : {T : Type 0} → ℕ → Result T Refusal → Result T WordFault
broken_at p (Ok x) = Ok x
broken_at p (Err e) = Err (record { cause = Rule e; place = p })

-- what a line answers, its faults with the number of the line
abbrev pub in_line : {T : Type 0} → ℕ → Result T WordFault → Result T Fault
in_line n (Ok x) = Ok x
in_line n (Err f) = Err (fault_in n f)

-- one step after another, up to the first fault
abbrev pub then : {S T E : Type 0} → Result S E → (S → Result T E) → Result T E
then (Ok x) next = next x
then (Err e) next = Err e
