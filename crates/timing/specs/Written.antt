-- How an entry is written.
use Rattle.std.specs.Prelude.{ℕ, List, [], ◌∷◌, ◌++◌, Some, None, codes, decimal, Option}
use Rattle.std.specs.Fmt.{signed_decimal}
use Rattle.timing.specs.declared.entry.Entry.{Entry}
use Rattle.timing.specs.declared.entry.Load.{Load}

-- SUM SPAN
abbrev pub fraction_text : Load → List ℕ
fraction_text l = decimal l.sum ++ (codes " " ++ decimal l.span)

-- the load, or a dash for each of its numbers where it is absent
abbrev pub load_text : Option Load → List ℕ
load_text (Some l) = fraction_text l
load_text None = codes "- -"

-- job NUMBER FINISH RESIDUAL LOAD
abbrev pub entry_text : Entry → List ℕ
entry_text e =
    codes "job " ++ (decimal e.number ++ (codes " " ++ (decimal e.finish ++ (codes " " ++ (signed_decimal e.residual ++ (codes " " ++ load_text e.load))))))

-- each entry in a line of its own
abbrev pub entry_lines : List Entry → List ℕ
entry_lines [] = []
entry_lines (e ∷ es) = (entry_text e ++ (10 ∷ [])) ++ entry_lines es
