-- What is written to the end of a text.
--
--   newline                   the byte that ends a line
--   Appends bs t t' answer    where the answer is Ok, t' is t with the bytes bs behind it
use Rattle.std.specs.Prelude.{◌≡◌, ℕ, List, [], ◌∷◌, ◌++◌, Result, OnOk, String, string_bytes}

abbrev pub newline : List ℕ
newline = 10 ∷ []

abbrev pub Appends : {T E Z : Type 0} → List ℕ → String Z → String Z → Result T E → Type 0
Appends bs t t' answer = OnOk answer (string_bytes t' ≡ string_bytes t ++ bs)
