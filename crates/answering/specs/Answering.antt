-- What a program writes for what it reads.
use Rattle.std.specs.Prelude.{◌≡◌, ℕ, List, take, Ok, IfSome, Option, Result, String, string_bytes}
use Rattle.std.specs.Borrow.{Bor}
use Rattle.std.specs.Io.KnownBytes.{Appends}

-- a reply to the first `most` bytes of the input came to stand behind the old output, where the bytes of these are known
abbrev pub Answers : {E Z : Type 0} → (Bor (List ℕ) → Result (String Z) E → Type 0) → ℕ → Option (List ℕ) → Option (List ℕ) → Option (List ℕ) → Type 0
Answers {Z = Z} replies most input old new =
    (read : Bor (List ℕ)) × (text : String Z) ×
    replies read (Ok text) ×
    IfSome input (λ bytes. read.now ≡ take most bytes) ×
    Appends old new (string_bytes text)
