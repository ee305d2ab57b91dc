-- What bytes say: the lines of an input, the words of a line, and the number that a word is.
--
--   before stop bs    the bytes of bs up to the first that is stop
--   over_long bs      the input is too long to be read
--   lines bs          the lines of an input
--   words p bs        the words of a line, of which bs is left and begins at the place p
--   is_number bs      bs is one to nine decimal digits
--   value bs          the number that the digits bs write
--   number_in bs      that number, if bs is one
use Rattle.std.specs.Prelude.{ℕ, ◌+◌, ◌-◌, ◌*◌, Bool, true, false, cond, ◌&&◌, List, [], ◌∷◌, length, Some, None, Option, ◌==◌, nat_le, nat_lt}

abbrev pub before : ℕ → List ℕ → List ℕ
before stop [] = []
before stop (b ∷ bs) = cond (b == stop) [] (b ∷ before stop bs)

-- an input of more than 65,536 bytes is not read
abbrev pub over_long : List ℕ → Bool
over_long bs = nat_lt 65536 (length bs)

-- a line begins after each byte 10
abbrev pub later_lines : List ℕ → List (List ℕ)
later_lines [] = []
later_lines (b ∷ bs) = cond (b == 10) (before 10 bs ∷ later_lines bs) (later_lines bs)

-- and one at the very start, so an empty input is one empty line
abbrev pub lines : List ℕ → List (List ℕ)
lines bs = before 10 bs ∷ later_lines bs

-- a word: its bytes, and the place of the first, counted from 1 in its line
pub record Piece : Type 0 where
  pub text : List ℕ
  pub place : ℕ

-- A word begins at a byte that is no space and comes first or after a space, which is what `fresh` says.
-- It goes on up to the next space.
abbrev pub words_from : Bool → ℕ → List ℕ → List Piece
words_from fresh p [] = []
words_from fresh p (b ∷ bs) =
    cond (b == 32) (words_from true (p + 1) bs)
    (cond fresh (record { text = before 32 (b ∷ bs); place = p } ∷ words_from false (p + 1) bs) (words_from false (p + 1) bs))

abbrev pub words : ℕ → List ℕ → List Piece
words p bs = words_from true p bs

abbrev pub digit : ℕ → Bool
digit b = nat_le 48 b && nat_le b 57

abbrev pub all_digits : List ℕ → Bool
all_digits [] = true
all_digits (b ∷ bs) = digit b && all_digits bs

abbrev pub is_number : List ℕ → Bool
is_number bs = nat_lt 0 (length bs) && (nat_le (length bs) 9 && all_digits bs)

-- n, and then the digits bs behind it
abbrev pub value_after : ℕ → List ℕ → ℕ
value_after n [] = n
value_after n (b ∷ bs) = value_after (n * 10 + (b - 48)) bs

abbrev pub value : List ℕ → ℕ
value bs = value_after 0 bs

abbrev pub number_in : List ℕ → Option ℕ
number_in bs = cond (is_number bs) (Some (value bs)) None
