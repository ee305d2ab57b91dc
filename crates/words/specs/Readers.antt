-- What the readers of an input and of a line still have before them, and what they answer.
--
--   lines_left s             the lines that s has still to give
--   Accepted bytes r         r is the input, unless it is too long
--   Rest                     what is left of a line that is being read
--   rest s                   what s has still to read
--   whole line               all of a line
--   skip n r                 the rest r without its first n words
--   first r                  its first word, if it has one
--   piece w                  a word of the program as bytes and a place
--   number_of w              the word w as a number, or its fault
--   within low high n        the value of a number, held to a range
--   first_word r             the first word; a missing one is missed at the end
--   first_number r           the same as a number
--   optional_number r        the same, where no word need be there
--   none_left r              no word may be left over
--   number_alone r           a number, and no word more
use Rattle.std.specs.Prelude.{◌≡◌, ℕ, ◌+◌, List, [], length, drop, Some, None, Ok, Err, Option, Result, ok_or, IsTrue, IsFalse}
use Rattle.std.specs.List.{slice_get}
use Rattle.std.specs.Borrow.{Bor}
use Rattle.std.specs.Result.{result_map_both}
use Rattle.words.specs.Bytes.{Piece, over_long, lines, words, number_in}
use Rattle.words.specs.declared.fault.Cause.{Cause}
use Rattle.words.specs.declared.fault.Cause.TheVariants.{Missing, Digits, Extra}
use Rattle.jobs.specs.Ranges.{in_range}
use Rattle.words.specs.declared.fault.Fault.{Fault}
use Rattle.words.specs.declared.fault.WordFault.{WordFault}
use Rattle.words.specs.Faults.{too_long, broken_at, then}
use Rattle.words.specs.declared.lines.Lines.{Lines}
use Rattle.words.specs.declared.words.Number.{Number}
use Rattle.words.specs.declared.words.Word.{Word}
use Rattle.words.specs.declared.words.Words.{Words}

-- the lines of an input, or of none
abbrev pub lines_in : Option (Bor (List ℕ)) → List (List ℕ)
lines_in None = []
lines_in (Some r) = lines r.now

abbrev pub lines_left : Lines → List (List ℕ)
lines_left s = lines_in s.rest

-- the input, unless it is too long
abbrev pub Accepted : List ℕ → Result (Bor (List ℕ)) Fault → Type 0
Accepted bytes (Ok r) = IsFalse (over_long bytes) × (r.now ≡ bytes)
Accepted bytes (Err f) = IsTrue (over_long bytes) × (f ≡ too_long)

abbrev pub piece : Word → Piece
piece w = record { text = w.text.now; place = w.place }

-- what is left of a line: the words, and the place one past the last byte
pub record Rest : Type 0 where
  pub words : List Piece
  pub end : ℕ

abbrev pub whole : List ℕ → Rest
whole line = record { words = words 1 line; end = length line + 1 }

abbrev pub rest : Words → Rest
rest s = record { words = words (s.position + 1) (drop s.position s.line.now); end = length s.line.now + 1 }

-- without the first n words: with none, if there are fewer
abbrev pub skip : ℕ → Rest → Rest
skip n r = record { words = drop n r.words; end = r.end }

abbrev pub first : Rest → Option Piece
first r = slice_get r.words 0

abbrev pub fault_at : ℕ → Cause → WordFault
fault_at p why = record { cause = why; place = p }

abbrev pub number_at : ℕ → Option ℕ → Result Number WordFault
number_at p None = Err (fault_at p Digits)
number_at p (Some n) = Ok (record { value = n; place = p })

abbrev pub number_of : Piece → Result Number WordFault
number_of w = number_at w.place (number_in w.text)

abbrev pub within : ℕ → ℕ → Number → Result ℕ WordFault
within low high n = broken_at n.place (in_range low high n.value)

abbrev pub first_word : Rest → Result Piece WordFault
first_word r = ok_or (first r) (fault_at r.end Missing)

abbrev pub first_number : Rest → Result Number WordFault
first_number r = then (first_word r) number_of

abbrev pub optional_number : Rest → Result (Option Number) WordFault
optional_number r = elim (first r) [ None ↦ Ok None | Some w ↦ result_map_both Some (λ f. f) (number_of w) ]

abbrev pub none_left : Rest → Result (Unit {0}) WordFault
none_left r = elim (first r) [ None ↦ Ok tt | Some w ↦ Err (fault_at w.place Extra) ]

-- NUMBER, and no word more
abbrev pub number_alone : Rest → Result Number WordFault
number_alone r = then (first_number r) (λ n. then (none_left (skip 1 r)) (λ _. Ok n))
