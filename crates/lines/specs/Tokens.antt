-- What single words stand for, and where they stand.
--
--   letter_in text    the letter that a word is
--   letter_at p o     the letter of the word at the place p, or the fault that it is none
--   class_in text     the number of the class that a word names, 2 for a word that names none
--   token_place t     the place of a word
--   pointed o         the place of the word that a fault is about, 1 where it is about none
use Rattle.std.specs.Prelude.{ℕ, cond, List, Some, None, Ok, Err, codes, Option, Result}
use Rattle.std.specs.Str.{bytes_eq}
use Rattle.words.specs.Readers.{fault_at}
use Rattle.words.specs.declared.fault.Cause.TheVariants.{Letter as LetterCause}
use Rattle.words.specs.declared.fault.WordFault.{WordFault}
use Rattle.lines.specs.declared.token.Letter.{Letter}
use Rattle.lines.specs.declared.token.Letter.TheVariants.{Arrive, Work, Finish, Withdraw, Collect, Profile}
use Rattle.lines.specs.declared.token.Token.{Token}
use Rattle.lines.specs.declared.token.Token.TheVariants.{Letter as LetterToken, Number as NumberToken, Class as ClassToken}

abbrev pub letter_in : List ℕ → Option Letter
letter_in text =
    cond (bytes_eq text (codes "a")) (Some Arrive)
    (cond (bytes_eq text (codes "w")) (Some Work)
    (cond (bytes_eq text (codes "f")) (Some Finish)
    (cond (bytes_eq text (codes "x")) (Some Withdraw)
    (cond (bytes_eq text (codes "g")) (Some Collect)
    (cond (bytes_eq text (codes "p")) (Some Profile) None)))))

-- the word at the place p as that letter
abbrev pub letter_at : ℕ → Option Letter → Result Letter WordFault
letter_at p None = Err (fault_at p LetterCause)
letter_at p (Some l) = Ok l

-- h is HARD, c is CRITICAL
abbrev pub class_in : List ℕ → ℕ
class_in text = cond (bytes_eq text (codes "h")) 0 (cond (bytes_eq text (codes "c")) 1 2)

abbrev pub token_place : Token → ℕ
token_place (LetterToken w) = w.place
token_place (NumberToken n) = n.place
token_place (ClassToken w) = w.place

abbrev pub pointed : Option Token → ℕ
pointed None = 1
pointed (Some t) = token_place t
