-- The load program: what is printed for an input, and the calls that it makes.
--
--   printed bytes     all that is printed
--   calls_of bytes    the calls that the lines make, in their order; a line that is refused for a word makes none
--   InTurn ls         each line of ls is served where the calls of the lines before it lead
use Rattle.std.specs.Prelude.{◌≡◌, ℕ, ◌+◌, cond, List, [], ◌∷◌, ◌++◌, length}
use Rattle.rules.specs.Runs.{after}
use Rattle.rules.specs.States.{State, start, Call}
use Rattle.rules.specs.Worked.{plain}
use Rattle.words.specs.Bytes.{over_long, lines}
use Rattle.words.specs.Faults.{too_long, fault_text}
use Rattle.words.specs.Texts.{newline}
use Rattle.lines.specs.Answers.{line_text}
use Rattle.lines.specs.Requests.{line_calls}

abbrev pub lines_calls : List (List ℕ) → List Call
lines_calls [] = []
lines_calls (l ∷ ls) = line_calls l ++ lines_calls ls

-- the lines from the one of number n on, which the state s comes to
abbrev pub printed_from : ℕ → State → List (List ℕ) → List ℕ
printed_from n s [] = []
printed_from n s (l ∷ ls) = line_text n s l ++ printed_from (n + 1) (after plain s (line_calls l)) ls

abbrev pub printed : List ℕ → List ℕ
printed bytes =
    cond (over_long bytes)
    (fault_text too_long ++ newline)
    (printed_from 1 start (lines bytes))

abbrev pub calls_of : List ℕ → List Call
calls_of bytes = cond (over_long bytes) [] (lines_calls (lines bytes))

-- wherever the lines are cut, the line behind the cut is served in the state to which all calls before it lead a new scheduler
abbrev pub InTurn : List (List ℕ) → Type 0
InTurn ls =
    (done rest : List (List ℕ)) → ls ≡ done ++ rest →
    printed_from 1 start ls ≡ printed_from 1 start done ++ printed_from (1 + length done) (after plain start (lines_calls done)) rest
