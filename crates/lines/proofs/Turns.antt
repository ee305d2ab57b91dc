-- The lines of an input, and what is promised of the calls that they make.
use Rattle.std.proofs.Common.{◌≡◌, ℕ, suc, ◌+◌, List, [], ◌∷◌, ◌++◌, length, sym, refl, ap, ◌∙◌, append_assoc, arith}
use Rattle.rules.proofs.Orders.{smaller_first, larger_first}
use Rattle.rules.proofs.Sounding.{after_append, every_run_is_sound}
use Rattle.rules.specs.Promise.{Sound}
use Rattle.rules.specs.Runs.{after, trace}
use Rattle.rules.specs.States.{LawfulParts, State, start}
use Rattle.rules.specs.Worked.{plain}
use Rattle.lines.specs.Answers.{line_text}
use Rattle.lines.specs.Load.{lines_calls, printed_from, calls_of, InTurn}
use Rattle.lines.specs.Requests.{line_calls}

pub plain_lawful : LawfulParts plain
plain_lawful =
    record { order = smaller_first (λ m. m.deadline); policy = smaller_first (λ j. j.mark.value); parking = larger_first (λ j. j.mark.value); parking_steady = λ _ _ _ _. refl }

-- WHEREVER THE LINES ARE CUT

printed_cut : (n : ℕ) (s : State) (done rest : List (List ℕ)) → printed_from n s (done ++ rest) ≡ printed_from n s done ++ printed_from (n + length done) (after plain s (lines_calls done)) rest
printed_cut n s [] rest = let same : n ≡ n + 0 = omega arith in ap (λ m. printed_from m s rest) same
printed_cut n s (l ∷ ls) rest =
    let s' = after plain s (line_calls l) in
    let count : (n + 1) + length ls ≡ n + suc (length ls) = omega arith in
    ap (λ t. line_text n s l ++ t) (printed_cut (n + 1) s' ls rest)
    ∙ sym (append_assoc (line_text n s l) (printed_from (n + 1) s' ls) (printed_from ((n + 1) + length ls) (after plain s' (lines_calls ls)) rest))
    ∙ ap (λ m. (line_text n s l ++ printed_from (n + 1) s' ls) ++ printed_from m (after plain s' (lines_calls ls)) rest) count
    ∙ ap (λ w. (line_text n s l ++ printed_from (n + 1) s' ls) ++ printed_from (n + suc (length ls)) w rest) (sym (after_append plain (line_calls l) (lines_calls ls) s))

pub in_turn : (ls : List (List ℕ)) → InTurn ls
in_turn ls done rest whole = ap (printed_from 1 start) whole ∙ printed_cut 1 start done rest

-- THE PROMISE

pub lines_sound : (bytes : List ℕ) → Sound plain (after plain start (calls_of bytes)) (trace plain start (calls_of bytes))
lines_sound bytes = every_run_is_sound plain plain_lawful (calls_of bytes)
