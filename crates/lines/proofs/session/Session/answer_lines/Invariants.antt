use Rattle.std.proofs.Common.{◌≡◌, ◌+◌, ◌≤◌, ◌++◌, length, string_bytes}
use Rattle.rules.specs.Runs.{after}
use Rattle.rules.specs.Worked.{plain}
use Rattle.words.specs.Bytes.{lines}
use Rattle.words.specs.Readers.{lines_left}
use Rattle.lines.specs.Load.{lines_calls, printed_from}
use Rattle.lines.proofs.session.Session.answer_lines.Given as goal

-- the lines that are left lead where all of them lead, and complete what is printed for them all
abbrev pub invariant-loop-line : goal.invariant-loop-line
invariant-loop-line l =
    let left = lines_left l.line-iterator in
    record {
      can_next : (goal.iterator-loop-line).can_next l.line-iterator;
      is_finite : (goal.iterator-loop-line).is_finite l.line-iterator;
      few : l.number + length left ≤ length l.input + 1;
      state : after plain l.self (lines_calls left) ≡ after plain l.initial.self (lines_calls (lines l.input));
      text : string_bytes l.text ++ printed_from (l.number + 1) l.self left ≡ string_bytes l.initial.text ++ printed_from 1 l.initial.self (lines l.input);
    }
