use Rattle.std.proofs.Common.{◌≡◌, ◌+◌, ◌≤◌, length}
use Rattle.words.specs.Bytes.{lines}
use Rattle.words.specs.Readers.{lines_left}
use Rattle.tables.specs.Format.{drafted, unread, lines_in}
use Rattle.tables.proofs.reading.read.Given as goal

abbrev pub invariant-loop-line : goal.invariant-loop-line
invariant-loop-line l =
    let number = l.line-iterator.b.start in
    let left = lines_left l.line-iterator.a in
    record {
      can_next : (goal.iterator-loop-line).can_next l.line-iterator;
      is_finite : (goal.iterator-loop-line).is_finite l.line-iterator;
      few : number + length left ≤ 65538;
      so_far : lines_in number left (drafted l.draft) ≡ lines_in 1 (lines l.input) unread;
    }
