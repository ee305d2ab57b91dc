use Rattle.std.proofs.Common.{◌≡◌, ◌++◌, drop, string_bytes}
use Rattle.timing.specs.Written.{entry_lines}
use Rattle.lines.proofs.session.write_entries.Given as goal

abbrev pub invariant-loop-entry : goal.invariant-loop-entry
invariant-loop-entry l =
    string_bytes l.text ++ entry_lines (drop l.entry-index l.entries) ≡ string_bytes l.initial.text ++ entry_lines l.entries
