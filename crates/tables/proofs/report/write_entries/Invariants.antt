use Rattle.std.proofs.Common.{◌≡◌, ◌++◌, drop, string_bytes}
use Rattle.timing.specs.Tallies.{fresh, counted_all}
use Rattle.timing.specs.Timing.{entries}
use Rattle.timing.specs.Written.{entry_lines}
use Rattle.tables.proofs.report.write_entries.Given as goal

abbrev pub invariant-loop-job : goal.invariant-loop-job
invariant-loop-job l =
    let w = l.walk in
    record {
      start : w.start ≡ l.start;
      jobs : w.jobs ≡ l.job-index;
      counted : counted_all w (drop l.job-index l.jobs) ≡ counted_all (fresh l.start) l.jobs;
      written : string_bytes l.text ++ entry_lines (entries l.start w.sum (drop l.job-index l.jobs)) ≡ string_bytes l.initial.text ++ entry_lines (entries l.start 0 l.jobs);
    }
