-- What is answered to a table.
use Rattle.std.specs.Prelude.{ℕ, cond, List, [], ◌∷◌, ◌++◌, Ok, Err, codes, decimal, Result, ◌==◌}
use Rattle.jobs.specs.declared.job.Job.{Job}
use Rattle.timing.specs.Tallies.{Tally}
use Rattle.timing.specs.Timing.{holds, exceeding, cause, entries}
use Rattle.timing.specs.Written.{entry_lines}
use Rattle.words.specs.Faults.{fault_text}
use Rattle.words.specs.Texts.{newline}
use Rattle.words.specs.declared.fault.Fault.{Fault}
use Rattle.tables.specs.Format.{table_in}
use Rattle.tables.specs.Table.{Sheet}

-- holds, or exceeds E CAUSE
abbrev pub verdict : ℕ → List Job → List ℕ
verdict t js =
    cond (holds t js) (codes "holds" ++ newline)
    (codes "exceeds " ++ (decimal (exceeding t js) ++ (codes " " ++ (decimal (cause t js) ++ newline))))

-- the same, from what a walk has found
abbrev pub verdict_of : Tally → List ℕ
verdict_of w =
    cond (w.exceeding == 0) (codes "holds" ++ newline)
    (codes "exceeds " ++ (decimal w.exceeding ++ (codes " " ++ (decimal w.cause ++ newline))))

abbrev pub sheet_answer : ℕ → List Job → List ℕ
sheet_answer t [] = codes "idle" ++ newline
sheet_answer t (j ∷ js) = entry_lines (entries t 0 (j ∷ js)) ++ verdict t (j ∷ js)

abbrev pub answer_to : Result Sheet Fault → List ℕ
answer_to (Ok s) = sheet_answer s.start s.jobs
answer_to (Err f) = fault_text f ++ newline

-- the whole of what is printed for an input
abbrev pub answer : List ℕ → List ℕ
answer bytes = answer_to (table_in bytes)
