-- What the lines of a table say, from the bytes on.
use Rattle.std.specs.Prelude.{◌≡◌, ℕ, ◌+◌, Bool, true, false, cond, not, ◌&&◌, List, [], ◌∷◌, Some, None, Ok, Err, codes, Option, Result}
use Rattle.std.specs.Str.{bytes_eq}
use Rattle.jobs.specs.declared.job.Class.TheVariants.{Hard}
use Rattle.jobs.specs.declared.job.Job.{Job}
use Rattle.words.specs.Bytes.{over_long, lines}
use Rattle.words.specs.Faults.{too_long, broken_at, in_line, then}
use Rattle.words.specs.Readers.{Rest, whole, skip, first, first_number, optional_number, none_left, number_alone, within}
use Rattle.words.specs.declared.fault.Fault.{Fault}
use Rattle.words.specs.declared.fault.WordFault.{WordFault}
use Rattle.words.specs.declared.words.Number.{Number}
use Rattle.tables.specs.Table.{Sheet, sheet, blank, entered}
use Rattle.tables.specs.declared.reading.Draft.{Draft}
use Rattle.tables.specs.declared.table.Table.{Table}

-- a sheet as it is read, and whether a line with words has come
pub record Begun : Type 0 where
  pub begun : Bool
  pub sheet : Sheet

abbrev pub drafted : Draft → Begun
drafted d = record { begun = d.begun; sheet = sheet d.table }

-- nothing has been read
abbrev pub unread : Begun
unread = record { begun = false; sheet = blank }

abbrev pub job_of : ℕ → ℕ → ℕ → ℕ → ℕ → Job
job_of start n c d m =
    record {
      mark = record { number = n; class = Hard; arrival = start; deadline = d; tolerance = m; value = 0 };
      computation = c;
      remaining = c;
      by = 0;
    }

-- TICK, and no word more
abbrev pub start_in : Rest → Result ℕ WordFault
start_in r = then (number_alone r) (λ t. Ok t.value)

-- a tolerance that is left out is 0
abbrev pub tolerance_in : Option Number → Result ℕ WordFault
tolerance_in None = Ok 0
tolerance_in (Some m) = within 0 100000000 m

-- NUMBER REMAINING DEADLINE [TOLERANCE]: first the words from left to right, then the ranges
abbrev pub job_in : ℕ → Rest → Result Job WordFault
job_in start r =
    then (first_number r) (λ n.
    then (first_number (skip 1 r)) (λ c.
    then (first_number (skip 2 r)) (λ d.
    then (optional_number (skip 3 r)) (λ m.
    then (none_left (skip 4 r)) (λ _.
    then (within 1 65535 n) (λ number.
    then (within 1 1000000 c) (λ remaining.
    then (tolerance_in m) (λ tolerance.
    Ok (job_of start number remaining d.value tolerance)))))))))

-- a line of words: the first may be `at TICK`, every other is a job
abbrev pub words_in : Rest → Begun → Result Begun WordFault
words_in r s =
    elim (first r) [
      | None ↦ Ok s
      | Some w ↦
          cond (not s.begun && bytes_eq w.text (codes "at"))
          (then (start_in (skip 1 r)) (λ t. Ok (record { begun = true; sheet = record { start = t; jobs = s.sheet.jobs } })))
          (then (job_in s.sheet.start r) (λ j.
          then (broken_at 1 (entered s.sheet j)) (λ sheet. Ok (record { begun = true; sheet = sheet }))))
    ]

abbrev pub line_in : List ℕ → Begun → Result Begun WordFault
line_in line s = words_in (whole line) s

-- the lines from the one of number n on
abbrev pub lines_in : ℕ → List (List ℕ) → Begun → Result Begun Fault
lines_in n [] s = Ok s
lines_in n (l ∷ ls) s = then (in_line n (line_in l s)) (lines_in (n + 1) ls)

abbrev pub table_in : List ℕ → Result Sheet Fault
table_in bytes =
    cond (over_long bytes)
    (Err too_long)
    (then (lines_in 1 (lines bytes) unread) (λ s. Ok s.sheet))

-- what taking a line answers and leaves; refused, all is as it was
abbrev pub Taken : List ℕ → Begun → Begun → Result (Unit {0}) WordFault → Type 0
Taken line was is (Ok _) = line_in line was ≡ Ok is
Taken line was is (Err f) = (line_in line was ≡ Err f) × (is ≡ was)

abbrev pub Read : List ℕ → Result Table Fault → Type 0
Read bytes (Ok t) = table_in bytes ≡ Ok (sheet t)
Read bytes (Err f) = table_in bytes ≡ Err f
