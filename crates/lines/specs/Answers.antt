-- What is printed for a line.
--
--   answer_in q a        what the answer a to the call q is written as, or its fault
--   profile_text s       what the profile of the state s is written as
--   line_text n s bytes  all that is printed for the line of number n, to which the state has come to be s
use Rattle.std.specs.Prelude.{ℕ, List, [], ◌∷◌, ◌++◌, Some, None, Ok, Err, codes, decimal, Option, Result}
use Rattle.timing.specs.Timing.{entries}
use Rattle.timing.specs.Written.{entry_lines}
use Rattle.timing.specs.declared.entry.Entry.{Entry}
use Rattle.rules.specs.Calls.{serve}
use Rattle.rules.specs.States.{State, Answer, ready, parked, now_at, saved, gone, line, refused}
use Rattle.rules.specs.Worked.{plain}
use Rattle.jobs.specs.Records.{ended_text}
use Rattle.admission.specs.Written.{admitted_text}
use Rattle.words.specs.Faults.{fault_in, fault_text}
use Rattle.words.specs.Readers.{fault_at}
use Rattle.words.specs.Texts.{newline}
use Rattle.words.specs.declared.fault.Cause.TheVariants.{Rule}
use Rattle.words.specs.declared.fault.WordFault.{WordFault}
use Rattle.lines.specs.Requests.{Asking, Request, calling, profiling, line_in, call_of, fault_place}

-- ANSWERS

abbrev pub answer_in : Asking → Answer → Result (List ℕ) WordFault
answer_in q (ready e w n) = Ok (admitted_text (codes "ready") e w n)
answer_in q (parked e w n) = Ok (admitted_text (codes "parked") e w n)
answer_in q (now_at t) = Ok (codes "now " ++ decimal t)
answer_in q (saved c) = Ok (codes "done " ++ decimal c)
answer_in q gone = Ok (codes "gone")
answer_in q (line e) = Ok (ended_text e)
answer_in q (refused e) = Err (fault_at (fault_place q e) (Rule e))

-- THE PROFILE

-- a line for each ready job, or that there is none
abbrev pub profile_lines : List Entry → List ℕ
profile_lines [] = codes "idle" ++ newline
profile_lines (e ∷ es) = entry_lines (e ∷ es)

abbrev pub profile_text : State → List ℕ
profile_text s = profile_lines (entries s.clock 0 s.ready)

-- A LINE

-- an answer, or a fault in the line of number n
abbrev pub outcome_text : ℕ → Result (List ℕ) WordFault → List ℕ
outcome_text n (Ok text) = text ++ newline
outcome_text n (Err f) = fault_text (fault_in n f) ++ newline

abbrev pub request_text : ℕ → State → Result (Option Request) WordFault → List ℕ
request_text n s (Ok None) = []
request_text n s (Ok (Some (calling q))) = outcome_text n (answer_in q (serve plain s (call_of q)).answer)
request_text n s (Ok (Some profiling)) = profile_text s
request_text n s (Err f) = fault_text (fault_in n f) ++ newline

abbrev pub line_text : ℕ → State → List ℕ → List ℕ
line_text n s bytes = request_text n s (line_in bytes)
