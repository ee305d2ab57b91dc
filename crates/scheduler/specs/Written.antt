-- How an answer is written.
use Rattle.std.specs.Prelude.{ℕ, List, ◌++◌, codes, decimal}
use Rattle.jobs.specs.Records.{ended_text}
use Rattle.admission.specs.Written.{admission_text}
use Rattle.scheduler.specs.declared.calls.Answer.{Answer}
use Rattle.scheduler.specs.declared.calls.Answer.TheVariants.{Admitted, Now, Saved, Gone, Ended}

abbrev pub answer_text : Answer → List ℕ
answer_text (Admitted a) = admission_text a
answer_text (Now t) = codes "now " ++ decimal t
answer_text (Saved c) = codes "done " ++ decimal c
answer_text Gone = codes "gone"
answer_text (Ended e) = ended_text e
