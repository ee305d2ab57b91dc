-- How an admission is written.
use Rattle.std.specs.Prelude.{ℕ, List, ◌++◌, codes, decimal}
use Rattle.timing.specs.Overruns.{exceeding_of, cause_of}
use Rattle.admission.specs.declared.admitting.Admission.{Admission}
use Rattle.admission.specs.declared.admitting.Verdict.{Verdict}
use Rattle.admission.specs.declared.admitting.Verdict.TheVariants.{Ready, Parked}

-- VERDICT E CAUSE COUNT
abbrev pub admitted_text : List ℕ → ℕ → ℕ → ℕ → List ℕ
admitted_text verdict e w n = verdict ++ (codes " " ++ (decimal e ++ (codes " " ++ (decimal w ++ (codes " " ++ decimal n)))))

abbrev pub verdict_text : Verdict → ℕ → ℕ → List ℕ
verdict_text (Ready n) e w = admitted_text (codes "ready") e w n
verdict_text Parked e w = admitted_text (codes "parked") e w 0

abbrev pub admission_text : Admission → List ℕ
admission_text a = verdict_text a.verdict (exceeding_of a.overrun) (cause_of a.overrun)
