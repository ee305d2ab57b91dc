-- A call served on a scheduler to which calls on a new one have led.
use Rattle.std.proofs.Common.{◌≡◌, Ok, Err, Result, MatchResult, OnErr, refl, sym, ap, ◌∙◌}
use Rattle.std.specs.Result.{result_map_both}
use Rattle.jobs.specs.declared.refusal.Refusal.{Refusal}
use Rattle.rules.specs.Calls.{serve}
use Rattle.rules.specs.States.{State, Call, answers}
use Rattle.rules.specs.Worked.{plain}
use Rattle.timing.specs.Overruns.{exceeding_of, cause_of}
use Rattle.admission.specs.Steps.{told_by}
use Rattle.admission.specs.declared.admitting.Verdict.TheVariants.{Ready, Parked}
use Rattle.scheduler.specs.Calling.{answer_of, answered}
use Rattle.scheduler.specs.Serving.{Serves}
use Rattle.admission.specs.Written.{verdict_text}
use Rattle.scheduler.specs.Written.{answer_text}
use Rattle.scheduler.specs.declared.calls.Answer.{Answer}
use Rattle.scheduler.specs.declared.calls.Answer.TheVariants.{Admitted, Now, Saved, Gone, Ended}
use Rattle.scheduler.proofs.Promising.{reached_in_range}
use Rattle.words.specs.Readers.{fault_at}
use Rattle.words.specs.declared.fault.Cause.TheVariants.{Rule}
use Rattle.words.specs.declared.fault.WordFault.{WordFault}
use Rattle.lines.specs.Answers.{answer_in}
use Rattle.lines.specs.Forms.{IsReached}
use Rattle.lines.specs.Requests.{Asking, call_of, fault_place}
use Rattle.lines.proofs.Turns.{plain_lawful}

-- an answer is written as the rules' answer is
written : (q : Asking) (x : Answer) → Ok (answer_text x) ≡ answer_in q (answer_of x)
written q (Admitted a) =
    elim a.verdict as (λ v. Ok (verdict_text v (exceeding_of a.overrun) (cause_of a.overrun)) ≡ answer_in q (told_by v (exceeding_of a.overrun) (cause_of a.overrun))) [ Ready n ↦ refl | Parked ↦ refl ]
written q (Now t) = refl
written q (Saved c) = refl
written q Gone = refl
written q (Ended e) = refl

-- the scheduler answers r, and out is that with a refusal as a fault at its word
abbrev pub Told : Asking → Result Answer Refusal → Result Answer WordFault → Type 0
Told q r out = MatchResult r (λ x. out ≡ Ok x) (λ e. out ≡ Err (fault_at (fault_place q e) (Rule e)))

module _ (q : Asking) (s₀ s s' : State) (k : Call) (same : s₀ ≡ s) (asked : k ≡ call_of q) (by : IsReached s₀) where
  did : (r : Result Answer Refusal) → Serves plain s₀ k (answered r) s' → serve plain s (call_of q) ≡ answers (answered r) s'
  did r does = (λ i. serve plain (sym same i) (sym asked i)) ∙ does.exact (reached_in_range plain plain_lawful s₀ by.0 by.1)

  pub served_state : (r : Result Answer Refusal) → Serves plain s₀ k (answered r) s' → s' ≡ (serve plain s (call_of q)).state
  served_state r does = sym (ap (λ o. o.state) (did r does))

  pub served_value : (r : Result Answer Refusal) (out : Result Answer WordFault) → Serves plain s₀ k (answered r) s' → Told q r out → result_map_both answer_text (λ f. f) out ≡ answer_in q (serve plain s (call_of q)).answer
  served_value (Ok x) out does is =
      ap (result_map_both answer_text (λ f. f)) is ∙ written q x ∙ sym (ap (λ o. answer_in q o.answer) (did (Ok x) does))
  served_value (Err e) out does is =
      ap (result_map_both answer_text (λ f. f)) is ∙ sym (ap (λ o. answer_in q o.answer) (did (Err e) does))

  pub served_same : (r : Result Answer Refusal) (out : Result Answer WordFault) → Serves plain s₀ k (answered r) s' → Told q r out → OnErr out (s' ≡ s)
  served_same (Ok x) out does is = rw is tt
  served_same (Err e) out does is =
      rw is ((does.refusal e (ap (λ o. o.answer) (does.exact (reached_in_range plain plain_lawful s₀ by.0 by.1)))).1 ∙ same)
