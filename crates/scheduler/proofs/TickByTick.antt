-- Work tick by tick: those to come give the whole.
use Rattle.std.proofs.Common.{◌≡◌, ℕ, suc, ◌+◌, ◌-◌, ◌<◌, ◌≤◌, sym, ap, ◌∙◌, subst, arith}
use Rattle.std.proofs.ByRecursion.{All-weaker}
use Rattle.rules.proofs.Fields.{fields_ticked}
use Rattle.rules.specs.Calls.{tick, after_ticks}
use Rattle.rules.specs.Ranges.{JobInRange, Fields}
use Rattle.rules.specs.States.{Parts, LawfulParts, State}

-- i of the n ticks from s on have passed, and led to w
pub record Worked (ρ : Parts) (s : State) (n : ℕ) (w : State) (i : ℕ) : Type 0 where
  pub clock : w.clock ≡ s.clock + i
  pub fields : Fields s → Fields w
  pub rest : Fields s → after_ticks ρ (n - i) w ≡ after_ticks ρ n s

module _ (ρ : Parts) (laws : LawfulParts ρ) (s : State) (n : ℕ) where
  pub worked_more : (w w' : State) (i : ℕ) → i < n → Worked ρ s n w i → w'.clock ≡ w.clock + 1 → (Fields w → tick ρ w ≡ w') → Worked ρ s n w' (i + 1)
  worked_more w w' i within so_far at is =
      let left : n - i ≡ suc (n - (i + 1)) = omega arith in
      record {
        clock = let was = so_far.clock in omega arith;
        fields = λ f. let g = so_far.fields f in subst Fields (is g) (fields_ticked ρ laws w (All-weaker (JobInRange w.clock) _ (λ j h. h.remaining.0) w.ready g.ready) g);
        rest = λ f. ap (after_ticks ρ (n - (i + 1))) (sym (is (so_far.fields f))) ∙ ap (λ m. after_ticks ρ m w) (sym left) ∙ so_far.rest f;
      }

  pub worked_all : (w : State) (i : ℕ) → n ≤ i → Worked ρ s n w i → Fields s → after_ticks ρ n s ≡ w
  worked_all w i past so_far f = let none : n - i ≡ 0 = omega arith in sym (so_far.rest f) ∙ ap (λ m. after_ticks ρ m w) none
