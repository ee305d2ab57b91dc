-- The orders of the three lists and of the policy, each of a lawful ranking and the numbers.
use Rattle.std.proofs.Common.{◌≡◌, ℕ, true, false, leb, inl, inr, arith}
use Rattle.std.proofs.lemmas.Bool.{cases_Bool, leb-true, leb-false, le-leb}
use Rattle.jobs.specs.declared.job.Job.{Job}
use Rattle.jobs.specs.Records.{number}
use Rattle.rankings.specs.Ranked.{Lawful}
use Rattle.rankings.specs.Rankings.{by_mark, earlier_tick}
use Rattle.rankings.proofs.Before.{Ordered, ordered, apart}
use Rattle.rules.specs.States.{Parts, LawfulParts, ready_order, parked_order, ended_order, policy_order}

leb_total : (a b : ℕ) → leb a b ≡ false → leb b a ≡ true
leb_total a b h = le-leb b a (let k = leb-false a b h in omega arith)

leb_transitive : (a b c : ℕ) → leb a b ≡ true → leb b c ≡ true → leb a c ≡ true
leb_transitive a b c h k = le-leb a c (let p = leb-true a b h in let q = leb-true b c k in omega arith)

-- to rank by a number is lawful, the smaller first or the larger
pub smaller_first : {A : Type 0} (key : A → ℕ) → Lawful (λ x y. leb (key x) (key y))
smaller_first key = record { total = λ x y. leb_total (key x) (key y); transitive = λ x y z. leb_transitive (key x) (key y) (key z) }

pub larger_first : {A : Type 0} (key : A → ℕ) → Lawful (λ x y. leb (key y) (key x))
larger_first key = record { total = λ x y. leb_total (key y) (key x); transitive = λ x y z h k. leb_transitive (key z) (key y) (key x) k h }

pub ended_ordered : Ordered ended_order
ended_ordered = ordered earlier_tick (λ e. e.number) (smaller_first (λ e. e.tick))

module _ (ρ : Parts) (laws : LawfulParts ρ) where
  marks_lawful : Lawful (by_mark ρ.order)
  marks_lawful = record {
    total = λ x y. laws.order.total x.mark y.mark;
    transitive = λ x y z. laws.order.transitive x.mark y.mark z.mark;
  }

  pub ready_ordered : Ordered (ready_order ρ)
  ready_ordered = ordered (by_mark ρ.order) number marks_lawful

  pub parked_ordered : Ordered (parked_order ρ)
  parked_ordered = ordered ρ.parking number laws.parking

  pub policy_ordered : Ordered (policy_order ρ)
  policy_ordered = ordered ρ.policy number laws.policy

  -- of two jobs with different numbers one comes before the other
  pub either : (x y : Job) → (number x ≡ number y → ⊥) → ready_order ρ x y ≡ false → ready_order ρ y x ≡ true
  either x y other h =
      elim (cases_Bool (ready_order ρ y x)) [ inl k ↦ k | inr k ↦ absurd (other (apart (by_mark ρ.order) number marks_lawful x y h k)) ]
