-- Jobs known by their numbers: whose number is among a list's, and which job that is where numbers are distinct.
use Rattle.std.proofs.Common.{◌≡◌, ℕ, ◌≤◌, true, List, [], ◌∷◌, sym, ap, ◌∙◌, subst, inl, inr, arith}
use Rattle.std.proofs.ByRecursion.{All-weaker}
use Rattle.std.proofs.lemmas.Bool.{false≢true, eq-eqb, eqb-true, or_cases}
use Rattle.std.proofs.lemmas.Bool.Decides.{nat_tests}
use Rattle.std.specs.List.{AllByRecursion as Every}
use Rattle.jobs.specs.declared.job.Job.{Job}
use Rattle.jobs.specs.Records.{number}
use Rattle.rules.specs.Giving.{among}
use Rattle.rules.specs.Lists.{count, Among}
use Rattle.rules.specs.States.{has}
use Rattle.rules.proofs.Keeping.{some_count, counted, all_own}

-- a job of the list is counted under its number
counted_here : (r : Job) (rs : List Job) → Among (λ x. x ≡ r) rs → 1 ≤ count (has (number r)) rs
counted_here r rs own = counted (has (number r)) (λ x. x ≡ r) (λ x e. eq-eqb (number x) (number r) (ap number e)) rs own

-- the number of each job is among them
pub all_among_own : (vs : List Job) → Every (λ v. among vs v ≡ true) vs
all_among_own vs =
    All-weaker _ (λ v. among vs v ≡ true)
    (λ v own. let one = counted_here v vs own in let counts = some_count (has (number v)) vs in grind (arith, nat_tests))
    vs (all_own vs)

-- a job whose number is among vs's has it among ws's, where each of vs has
pub among_through : (vs ws : List Job) → Every (λ v. among ws v ≡ true) vs → (r : Job) → among vs r ≡ true → among ws r ≡ true
among_through [] ws each r h = absurd (false≢true h)
among_through (v ∷ vs) ws each r h =
    elim (or_cases (has (number r) v) (among vs r) h) [
      | inl e ↦ rw (eqb-true (number v) (number r) e) at each.0
      | inr k ↦ among_through vs ws each.1 r k
    ]

-- where numbers are distinct, no other job has the first one's
once : (x r : Job) (xs : List Job) → count (has (number r)) (x ∷ xs) ≤ 1 → number x ≡ number r → Among (λ y. y ≡ r) xs → ⊥
once x r xs distinct e own =
    let here = eq-eqb (number x) (number r) e in
    let more = counted_here r xs own in
    grind (arith, nat_tests)

-- and two jobs of the list with the same number are one
pub same_by_number : (rs : List Job) → ((n : ℕ) → count (has n) rs ≤ 1) → (v r : Job) → Among (λ x. x ≡ v) rs → Among (λ x. x ≡ r) rs → number v ≡ number r → v ≡ r
same_by_number [] distinct v r hv hr e = elim hv [ ]
same_by_number (x ∷ xs) distinct v r (inl hv) (inl hr) e = sym hv ∙ hr
same_by_number (x ∷ xs) distinct v r (inl hv) (inr hr) e = absurd (once x r xs (distinct (number r)) (ap number hv ∙ e) hr)
same_by_number (x ∷ xs) distinct v r (inr hv) (inl hr) e = absurd (once x v xs (distinct (number v)) (ap number hr ∙ sym e) hv)
same_by_number (x ∷ xs) distinct v r (inr hv) (inr hr) e = same_by_number xs (λ n. let h = distinct n in omega arith) v r hv hr e

-- so what holds of some of its jobs holds of those that have their numbers
pub all_by_number : (rs : List Job) → ((n : ℕ) → count (has n) rs ≤ 1) → (P : Job → Type 0) (vs : List Job) → Every (λ v. Among (λ r. r ≡ v) rs) vs → Every P vs → Every (λ r. among vs r ≡ true → P r) rs
all_by_number rs distinct P vs owns ps = All-weaker _ (λ r. among vs r ≡ true → P r) (λ r own h. named vs owns ps r own h) rs (all_own rs)
  where
    named : (vs : List Job) → Every (λ v. Among (λ r. r ≡ v) rs) vs → Every P vs → (r : Job) → Among (λ x. x ≡ r) rs → among vs r ≡ true → P r
    named [] owns ps r own h = absurd (false≢true h)
    named (v ∷ vs) owns ps r own h =
        elim (or_cases (has (number r) v) (among vs r) h) [
          | inl e ↦ subst P (same_by_number rs distinct v r owns.0 own (eqb-true (number v) (number r) e)) ps.0
          | inr k ↦ named vs owns.1 ps.1 r own k
        ]
