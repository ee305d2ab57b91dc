-- What the sweep keeps, and that after it no parked job fits.
use Rattle.std.proofs.Common.{◌≡◌, ℕ, ◌+◌, ◌≤◌, Bool, true, false, List, [], ◌∷◌, sym, refl, ap, ◌∙◌, arith}
use Rattle.std.proofs.lemmas.Bool.{cond_both, eq-eqb}
use Rattle.std.proofs.lemmas.Bool.Decides.{nat_tests}
use Rattle.std.specs.List.{AllByRecursion as Every}
use Rattle.jobs.specs.declared.job.Job.{Job}
use Rattle.jobs.specs.Records.{number}
use Rattle.rankings.specs.Ranked.{Sorted}
use Rattle.rankings.proofs.Placing.{all_insert, insert_sorted}
use Rattle.timing.specs.Timing.{holds}
use Rattle.rules.specs.Giving.{place, fits, left_parked, sweep}
use Rattle.rules.specs.Lists.{count}
use Rattle.rules.specs.States.{Parts, LawfulParts, ready_order, has}
use Rattle.rules.proofs.Holding.{holds_insert, not_held}
use Rattle.rules.proofs.Keeping.{count_insert}
use Rattle.rules.proofs.Orders.{ready_ordered, either}
use Rattle.rules.proofs.Ordering.{insert_swap}

-- a count of 0 or 1 at the head of a list
pub count_own : (j : Job) (js : List Job) → count (has (number j)) (j ∷ js) ≡ 1 + count (has (number j)) js
count_own j js = let own = eq-eqb (number j) (number j) refl in grind (arith, nat_tests)

module _ (ρ : Parts) (laws : LawfulParts ρ) where
  -- who does not fit does not fit where another was added
  pub fits_more : (t : ℕ) (rs : List Job) (p q : Job) → (number p ≡ number q → ⊥) → fits ρ t rs p ≡ false → fits ρ t (place ρ q rs) p ≡ false
  fits_more t rs p q other h =
      not_held t (place ρ p rs) (place ρ p (place ρ q rs))
      (λ k. holds_insert (ready_order ρ) t q (place ρ p rs) (ap (holds t) (sym (insert_swap (ready_order ρ) (ready_ordered ρ laws) p q (either ρ laws p q other) rs)) ∙ k))
      h

  pub sweep_still : (t : ℕ) (p : Job) (rs ps : List Job) → count (has (number p)) ps ≡ 0 → fits ρ t rs p ≡ false → fits ρ t (sweep ρ t rs ps).ready p ≡ false
  sweep_still t p rs [] none h = h
  sweep_still t p rs (q ∷ qs) none h =
      let other : number p ≡ number q → ⊥ = λ e. let same = eq-eqb (number q) (number p) (sym e) in grind (arith, nat_tests) in
      let rest : count (has (number p)) qs ≡ 0 = omega arith in
      cond_both (fits ρ t rs q) (sweep ρ t (place ρ q rs) qs) (left_parked q (sweep ρ t rs qs)) (λ w. fits ρ t w.ready p ≡ false)
      (λ _. sweep_still t p (place ρ q rs) qs rest (fits_more t rs p q other h))
      (λ _. sweep_still t p rs qs rest h)

  -- one sweep suffices
  pub sweep_full : (t : ℕ) (rs ps : List Job) → ((n : ℕ) → count (has n) ps ≤ 1) → Every (λ p. fits ρ t (sweep ρ t rs ps).ready p ≡ false) (sweep ρ t rs ps).parked
  sweep_full t rs [] once = tt
  sweep_full t rs (p ∷ ps) once =
      let rest : (n : ℕ) → count (has n) ps ≤ 1 = λ n. let here = once n in omega arith in
      let alone : count (has (number p)) ps ≡ 0 = let here = once (number p) in omega (arith, count_own p ps) in
      cond_both (fits ρ t rs p) (sweep ρ t (place ρ p rs) ps) (left_parked p (sweep ρ t rs ps)) (λ w. Every (λ x. fits ρ t w.ready x ≡ false) w.parked)
      (λ _. sweep_full t (place ρ p rs) ps rest)
      (λ h. (sweep_still t p rs ps alone h, sweep_full t rs ps rest))

  pub sweep_holds : (t : ℕ) (rs ps : List Job) → holds t rs ≡ true → holds t (sweep ρ t rs ps).ready ≡ true
  sweep_holds t rs [] h = h
  sweep_holds t rs (p ∷ ps) h =
      cond_both (fits ρ t rs p) (sweep ρ t (place ρ p rs) ps) (left_parked p (sweep ρ t rs ps)) (λ w. holds t w.ready ≡ true)
      (λ k. sweep_holds t (place ρ p rs) ps k)
      (λ _. sweep_holds t rs ps h)

  pub sweep_count : (test : Job → Bool) (t : ℕ) (rs ps : List Job) → count test (sweep ρ t rs ps).ready + count test (sweep ρ t rs ps).parked ≡ count test rs + count test ps
  sweep_count test t rs [] = refl
  sweep_count test t rs (p ∷ ps) =
      cond_both (fits ρ t rs p) (sweep ρ t (place ρ p rs) ps) (left_parked p (sweep ρ t rs ps)) (λ w. count test w.ready + count test w.parked ≡ count test rs + count test (p ∷ ps))
      (λ _. let ih = sweep_count test t (place ρ p rs) ps in let here = count_insert test (ready_order ρ) p rs in omega arith)
      (λ _. let ih = sweep_count test t rs ps in omega arith)

  -- nobody who was ready is parked
  pub sweep_stays : (test : Job → Bool) (t : ℕ) (rs ps : List Job) → count test rs ≤ count test (sweep ρ t rs ps).ready
  sweep_stays test t rs [] = omega arith
  sweep_stays test t rs (p ∷ ps) =
      cond_both (fits ρ t rs p) (sweep ρ t (place ρ p rs) ps) (left_parked p (sweep ρ t rs ps)) (λ w. count test rs ≤ count test w.ready)
      (λ _. let ih = sweep_stays test t (place ρ p rs) ps in let here = count_insert test (ready_order ρ) p rs in omega arith)
      (λ _. sweep_stays test t rs ps)

  pub sweep_all_ready : (P : Job → Type 0) (t : ℕ) (rs ps : List Job) → Every P rs → Every P ps → Every P (sweep ρ t rs ps).ready
  sweep_all_ready P t rs [] a b = a
  sweep_all_ready P t rs (p ∷ ps) a b =
      cond_both (fits ρ t rs p) (sweep ρ t (place ρ p rs) ps) (left_parked p (sweep ρ t rs ps)) (λ w. Every P w.ready)
      (λ _. sweep_all_ready P t (place ρ p rs) ps (all_insert (ready_order ρ) p P rs b.0 a) b.1)
      (λ _. sweep_all_ready P t rs ps a b.1)

  pub sweep_all_parked : (P : Job → Type 0) (t : ℕ) (rs ps : List Job) → Every P ps → Every P (sweep ρ t rs ps).parked
  sweep_all_parked P t rs [] b = tt
  sweep_all_parked P t rs (p ∷ ps) b =
      cond_both (fits ρ t rs p) (sweep ρ t (place ρ p rs) ps) (left_parked p (sweep ρ t rs ps)) (λ w. Every P w.parked)
      (λ _. sweep_all_parked P t (place ρ p rs) ps b.1)
      (λ _. (b.0, sweep_all_parked P t rs ps b.1))

  pub sweep_sorted_ready : (t : ℕ) (rs ps : List Job) → Sorted (ready_order ρ) rs → Sorted (ready_order ρ) (sweep ρ t rs ps).ready
  sweep_sorted_ready t rs [] s = s
  sweep_sorted_ready t rs (p ∷ ps) s =
      cond_both (fits ρ t rs p) (sweep ρ t (place ρ p rs) ps) (left_parked p (sweep ρ t rs ps)) (λ w. Sorted (ready_order ρ) w.ready)
      (λ _. sweep_sorted_ready t (place ρ p rs) ps (insert_sorted (ready_order ρ) (ready_ordered ρ laws) p rs s))
      (λ _. sweep_sorted_ready t rs ps s)

  pub sweep_sorted_parked : (first : Job → Job → Bool) (t : ℕ) (rs ps : List Job) → Sorted first ps → Sorted first (sweep ρ t rs ps).parked
  sweep_sorted_parked first t rs [] s = tt
  sweep_sorted_parked first t rs (p ∷ ps) s =
      cond_both (fits ρ t rs p) (sweep ρ t (place ρ p rs) ps) (left_parked p (sweep ρ t rs ps)) (λ w. Sorted first w.parked)
      (λ _. sweep_sorted_parked first t (place ρ p rs) ps s.1)
      (λ _. (sweep_all_parked (λ y. first y p ≡ false) t rs ps s.0, sweep_sorted_parked first t rs ps s.1))
