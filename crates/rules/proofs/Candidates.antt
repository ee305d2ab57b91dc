-- The records of a list that pass a test, put in an order: which they are, and how many.
use Rattle.std.proofs.Common.{◌≡◌, ◌≤◌, Bool, true, List, [], ◌∷◌, filter, arith}
use Rattle.std.proofs.ByRecursion.{All-weaker}
use Rattle.std.proofs.lemmas.Bool.{both_ways, cond_both}
use Rattle.std.specs.List.{AllByRecursion as Every}
use Rattle.rankings.specs.Ranked.{insert, Sorted}
use Rattle.rankings.proofs.Before.{Ordered}
use Rattle.rules.specs.Lists.{insert_all, count, Among}
use Rattle.rules.proofs.Keeping.{count_insert_all, count_split, all_insert_all, all_kept_passes, all_own}
use Rattle.rules.proofs.Ordering.{sorted_insert_all}

module _ {A : Type 0} (P : A → Type 0) where
  all_from_insert : (first : A → A → Bool) (x : A) (xs : List A) → Every P (insert first x xs) → P x × Every P xs
  all_from_insert first x [] ps = ps
  all_from_insert first x (y ∷ ys) ps =
      cond_both (first x y) (x ∷ (y ∷ ys)) (y ∷ insert first x ys) (λ l. Every P l → P x × Every P (y ∷ ys))
      (λ _ qs. (qs.0, qs.1))
      (λ _ qs. let ih = all_from_insert first x ys qs.1 in (ih.0, (qs.0, ih.1)))
      ps

  -- what holds of each record of a list that others were put into holds of these and of those
  pub all_from_insert_all : (first : A → A → Bool) (xs ys : List A) → Every P (insert_all first xs ys) → Every P xs × Every P ys
  all_from_insert_all first [] ys ps = (tt, ps)
  all_from_insert_all first (x ∷ xs) ys ps =
      let ih = all_from_insert_all first xs (insert first x ys) ps in
      let here = all_from_insert first x ys ih.1 in
      ((here.0, ih.0), here.1)

  -- and what holds of each record that is kept holds of each that passes
  pub all_from_kept : (test : A → Bool) (xs : List A) → Every P (filter test xs) → Every (λ x. test x ≡ true → P x) xs
  all_from_kept test [] ps = tt
  all_from_kept test (x ∷ xs) ps =
      cond_both (test x) (x ∷ filter test xs) (filter test xs) (λ l. Every P l → Every (λ y. test y ≡ true → P y) (x ∷ xs))
      (λ _ qs. ((λ _. qs.0), all_from_kept test xs qs.1))
      (λ out qs. ((λ passes. absurd (both_ways (test x) out passes)), all_from_kept test xs qs))
      ps

-- the records that pass, in the order
abbrev pub chosen : {A : Type 0} → (A → A → Bool) → (A → Bool) → List A → List A
chosen first test xs = insert_all first (filter test xs) []

module _ {A : Type 0} (first : A → A → Bool) (test : A → Bool) (xs : List A) where
  -- each is a record of the list that passes
  pub all_chosen : Every (λ v. Among (λ r. r ≡ v) xs × (test v ≡ true)) (chosen first test xs)
  all_chosen =
      let P : A → Type 0 = λ v. Among (λ r. r ≡ v) xs × (test v ≡ true) in
      all_insert_all P first (filter test xs) [] (all_kept_passes P test xs (All-weaker _ (λ v. test v ≡ true → P v) (λ v own passes. (own, passes)) xs (all_own xs))) tt

  -- and each such record is there
  pub all_from_chosen : (P : A → Type 0) → Every P (chosen first test xs) → Every (λ x. test x ≡ true → P x) xs
  all_from_chosen P ps = all_from_kept P test xs (all_from_insert_all P first (filter test xs) [] ps).0

  pub sorted_chosen : Ordered first → Sorted first (chosen first test xs)
  sorted_chosen ordered = sorted_insert_all first ordered (filter test xs) [] tt

  pub count_chosen : (which : A → Bool) → count which (chosen first test xs) ≤ count which xs
  count_chosen which =
      let all = count_insert_all which first (filter test xs) [] in
      let split = count_split which test xs in
      omega arith
