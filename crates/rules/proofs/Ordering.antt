-- Lists in an order: insertions commute, and leaving records out commutes with insertion.
use Rattle.std.proofs.Common.{◌≡◌, Bool, true, false, cond, List, [], ◌∷◌, filter, sym, refl, ap, ◌∙◌, inl, inr}
use Rattle.std.proofs.lemmas.Bool.{cond-true, cond-false, cases_Bool}
use Rattle.std.specs.List.{AllByRecursion as Every}
use Rattle.rankings.specs.Ranked.{insert, Sorted}
use Rattle.rankings.proofs.Before.{Ordered}
use Rattle.rankings.proofs.Placing.{insert_sorted}
use Rattle.rules.specs.Lists.{insert_all}
use Rattle.rules.proofs.Keeping.{all_kept}

module _ {A : Type 0} (first : A → A → Bool) (ordered : Ordered first) where
  pub sorted_insert_all : (xs ys : List A) → Sorted first ys → Sorted first (insert_all first xs ys)
  sorted_insert_all [] ys s = s
  sorted_insert_all (x ∷ xs) ys s = sorted_insert_all xs (insert first x ys) (insert_sorted first ordered x ys s)

  pub sorted_kept : (test : A → Bool) (xs : List A) → Sorted first xs → Sorted first (filter test xs)
  sorted_kept test [] s = tt
  sorted_kept test (x ∷ xs) s =
      let ih = sorted_kept test xs s.1 in
      let P : Bool → Type 0 = λ b. Sorted first (cond b (x ∷ filter test xs) (filter test xs)) in
      elim (test x) as P [ true ↦ (all_kept (λ y. first y x ≡ false) test xs s.0, ih) | false ↦ ih ]

  -- a record that is left out leaves no trace
  pub kept_insert_out : (test : A → Bool) (x : A) (xs : List A) → test x ≡ false → filter test (insert first x xs) ≡ filter test xs
  kept_insert_out test x [] out = cond-false (test x) _ _ out
  kept_insert_out test x (y ∷ ys) out =
      let ih = kept_insert_out test x ys out in
      let P : Bool → Type 0 = λ b. filter test (cond b (x ∷ (y ∷ ys)) (y ∷ insert first x ys)) ≡ filter test (y ∷ ys) in
      elim (first x y) as P [ true ↦ cond-false (test x) _ _ out | false ↦ ap (λ l. cond (test y) (y ∷ l) l) ih ]

  insert_front : (x : A) (xs : List A) → Every (λ y. first x y ≡ true) xs → insert first x xs ≡ x ∷ xs
  insert_front x [] h = refl
  insert_front x (y ∷ ys) h = cond-true (first x y) _ _ h.0

  -- x before y, and y before none of ys: x before each of them
  all_across : (x y : A) (ys : List A) → first x y ≡ true → Every (λ z. first z y ≡ false) ys → Every (λ z. first x z ≡ true) ys
  all_across x y [] h zs = tt
  all_across x y (z ∷ zs) h a = (ordered.across x y z h a.0, all_across x y zs h a.1)

  -- one that stays keeps its place among those that stay
  pub kept_insert_in : (test : A → Bool) (x : A) (xs : List A) → Sorted first xs → test x ≡ true → filter test (insert first x xs) ≡ insert first x (filter test xs)
  kept_insert_in test x [] s stays = cond-true (test x) _ _ stays
  kept_insert_in test x (y ∷ ys) s stays =
      elim (cases_Bool (first x y)) [
        | inl h ↦
            let rest = insert_front x (filter test (y ∷ ys)) (all_kept (λ z. first x z ≡ true) test (y ∷ ys) (h, all_across x y ys h s.0)) in
            ap (filter test) (cond-true (first x y) (x ∷ (y ∷ ys)) (y ∷ insert first x ys) h) ∙ cond-true (test x) _ _ stays ∙ sym rest
        | inr h ↦
            let ih = kept_insert_in test x ys s.1 stays in
            let P : Bool → Type 0 = λ b. cond b (y ∷ filter test (insert first x ys)) (filter test (insert first x ys)) ≡ insert first x (cond b (y ∷ filter test ys) (filter test ys)) in
            ap (filter test) (cond-false (first x y) (x ∷ (y ∷ ys)) (y ∷ insert first x ys) h)
            ∙ elim (test y) as P [ true ↦ ap (λ l. y ∷ l) ih ∙ sym (cond-false (first x y) _ _ h) | false ↦ ih ]
      ]

  -- of two records one of which comes before the other, it does not matter which is put in first
  module _ (x y : A) (either : first x y ≡ false → first y x ≡ true) where
    swap_front : (zs : List A) → cond (first x y) (x ∷ (y ∷ zs)) (y ∷ (x ∷ zs)) ≡ cond (first y x) (y ∷ (x ∷ zs)) (x ∷ (y ∷ zs))
    swap_front zs =
        elim (cases_Bool (first x y)) [
          | inl h ↦ cond-true (first x y) _ _ h ∙ sym (cond-false (first y x) _ _ (ordered.asym x y h))
          | inr h ↦ cond-false (first x y) _ _ h ∙ sym (cond-true (first y x) _ _ (either h))
        ]

    pub insert_swap : (zs : List A) → insert first x (insert first y zs) ≡ insert first y (insert first x zs)
    insert_swap [] = swap_front []
    insert_swap (z ∷ zs) =
        elim (cases_Bool (first x z)) [
          | inl xz ↦
              elim (cases_Bool (first y z)) [
                | inl yz ↦
                    ap (insert first x) (cond-true (first y z) (y ∷ (z ∷ zs)) (z ∷ insert first y zs) yz)
                    ∙ ap (λ l. cond (first x y) (x ∷ (y ∷ (z ∷ zs))) (y ∷ l)) (cond-true (first x z) (x ∷ (z ∷ zs)) (z ∷ insert first x zs) xz)
                    ∙ swap_front (z ∷ zs)
                    ∙ sym (ap (λ l. cond (first y x) (y ∷ (x ∷ (z ∷ zs))) (x ∷ l)) (cond-true (first y z) (y ∷ (z ∷ zs)) (z ∷ insert first y zs) yz))
                    ∙ sym (ap (insert first y) (cond-true (first x z) (x ∷ (z ∷ zs)) (z ∷ insert first x zs) xz))
                | inr yz ↦
                    let behind = ordered.asym x y (ordered.across x z y xz yz) in
                    ap (insert first x) (cond-false (first y z) (y ∷ (z ∷ zs)) (z ∷ insert first y zs) yz)
                    ∙ cond-true (first x z) _ _ xz
                    ∙ sym (ap (λ l. x ∷ l) (cond-false (first y z) (y ∷ (z ∷ zs)) (z ∷ insert first y zs) yz))
                    ∙ sym (cond-false (first y x) _ _ behind)
                    ∙ sym (ap (insert first y) (cond-true (first x z) (x ∷ (z ∷ zs)) (z ∷ insert first x zs) xz))
              ]
          | inr xz ↦
              elim (cases_Bool (first y z)) [
                | inl yz ↦
                    let behind = ordered.asym y x (ordered.across y z x yz xz) in
                    ap (insert first x) (cond-true (first y z) (y ∷ (z ∷ zs)) (z ∷ insert first y zs) yz)
                    ∙ cond-false (first x y) _ _ behind
                    ∙ ap (λ l. y ∷ l) (cond-false (first x z) (x ∷ (z ∷ zs)) (z ∷ insert first x zs) xz)
                    ∙ sym (cond-true (first y z) _ _ yz)
                    ∙ sym (ap (insert first y) (cond-false (first x z) (x ∷ (z ∷ zs)) (z ∷ insert first x zs) xz))
                | inr yz ↦
                    ap (insert first x) (cond-false (first y z) (y ∷ (z ∷ zs)) (z ∷ insert first y zs) yz)
                    ∙ cond-false (first x z) _ _ xz
                    ∙ ap (λ l. z ∷ l) (insert_swap zs)
                    ∙ sym (cond-false (first y z) _ _ yz)
                    ∙ sym (ap (insert first y) (cond-false (first x z) (x ∷ (z ∷ zs)) (z ∷ insert first x zs) xz))
              ]
        ]
