-- Lists that records are put into or left out of: counts, and what holds of each record.
use Rattle.std.proofs.Common.{◌≡◌, ◌+◌, ◌≤◌, Bool, true, false, cond, not, ltb, List, [], ◌∷◌, ◌++◌, map, length, filter, refl, inl, inr, arith}
use Rattle.std.proofs.ByRecursion.{All-weaker}
use Rattle.std.proofs.lemmas.Bool.{cond_both}
use Rattle.std.proofs.lemmas.Bool.Decides.{nat_tests}
use Rattle.std.specs.List.{AllByRecursion as Every}
use Rattle.rankings.specs.Ranked.{insert}
use Rattle.rankings.proofs.Placing.{all_insert}
use Rattle.rules.specs.Lists.{insert_all, some, count, Among}

-- COUNTS

-- some record passes exactly if the count is not 0
pub some_count : {A : Type 0} (test : A → Bool) (xs : List A) → some test xs ≡ ltb 0 (count test xs)
some_count test [] = refl
some_count test (x ∷ xs) = let ih = some_count test xs in grind (arith, nat_tests)

module _ {A : Type 0} (test : A → Bool) where
  pub count_insert : (first : A → A → Bool) (x : A) (xs : List A) → count test (insert first x xs) ≡ cond (test x) 1 0 + count test xs
  count_insert first x [] = refl
  count_insert first x (y ∷ ys) =
      let ih = count_insert first x ys in
      cond_both (first x y) (x ∷ (y ∷ ys)) (y ∷ insert first x ys) (λ l. count test l ≡ cond (test x) 1 0 + (cond (test y) 1 0 + count test ys)) (λ _. refl) (λ _. omega arith)

  pub count_insert_all : (first : A → A → Bool) (xs ys : List A) → count test (insert_all first xs ys) ≡ count test xs + count test ys
  count_insert_all first [] ys = omega arith
  count_insert_all first (x ∷ xs) ys =
      let ih = count_insert_all first xs (insert first x ys) in
      let here = count_insert first x ys in
      omega arith

  -- a list falls into the records that pass another test and those that fail it
  pub count_split : (keep : A → Bool) (xs : List A) → count test (filter keep xs) + count test (filter (λ x. not (keep x)) xs) ≡ count test xs
  count_split keep [] = refl
  count_split keep (x ∷ xs) =
      let ih = count_split keep xs in
      let P : Bool → Type 0 = λ b. count test (cond b (x ∷ filter keep xs) (filter keep xs)) + count test (cond (not b) (x ∷ filter (λ y. not (keep y)) xs) (filter (λ y. not (keep y)) xs)) ≡ count test (x ∷ xs) in
      elim (keep x) as P [ true ↦ omega arith | false ↦ omega arith ]

  pub count_append : (xs ys : List A) → count test (xs ++ ys) ≡ count test xs + count test ys
  count_append [] ys = omega arith
  count_append (x ∷ xs) ys = let ih = count_append xs ys in omega arith

-- the same test on other records
pub count_map : {A B : Type 0} (test : B → Bool) (f : A → B) (xs : List A) → count test (map f xs) ≡ count (λ x. test (f x)) xs
count_map test f [] = refl
count_map test f (x ∷ xs) = let ih = count_map test f xs in omega arith

-- the length is the count of all
pub count_all : {A : Type 0} (xs : List A) → count (λ _. true) xs ≡ length xs
count_all [] = refl
count_all (x ∷ xs) = let ih = count_all xs in omega arith

-- a record that passes is counted
pub counted : {A : Type 0} (test : A → Bool) (P : A → Type 0) → ((x : A) → P x → test x ≡ true) → (xs : List A) → Among P xs → 1 ≤ count test xs
counted test P passes [] h = elim h [ ]
counted test P passes (x ∷ xs) (inl h) = let t = passes x h in grind (arith, nat_tests)
counted test P passes (x ∷ xs) (inr h) = let ih = counted test P passes xs h in omega arith

-- where none is counted none passes
pub none_counted : {A : Type 0} (test : A → Bool) (xs : List A) → count test xs ≡ 0 → Every (λ x. test x ≡ false) xs
none_counted test [] none = tt
none_counted test (x ∷ xs) none = (grind (arith, nat_tests), none_counted test xs (omega arith))

-- EACH RECORD

module _ {A : Type 0} (P : A → Type 0) where
  pub all_insert_all : (first : A → A → Bool) (xs ys : List A) → Every P xs → Every P ys → Every P (insert_all first xs ys)
  all_insert_all first [] ys ps qs = qs
  all_insert_all first (x ∷ xs) ys ps qs = all_insert_all first xs (insert first x ys) ps.1 (all_insert first x P ys ps.0 qs)

  pub all_kept : (test : A → Bool) (xs : List A) → Every P xs → Every P (filter test xs)
  all_kept test [] ps = tt
  all_kept test (x ∷ xs) ps =
      let ih = all_kept test xs ps.1 in
      cond_both (test x) (x ∷ filter test xs) (filter test xs) (Every P) (λ _. (ps.0, ih)) (λ _. ih)

  -- of the records that pass more is known
  pub all_kept_passes : (test : A → Bool) (xs : List A) → Every (λ x. test x ≡ true → P x) xs → Every P (filter test xs)
  all_kept_passes test [] ps = tt
  all_kept_passes test (x ∷ xs) ps =
      let ih = all_kept_passes test xs ps.1 in
      cond_both (test x) (x ∷ filter test xs) (filter test xs) (Every P) (λ t. (ps.0 t, ih)) (λ _. ih)

  pub all_parts : (xs ys : List A) → Every P (xs ++ ys) → Every P xs × Every P ys
  all_parts [] ys ps = (tt, ps)
  all_parts (x ∷ xs) ys ps = let ih = all_parts xs ys ps.1 in ((ps.0, ih.0), ih.1)

  pub all_among : (x : A) (xs : List A) → Every P xs → Among (λ y. y ≡ x) xs → P x
  all_among x [] ps h = elim h [ ]
  all_among x (y ∷ ys) ps (inl e) = rw e at ps.0
  all_among x (y ∷ ys) ps (inr h) = all_among x ys ps.1 h

-- each record of a list is among its records
pub all_own : {A : Type 0} (xs : List A) → Every (λ x. Among (λ y. y ≡ x) xs) xs
all_own [] = tt
all_own (x ∷ xs) = (inl refl, All-weaker _ _ (λ y h. inr h) xs (all_own xs))

-- two facts of each record
pub all_zip : {A : Type 0} (P Q R : A → Type 0) → ((x : A) → P x → Q x → R x) → (xs : List A) → Every P xs → Every Q xs → Every R xs
all_zip P Q R f [] ps qs = tt
all_zip P Q R f (x ∷ xs) ps qs = (f x ps.0 qs.0, all_zip P Q R f xs ps.1 qs.1)

pub all_both : {A : Type 0} (P Q : A → Type 0) (xs : List A) → Every P xs → Every Q xs → Every (λ x. P x × Q x) xs
all_both P Q xs ps qs = all_zip P Q (λ x. P x × Q x) (λ x p q. (p, q)) xs ps qs

pub all_of : {A : Type 0} (P : A → Type 0) → ((x : A) → P x) → (xs : List A) → Every P xs
all_of P f [] = tt
all_of P f (x ∷ xs) = (f x, all_of P f xs)

pub all_mapped : {A B : Type 0} (P : B → Type 0) (f : A → B) (xs : List A) → Every (λ x. P (f x)) xs → Every P (map f xs)
all_mapped P f [] ps = tt
all_mapped P f (x ∷ xs) ps = (ps.0, all_mapped P f xs ps.1)

pub among_weaker : {A : Type 0} (P Q : A → Type 0) → ((x : A) → P x → Q x) → (xs : List A) → Among P xs → Among Q xs
among_weaker P Q f [] h = elim h [ ]
among_weaker P Q f (x ∷ xs) (inl h) = inl (f x h)
among_weaker P Q f (x ∷ xs) (inr h) = inr (among_weaker P Q f xs h)
