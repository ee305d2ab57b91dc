-- Words about lists.
--
--   insert_all first xs ys   ys with each of xs put in by the order `first`
--   some test xs             some record of xs passes the test
--   count test xs            how many records of xs pass the test
--   Among P xs               P holds of some record of xs
--
-- `filter test xs`, of the standard library, is xs without the records that fail the test.
use Rattle.std.specs.Prelude.{ℕ, ◌+◌, Bool, false, cond, ◌||◌, ◌⊎◌, List, [], ◌∷◌}
use Rattle.rankings.specs.Ranked.{insert}

abbrev pub insert_all : {A : Type 0} → (A → A → Bool) → List A → List A → List A
insert_all first [] ys = ys
insert_all first (x ∷ xs) ys = insert_all first xs (insert first x ys)

abbrev pub some : {A : Type 0} → (A → Bool) → List A → Bool
some test [] = false
some test (x ∷ xs) = test x || some test xs

abbrev pub count : {A : Type 0} → (A → Bool) → List A → ℕ
count test [] = 0
count test (x ∷ xs) = cond (test x) 1 0 + count test xs

abbrev pub Among : {A : Type 0} → (A → Type 0) → List A → Type 0
Among P [] = ⊥
Among P (x ∷ xs) = P x ⊎ Among P xs
