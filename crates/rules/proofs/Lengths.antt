-- How long lists are that records were put into or left out of.
use Rattle.std.proofs.Common.{◌≡◌, ℕ, ◌+◌, ◌≤◌, Bool, true, false, cond, ltb, List, [], ◌∷◌, length, filter, sym, refl, ap, ◌∙◌, inl, inr, arith}
use Rattle.std.proofs.lemmas.Bool.{cases_Bool, eq-eqb, ne_eqb, eqb-true, eqb-false}
use Rattle.std.proofs.lemmas.Bool.Decides.{nat_tests}
use Rattle.std.proofs.lemmas.List.Filters.{length-filter_both}
use Rattle.std.specs.List.{AllByRecursion as Every}
use Rattle.jobs.specs.declared.job.Job.{Job}
use Rattle.jobs.specs.Records.{number}
use Rattle.rankings.specs.Ranked.{insert}
use Rattle.rules.specs.Giving.{among, without}
use Rattle.rules.specs.Lists.{insert_all, count, Among}
use Rattle.rules.specs.States.{State, has}
use Rattle.rules.proofs.Invariant.{Books}
use Rattle.rules.proofs.Keeping.{some_count, count_insert, count_insert_all, count_all, counted}
use Rattle.rules.proofs.Sweeping.{count_own}

-- how many there are, as a count of all
abbrev pub all_of_them : {A : Type 0} → A → Bool
all_of_them _ = true

pub length_insert : {A : Type 0} (first : A → A → Bool) (x : A) (xs : List A) → length (insert first x xs) ≡ 1 + length xs
length_insert first x xs = sym (count_all (insert first x xs)) ∙ count_insert all_of_them first x xs ∙ ap (λ n. 1 + n) (count_all xs)

pub length_insert_all : {A : Type 0} (first : A → A → Bool) (xs ys : List A) → length (insert_all first xs ys) ≡ length xs + length ys
length_insert_all first xs ys = sym (count_all (insert_all first xs ys)) ∙ count_insert_all all_of_them first xs ys ∙ (λ i. count_all xs i + count_all ys i)

-- the jobs that leave the ready list leave room for just as many
module _ (ready : List Job) (distinct : (n : ℕ) → count (has n) ready ≤ 1) where
  -- a job apart from the others, counted with them
  count_one_more : (v : Job) (vs rs : List Job) → count (has (number v)) vs ≡ 0 → count (among (v ∷ vs)) rs ≡ count (has (number v)) rs + count (among vs) rs
  count_one_more v vs [] none = refl
  count_one_more v vs (r ∷ rs) none =
      let ih = count_one_more v vs rs none in
      elim (cases_Bool (has (number v) r)) [
        | inl is ↦
            let same = eqb-true (number r) (number v) is in
            let back = eq-eqb (number v) (number r) (sym same) in
            let none_there : among vs r ≡ false = some_count (has (number r)) vs ∙ ap (λ m. ltb 0 (count (has m) vs)) same ∙ ap (λ n. ltb 0 n) none in
            grind (arith, nat_tests)
        | inr isnt ↦
            let back = ne_eqb (number v) (number r) (λ e. eqb-false (number r) (number v) isnt (sym e)) in
            grind (arith, nat_tests)
      ]

  leavers : (vs : List Job) → Every (λ v. Among (λ r. r ≡ v) ready) vs → ((n : ℕ) → count (has n) vs ≤ 1) → length vs ≤ count (among vs) ready
  leavers [] own once = omega arith
  leavers (v ∷ vs) own once =
      let alone : count (has (number v)) vs ≡ 0 = let here = once (number v) in omega (arith, count_own v vs) in
      let more = count_one_more v vs ready alone in
      let ih = leavers vs own.1 (λ n. let here = once n in omega arith) in
      let there = counted (has (number v)) (λ r. r ≡ v) (λ r is. eq-eqb (number r) (number v) (ap number is)) ready own.0 in
      omega arith

  pub room_among : (vs : List Job) → Every (λ v. Among (λ r. r ≡ v) ready) vs → ((n : ℕ) → count (has n) vs ≤ count (has n) ready) → length (without vs ready) + length vs ≤ length ready
  room_among vs own few =
      let gone = leavers vs own (λ n. let a = few n in let c = distinct n in omega arith) in
      let split = length-filter_both (among vs) _ (λ _. refl) ready in
      let those = count_kept (among vs) ready in
      omega arith
    where
      count_kept : (test : Job → Bool) (rs : List Job) → count test rs ≡ length (filter test rs)
      count_kept test [] = refl
      count_kept test (r ∷ rs) =
          let ih = count_kept test rs in
          let P : Bool → Type 0 = λ t. cond t 1 0 + count test rs ≡ length (cond t (r ∷ filter test rs) (filter test rs)) in
          elim (test r) as P [ true ↦ omega arith | false ↦ omega arith ]

-- so in a state whose books are kept
module _ (s : State) (js : List Job) (b : Books s js) where
  distinct : (n : ℕ) → count (has n) s.ready ≤ 1
  distinct n = let e = b.each n in let o = b.once n in omega arith

  pub room_left : (vs : List Job) → Every (λ v. Among (λ r. r ≡ v) s.ready) vs → ((n : ℕ) → count (has n) vs ≤ count (has n) s.ready) → length (without vs s.ready) + length vs ≤ length s.ready
  room_left vs own few = room_among s.ready distinct vs own few
