-- The place of the first job of a number.
use Rattle.std.proofs.Common.{◌≡◌, ℕ, suc, ◌+◌, ◌≤◌, ◌||◌, Bool, true, false, cond, not, List, [], ◌∷◌, length, take, Option, Some, None, refl, sym, ap, ◌∙◌, arith}
use Rattle.std.specs.List.{position, position_or_len}
use Rattle.std.proofs.lemmas.List.{take_all}
use Rattle.std.proofs.lemmas.List.Quantifiers.{position-Some}
use Rattle.std.proofs.lemmas.Bool.Decides.{nat_tests}
use Rattle.jobs.specs.Records.{blank}
use Rattle.jobs.specs.declared.job.Job.{Job}
use Rattle.rules.specs.Lists.{some}
use Rattle.rules.specs.States.{has}
use Rattle.admission.specs.Steps.{Finds}

module _ {A : Type 0} (test : A → Bool) where
  none_before : (xs : List A) → some test (take (position_or_len test xs) xs) ≡ false
  none_before [] = refl
  none_before (x ∷ xs) = by_test (test x) refl (none_before xs)
    where
      by_test : (b : Bool) → test x ≡ b → some test (take (position_or_len test xs) xs) ≡ false → some test (take (cond (not b) (1 + position_or_len test xs) 0) (x ∷ xs)) ≡ false
      by_test true is ih = refl
      by_test false is ih = let e : 1 + position_or_len test xs ≡ suc (position_or_len test xs) = omega arith in rw e (ap (λ b. b || some test (take (position_or_len test xs) xs)) is ∙ ih)

pub found : (n : ℕ) (js : List Job) (r : Option ℕ) → r ≡ position (has n) js → Finds n js r
found n js (Some p) is =
    let first = position-Some (has n) js p blank (sym is) in
    let within = first.0 in
    let at : p ≡ position_or_len (has n) js = grind (arith, nat_tests) in
    let there = first.1 in
    (within, grind (arith, nat_tests), ap (λ i. some (has n) (take i js)) at ∙ none_before (has n) js)
found n js None is =
    let past : length js ≤ position_or_len (has n) js = grind (arith, nat_tests) in
    sym (ap (some (has n)) (take_all _ js past)) ∙ none_before (has n) js
