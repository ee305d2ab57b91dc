-- A job picked by its number from a list in which no number stands twice.
use Rattle.std.proofs.Common.{◌≡◌, ℕ, zero, suc, ◌<◌, Bool, true, false, List, [], ◌∷◌, Some, map, length, get_or, take, filter, refl, ap, ◌∙◌, subst, arith}
use Rattle.std.proofs.ByRecursion.{All-weaker}
use Rattle.std.proofs.lemmas.Bool.{cond-true, cond-false, eq-eqb, or_left, or_right, or_parts, not_from_true, not_from_false}
use Rattle.std.specs.List.{remove, AllByRecursion as Every}
use Rattle.jobs.specs.declared.ending.EndKind.TheVariants.{Withdrawn}
use Rattle.jobs.specs.declared.job.Job.{Job}
use Rattle.jobs.specs.Records.{number, blank}
use Rattle.rules.specs.Calls.{ends, withdrawn}
use Rattle.rules.specs.Lists.{some}
use Rattle.rules.specs.States.{has, other}
use Rattle.admission.specs.Steps.{Finds}
use Rattle.rules.proofs.Distinct.{Distinct, others_differ, distinct_rest}

-- the job n stands first at the place p
abbrev pub Found : ℕ → List Job → ℕ → Type 0
Found n js p = Finds n js (Some p)

-- LISTS THAT A TEST LEAVES WHOLE, OR EMPTY

kept_whole : {A : Type 0} (test : A → Bool) (xs : List A) → Every (λ x. test x ≡ true) xs → filter test xs ≡ xs
kept_whole test [] pass = refl
kept_whole test (x ∷ xs) pass = cond-true (test x) (x ∷ filter test xs) (filter test xs) pass.0 ∙ ap (λ l. x ∷ l) (kept_whole test xs pass.1)

kept_none : {A : Type 0} (test : A → Bool) (xs : List A) → Every (λ x. test x ≡ false) xs → filter test xs ≡ []
kept_none test [] fail = refl
kept_none test (x ∷ xs) fail = cond-false (test x) (x ∷ filter test xs) (filter test xs) fail.0 ∙ kept_none test xs fail.1

-- ONE STEP

module _ (n : ℕ) (j : Job) (js : List Job) where
  -- the first job is the one that is found
  first_is : number j ≡ n → has n j ≡ true
  first_is is = eq-eqb (number j) n is

  -- and then no other is
  rest_differ : Distinct (j ∷ js) → number j ≡ n → Every (λ k. has n k ≡ false) js
  rest_differ apart is = subst (λ m. Every (λ k. has m k ≡ false) js) is (others_differ j js apart)

  -- it is found further on
  first_isnt : (p : ℕ) → Found n (j ∷ js) (suc p) → has n j ≡ false
  first_isnt p f = (or_parts (has n j) (some (has n) (take p js)) f.2).0

  found_further : (p : ℕ) → Found n (j ∷ js) (suc p) → Found n js p
  found_further p f = (omega arith, f.1, (or_parts (has n j) (some (has n) (take p js)) f.2).1)

-- THE JOB THAT IS FOUND

pub found_some : (n : ℕ) (js : List Job) (p : ℕ) → Found n js p → some (has n) js ≡ true
found_some n [] p f = absurd (omega arith)
found_some n (j ∷ js) zero f = or_left (has n j) (some (has n) js) (first_is n j js f.1)
found_some n (j ∷ js) (suc p) f = or_right (has n j) (some (has n) js) (found_some n js p (found_further n j js p f))

-- all the others are the list without its place
pub kept_others : (n : ℕ) (js : List Job) (p : ℕ) → Distinct js → Found n js p → filter (other n) js ≡ remove js p
kept_others n [] p apart f = absurd (omega arith)
kept_others n (j ∷ js) zero apart f =
    cond-false (other n j) (j ∷ filter (other n) js) (filter (other n) js) (not_from_true (has n j) (first_is n j js f.1))
    ∙ kept_whole (other n) js (All-weaker (λ k. has n k ≡ false) (λ k. other n k ≡ true) (λ k isnt. not_from_false (has n k) isnt) js (rest_differ n j js apart f.1))
kept_others n (j ∷ js) (suc p) apart f =
    cond-true (other n j) (j ∷ filter (other n) js) (filter (other n) js) (not_from_false (has n j) (first_isnt n j js p f))
    ∙ ap (λ l. j ∷ l) (kept_others n js p (distinct_rest j js apart) (found_further n j js p f))

-- and it is the only one of its number
pub kept_found : (n : ℕ) (js : List Job) (p : ℕ) → Distinct js → Found n js p → filter (has n) js ≡ get_or js p blank ∷ []
kept_found n [] p apart f = absurd (omega arith)
kept_found n (j ∷ js) zero apart f =
    cond-true (has n j) (j ∷ filter (has n) js) (filter (has n) js) (first_is n j js f.1)
    ∙ ap (λ l. j ∷ l) (kept_none (has n) js (rest_differ n j js apart f.1))
kept_found n (j ∷ js) (suc p) apart f =
    cond-false (has n j) (j ∷ filter (has n) js) (filter (has n) js) (first_isnt n j js p f)
    ∙ kept_found n js p (distinct_rest j js apart) (found_further n j js p f)

pub withdrawn_found : (t n : ℕ) (js : List Job) (p : ℕ) → Distinct js → Found n js p → withdrawn t n js ≡ ends t Withdrawn (get_or js p blank) ∷ []
withdrawn_found t n js p apart f = ap (map (ends t Withdrawn)) (kept_found n js p apart f)

-- THE FIRST PLACE

pub first_and_rest : (js : List Job) → 0 < length js → js ≡ get_or js 0 blank ∷ remove js 0
first_and_rest [] some_job = absurd (omega arith)
first_and_rest (j ∷ js) some_job = refl

-- where it is not found at the first place, another job stands there
pub found_later : (n : ℕ) (js : List Job) (p : ℕ) → Found n js p → 0 < p → (js ≡ get_or js 0 blank ∷ remove js 0) × (other n (get_or js 0 blank) ≡ true)
found_later n js zero f later = absurd (omega arith)
found_later n [] (suc p) f later = absurd (omega arith)
found_later n (j ∷ js) (suc p) f later = (refl, not_from_false (has n j) (first_isnt n j js p f))
