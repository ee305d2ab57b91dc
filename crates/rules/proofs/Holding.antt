-- Holding is kept where jobs are left out, start earlier, or finish earlier.
use Rattle.std.proofs.Common.{◌≡◌, ℕ, ◌+◌, ◌≤◌, Bool, true, false, leb, List, [], ◌∷◌, filter, refl, inl, inr, arith}
use Rattle.std.proofs.lemmas.Bool.{and_parts, and_from, leb-true, le-leb, cond_both, cases_Bool, both_ways}
use Rattle.std.specs.List.{AllByRecursion as Every}
use Rattle.jobs.specs.declared.job.Job.{Job}
use Rattle.jobs.specs.Records.{limit}
use Rattle.rankings.specs.Ranked.{insert}
use Rattle.timing.specs.Timing.{holds}

-- the parts of a list that holds
pub holds_first : (t : ℕ) (j : Job) (js : List Job) → holds t (j ∷ js) ≡ true → t + j.remaining ≤ limit j
holds_first t j js h = leb-true _ _ (and_parts _ _ h).0

pub holds_rest : (t : ℕ) (j : Job) (js : List Job) → holds t (j ∷ js) ≡ true → holds (t + j.remaining) js ≡ true
holds_rest t j js h = (and_parts (leb (t + j.remaining) (limit j)) _ h).1

pub holds_cons : (t : ℕ) (j : Job) (js : List Job) → t + j.remaining ≤ limit j → holds (t + j.remaining) js ≡ true → holds t (j ∷ js) ≡ true
holds_cons t j js within rest = and_from _ _ (le-leb _ _ within) rest

pub holds_earlier : (t u : ℕ) (js : List Job) → t ≤ u → holds u js ≡ true → holds t js ≡ true
holds_earlier t u [] le h = refl
holds_earlier t u (j ∷ js) le h =
    let first = holds_first u j js h in
    holds_cons t j js (omega arith) (holds_earlier (t + j.remaining) (u + j.remaining) js (omega arith) (holds_rest u j js h))

-- without its first job
pub holds_tail : (t : ℕ) (j : Job) (js : List Job) → holds t (j ∷ js) ≡ true → holds t js ≡ true
holds_tail t j js h = holds_earlier t (t + j.remaining) js (omega arith) (holds_rest t j js h)

pub holds_kept : (t : ℕ) (test : Job → Bool) (js : List Job) → holds t js ≡ true → holds t (filter test js) ≡ true
holds_kept t test [] h = refl
holds_kept t test (j ∷ js) h =
    cond_both (test j) (j ∷ filter test js) (filter test js) (λ l. holds t l ≡ true)
    (λ _. holds_cons t j (filter test js) (holds_first t j js h) (holds_kept (t + j.remaining) test js (holds_rest t j js h)))
    (λ _. holds_kept t test js (holds_tail t j js h))

-- without a job that was put in
pub holds_insert : (first : Job → Job → Bool) (t : ℕ) (x : Job) (js : List Job) → holds t (insert first x js) ≡ true → holds t js ≡ true
holds_insert first t x [] h = refl
holds_insert first t x (j ∷ js) h =
    cond_both (first x j) (x ∷ (j ∷ js)) (j ∷ insert first x js) (λ l. holds t l ≡ true → holds t (j ∷ js) ≡ true)
    (λ _ k. holds_tail t x (j ∷ js) k)
    (λ _ k. holds_cons t j js (holds_first t j (insert first x js) k) (holds_insert first (t + j.remaining) x js (holds_rest t j (insert first x js) k)))
    h

-- each job of a list that holds could be worked at once and still make its limit
pub holds_each : (t : ℕ) (js : List Job) → holds t js ≡ true → Every (λ j. t + j.remaining ≤ limit j) js
holds_each t [] h = tt
holds_each t (j ∷ js) h = (holds_first t j js h, holds_each t js (holds_tail t j js h))

-- what does not hold, where holding elsewhere would make it hold
pub not_held_from : (t u : ℕ) (js ks : List Job) → (holds u ks ≡ true → holds t js ≡ true) → holds t js ≡ false → holds u ks ≡ false
not_held_from t u js ks f h = elim (cases_Bool (holds u ks)) [ inl k ↦ absurd (both_ways _ h (f k)) | inr k ↦ k ]

pub not_held : (t : ℕ) (js ks : List Job) → (holds t ks ≡ true → holds t js ≡ true) → holds t js ≡ false → holds t ks ≡ false
not_held t js ks f h = not_held_from t t js ks f h
