-- A plan works a list in order exactly if it gives the first job its ticks and then works the rest in order.
use Rattle.std.proofs.Common.{◌≡◌, ℕ, ◌+◌, ◌-◌, ◌<◌, ◌≤◌, true, false, cond, eqb, ltb, leb, List, [], ◌∷◌, get_or, sym, refl, ap, ◌∙◌, ⊎_elim, arith}
use mathlib.Core.Option.{some}
use Rattle.std.proofs.ByRecursion.{All-from_get_or, All-weaker}
use Rattle.std.proofs.lemmas.Bool.{cond-true, cond-false, cond_both, lt-ltb, le-ltb, eq-eqb, eqb-false, ne_eqb, leb-true, and_parts, cases_lt}
use Rattle.std.specs.List.{AllByRecursion as Every}
use Rattle.jobs.specs.declared.job.Job.{Job}
use Rattle.jobs.specs.Records.{number, limit, blank}
use Rattle.timing.specs.Timing.{holds}
use Rattle.rules.specs.Plans.{Plan, given, ticks, Served, PlanHolds, first_unended, WorksInOrder, in_order}
use Rattle.rules.specs.States.{has}
use Rattle.rules.proofs.Distinct.{Distinct, others_differ, distinct_rest}
use Rattle.rules.proofs.Ticks.{ticks_most, ticks_none, ticks_full, ticks_upto, ticks_same}

-- the plan gives the r ticks from t on to the job n
abbrev Gives : Plan → ℕ → ℕ → ℕ → Type 0
Gives q n t r = (u : ℕ) → t ≤ u → u < t + r → q u ≡ some n

-- the jobs have had as many ticks by the one plan as by the other
first_unended_same : (p q : Plan) (s t u : ℕ) (js : List Job) → Every (λ k. ticks p (number k) s (u - s) ≡ ticks q (number k) t (u - t)) js → first_unended p s u js ≡ first_unended q t u js
first_unended_same p q s t u [] same = refl
first_unended_same p q s t u (k ∷ ks) same =
    (λ i. cond (ltb (same.0 i) k.remaining) (some (number k)) (first_unended_same p q s t u ks same.1 i))

-- no tick goes to a job that is not in the list
first_unended_other : (q : Plan) (t u n : ℕ) (js : List Job) → Every (λ k. has n k ≡ false) js → given (first_unended q t u js) n ≡ false
first_unended_other q t u n [] other = refl
first_unended_other q t u n (k ∷ ks) other =
    cond_both (ltb (ticks q (number k) t (u - t)) k.remaining) (some (number k)) (first_unended q t u ks) (λ o. given o n ≡ false)
    (λ _. ne_eqb n (number k) (λ same. eqb-false (number k) n other.0 (sym same)))
    (λ _. first_unended_other q t u n ks other.1)

-- a plan that agrees from t on works it too
works_same : (p q : Plan) (t : ℕ) (js : List Job) → ((u : ℕ) → t ≤ u → p u ≡ q u) → WorksInOrder p t js → WorksInOrder q t js
works_same p q t js same works u from =
    let each = All-from_get_or (λ k. ticks p (number k) t (u - t) ≡ ticks q (number k) t (u - t)) js blank (λ i _. ticks_same p q (number (get_or js i blank)) t (u - t) same) in
    sym (same u from) ∙ works u from ∙ first_unended_same p q t t u js each

module _ (q : Plan) (n t r : ℕ) (gives : Gives q n t r) where
  -- the job has the whole span
  own_ticks : (u : ℕ) → t + r ≤ u → ticks q n t (u - t) ≡ r + ticks q n (t + r) (u - (t + r))
  own_ticks u after =
      let span : (t + r) - t ≡ r = omega arith in
      let first = ap (ticks q n t) span ∙ ticks_full q n t r (λ v from to. ap (λ o. given o n) (gives v from to) ∙ eq-eqb n n refl) in
      let whole = ticks_upto q n t (t + r) u (omega arith) after in
      omega arith

  -- and no other job any of it
  no_ticks : (m u : ℕ) → eqb m n ≡ false → u ≤ t + r → ticks q m t (u - t) ≡ 0
  no_ticks m u other within = ticks_none q m t (u - t) (λ v from to. ap (λ o. given o m) (gives v from (omega arith)) ∙ other)

  -- so the ticks of another job begin when it is over
  other_ticks : (m u : ℕ) → eqb m n ≡ false → ticks q m t (u - t) ≡ ticks q m (t + r) (u - (t + r))
  other_ticks m u other =
      ⊎_elim
      (λ within. let none_left : 0 ≡ u - (t + r) = omega arith in no_ticks m u other (omega arith) ∙ ap (ticks q m (t + r)) none_left)
      (λ after. ticks_upto q m t (t + r) u (omega arith) after ∙ omega (arith, no_ticks m (t + r) other (omega arith)))
      (cases_lt u (t + r))

  -- and other jobs that are served from there on are served
  others_served : (js : List Job) → Every (λ k. has n k ≡ false) js → PlanHolds q (t + r) js → PlanHolds q t js
  others_served [] others served = tt
  others_served (k ∷ ks) others served = (record { whole = other_ticks (number k) (limit k) others.0 ∙ served.0.whole; none_after = served.0.none_after }, others_served ks others.1 served.1)

module _ (q : Plan) (t : ℕ) (j : Job) (js : List Job) where
  -- when the first job has had its ticks
  abbrev end : ℕ
  end = t + j.remaining

  -- before that it is the first that has not ended
  first_going : (u : ℕ) → t ≤ u → u < end → first_unended q t u (j ∷ js) ≡ some (number j)
  first_going u from to =
      let most = ticks_most q (number j) t (u - t) in
      cond-true (ltb (ticks q (number j) t (u - t)) j.remaining) (some (number j)) (first_unended q t u js) (lt-ltb _ _ (omega arith))

  works_first : WorksInOrder q t (j ∷ js) → Gives q (number j) t j.remaining
  works_first works u from to = works u from ∙ first_going u from to

  module _ (others : Every (λ k. has (number j) k ≡ false) js) where
    -- and from then on it has ended
    first_ended : Gives q (number j) t j.remaining → (u : ℕ) → end ≤ u → first_unended q t u (j ∷ js) ≡ first_unended q end u js
    first_ended gives u after =
        let own = own_ticks q (number j) t j.remaining gives u after in
        let rest = All-weaker (λ k. has (number j) k ≡ false) (λ k. ticks q (number k) t (u - t) ≡ ticks q (number k) end (u - end)) (λ k other. other_ticks q (number j) t j.remaining gives (number k) u other) js others in
        cond-false (ltb (ticks q (number j) t (u - t)) j.remaining) (some (number j)) (first_unended q t u js) (le-ltb _ _ (omega arith))
        ∙ first_unended_same q q t end u js rest

    works_rest : WorksInOrder q t (j ∷ js) → WorksInOrder q end js
    works_rest works u after = works u (omega arith) ∙ first_ended (works_first works) u after

    works_from : Gives q (number j) t j.remaining → WorksInOrder q end js → WorksInOrder q t (j ∷ js)
    works_from gives rest u from =
        ⊎_elim (λ to. gives u from to ∙ sym (first_going u from to)) (λ after. rest u after ∙ sym (first_ended gives u after)) (cases_lt u end)

    silent_after : WorksInOrder q t (j ∷ js) → (u : ℕ) → end ≤ u → given (q u) (number j) ≡ false
    silent_after works u after = ap (λ o. given o (number j)) (works_rest works u after) ∙ first_unended_other q end u (number j) js others

    first_served : WorksInOrder q t (j ∷ js) → end ≤ limit j → Served q t (limit j) j
    first_served works in_time =
        let own = own_ticks q (number j) t j.remaining (works_first works) (limit j) in_time in
        let after = ticks_none q (number j) end (limit j - end) (λ u from _. silent_after works u from) in
        record { whole = omega arith; none_after = λ u late. silent_after works u (omega arith) }

pub order_serves : (q : Plan) (t : ℕ) (js : List Job) → Distinct js → holds t js ≡ true → WorksInOrder q t js → PlanHolds q t js
order_serves q t [] apart held works = tt
order_serves q t (j ∷ js) apart held works =
    let others = others_differ j js apart in
    let parts = and_parts (leb (t + j.remaining) (limit j)) (holds (t + j.remaining) js) held in
    let rest = order_serves q (t + j.remaining) js (distinct_rest j js apart) parts.1 (works_rest q t j js others works) in
    (first_served q t j js others works (leb-true _ _ parts.0), others_served q (number j) t j.remaining (works_first q t j js works) js others rest)

pub order_exists : (t : ℕ) (js : List Job) → Distinct js → WorksInOrder (in_order t js) t js
order_exists t [] apart = λ u from. refl
order_exists t (j ∷ js) apart =
    let end = t + j.remaining in
    let plan = in_order t (j ∷ js) in
    let first : Gives plan (number j) t j.remaining = λ u from to. cond-true (ltb u end) (some (number j)) (in_order end js u) (lt-ltb u end to) in
    let agree : (u : ℕ) → end ≤ u → in_order end js u ≡ plan u = λ u after. sym (cond-false (ltb u end) (some (number j)) (in_order end js u) (le-ltb u end after)) in
    let rest = order_exists end js (distinct_rest j js apart) in
    works_from plan t j js (others_differ j js apart) first (works_same (in_order end js) plan end js agree rest)
