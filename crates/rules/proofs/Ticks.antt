-- How many ticks of a span a plan gives to a job: over two spans in a row, at most, none and all of them.
use Rattle.std.proofs.Common.{◌≡◌, ℕ, zero, suc, ◌+◌, ◌-◌, ◌<◌, ◌≤◌, true, false, cond, refl, ap, ◌∙◌, add-zero, zero-add, arith}
use Rattle.std.proofs.lemmas.Bool.{cond-true, cond-false, cond_both}
use Rattle.rules.specs.Plans.{Plan, given, ticks}

module _ (p : Plan) (n : ℕ) where
  pub ticks_add : (t a b : ℕ) → ticks p n t (a + b) ≡ ticks p n t a + ticks p n (t + a) b
  ticks_add t zero b = simp (zero-add, add-zero)
  ticks_add t (suc a) b =
      let ih = ticks_add (suc t) a b in
      let whole : suc a + b ≡ suc (a + b) = omega arith in
      let start : t + suc a ≡ suc t + a = omega arith in
      rw (whole, start) (omega arith)

  pub ticks_most : (t k : ℕ) → ticks p n t k ≤ k
  ticks_most t zero = omega arith
  ticks_most t (suc k) =
      let ih = ticks_most (suc t) k in
      cond_both (given (p t) n) 1 0 (λ c. c + ticks p n (suc t) k ≤ suc k) (λ _. omega arith) (λ _. omega arith)

  pub ticks_none : (t k : ℕ) → ((u : ℕ) → t ≤ u → u < t + k → given (p u) n ≡ false) → ticks p n t k ≡ 0
  ticks_none t zero h = refl
  ticks_none t (suc k) h =
      let here = cond-false {A = ℕ} (given (p t) n) 1 0 (h t (omega arith) (omega arith)) in
      let ih = ticks_none (suc t) k (λ u from to. h u (omega arith) (omega arith)) in
      omega arith

  pub ticks_full : (t k : ℕ) → ((u : ℕ) → t ≤ u → u < t + k → given (p u) n ≡ true) → ticks p n t k ≡ k
  ticks_full t zero h = refl
  ticks_full t (suc k) h =
      let here = cond-true {A = ℕ} (given (p t) n) 1 0 (h t (omega arith) (omega arith)) in
      let ih = ticks_full (suc t) k (λ u from to. h u (omega arith) (omega arith)) in
      omega arith

  -- the ticks up to e are those up to u and those from u on
  pub ticks_upto : (t u e : ℕ) → t ≤ u → u ≤ e → ticks p n t (e - t) ≡ ticks p n t (u - t) + ticks p n u (e - u)
  ticks_upto t u e before after =
      let whole : e - t ≡ (u - t) + (e - u) = omega arith in
      let start : t + (u - t) ≡ u = omega arith in
      rw whole (ticks_add t (u - t) (e - u) ∙ ap (λ s. ticks p n t (u - t) + ticks p n s (e - u)) start)

-- plans that agree from t on
pub ticks_same : (p q : Plan) (n t k : ℕ) → ((u : ℕ) → t ≤ u → p u ≡ q u) → ticks p n t k ≡ ticks q n t k
ticks_same p q n t zero same = refl
ticks_same p q n t (suc k) same =
    let ih = ticks_same p q n (suc t) k (λ u from. same u (omega arith)) in
    (λ i. cond (given (same t (omega arith) i) n) 1 0 + ih i)
