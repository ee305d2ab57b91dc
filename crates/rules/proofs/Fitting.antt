-- A new job that fits a list fits it with others left out, and the ways to leave jobs out agree.
use Rattle.std.proofs.Common.{◌≡◌, ℕ, Bool, true, false, cond, not, ◌&&◌, ◌||◌, List, [], ◌∷◌, filter, sym, refl, ap, ◌∙◌, arith}
use Rattle.std.proofs.ByRecursion.{All-weaker}
use Rattle.std.proofs.lemmas.Bool.Decides.{nat_tests}
use Rattle.std.specs.List.{AllByRecursion as Every}
use Rattle.jobs.specs.declared.job.Job.{Job}
use Rattle.jobs.specs.Records.{number}
use Rattle.rankings.specs.Ranked.{Sorted}
use Rattle.timing.specs.Timing.{holds}
use Rattle.rules.specs.Giving.{place, fits, among, without}
use Rattle.rules.specs.Lists.{count}
use Rattle.rules.specs.States.{Parts, LawfulParts, ready_order, has, other}
use Rattle.rules.proofs.Holding.{holds_kept}
use Rattle.rules.proofs.Keeping.{none_counted}
use Rattle.rules.proofs.Numbered.{among_through}
use Rattle.rules.proofs.Orders.{ready_ordered}
use Rattle.rules.proofs.Ordering.{kept_insert_in}

-- RECORDS LEFT OUT

module _ {A : Type 0} where
  -- two tests that agree on a list keep the same of it
  pub kept_agree : (p q : A → Bool) (xs : List A) → Every (λ x. p x ≡ q x) xs → filter p xs ≡ filter q xs
  kept_agree p q [] es = refl
  kept_agree p q (x ∷ xs) es =
      let ih = kept_agree p q xs es.1 in
      let here = es.0 in
      cc

  -- what one test keeps of what another keeps
  pub kept_twice : (p q : A → Bool) (xs : List A) → filter p (filter q xs) ≡ filter (λ x. q x && p x) xs
  kept_twice p q [] = refl
  kept_twice p q (x ∷ xs) =
      let ih = kept_twice p q xs in
      let P : Bool → Type 0 = λ b. filter p (cond b (x ∷ filter q xs) (filter q xs)) ≡ cond (b && p x) (x ∷ filter (λ y. q y && p y) xs) (filter (λ y. q y && p y) xs) in
      elim (q x) as P [ true ↦ ap (λ l. cond (p x) (x ∷ l) l) ih | false ↦ ih ]

-- JOBS LEFT OUT

pub without_none : (rs : List Job) → without [] rs ≡ rs
without_none [] = refl
without_none (r ∷ rs) = ap (λ l. r ∷ l) (without_none rs)

-- without one job, then without the others
pub without_more : (v : Job) (vs rs : List Job) → without vs (filter (other (number v)) rs) ≡ without (v ∷ vs) rs
without_more v vs rs = kept_twice (λ r. not (among vs r)) (other (number v)) rs ∙ kept_agree _ _ rs (agree rs)
  where
    agree : (rs : List Job) → Every (λ r. (other (number v) r && not (among vs r)) ≡ not (among (v ∷ vs) r)) rs
    agree [] = tt
    agree (r ∷ rs) = (grind (arith, nat_tests), agree rs)

-- of two sets the wider alone
pub without_both : (vs ws rs : List Job) → Every (λ v. among ws v ≡ true) vs → without ws (without vs rs) ≡ without ws rs
without_both vs ws rs each = kept_twice (λ r. not (among ws r)) (λ r. not (among vs r)) rs ∙ kept_agree _ _ rs (agree rs)
  where
    agree : (rs : List Job) → Every (λ r. (not (among vs r) && not (among ws r)) ≡ not (among ws r)) rs
    agree [] = tt
    agree (r ∷ rs) = let through = among_through vs ws each r in (grind (arith, nat_tests), agree rs)

-- FITTING

pub fits_without_one : (ρ : Parts) (t : ℕ) (j v : Job) (rs : List Job) → fits ρ t (without (v ∷ []) rs) j ≡ fits ρ t (filter (other (number v)) rs) j
fits_without_one ρ t j v rs = ap (λ l. fits ρ t l j) (sym (without_more v [] rs) ∙ without_none (filter (other (number v)) rs))

-- a new job that fits still does when others are left out
pub fits_fewer : (ρ : Parts) → LawfulParts ρ → (t : ℕ) (j : Job) (test : Job → Bool) (rs : List Job) → Sorted (ready_order ρ) rs → count (has (number j)) rs ≡ 0 → fits ρ t rs j ≡ true → fits ρ t (filter test rs) j ≡ true
fits_fewer ρ laws t j test rs sorted new h =
    let stays = λ (r : Job). has (number j) r || test r in
    let same = kept_agree stays test rs (All-weaker _ _ (λ r e. ap (λ b. b || test r) e) rs (none_counted (has (number j)) rs new)) in
    let own : stays j ≡ true = grind (arith, nat_tests) in
    let left = kept_insert_in (ready_order ρ) (ready_ordered ρ laws) stays j rs sorted own in
    let is = ap (holds t) (left ∙ ap (place ρ j) same) in
    sym is ∙ holds_kept t stays (place ρ j rs) h
