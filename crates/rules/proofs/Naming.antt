-- Naming a displacer changes a job's `by` alone: nothing else depends on it.
use Rattle.std.proofs.Common.{◌≡◌, ℕ, ◌+◌, Bool, true, false, cond, ◌&&◌, leb, List, [], ◌∷◌, refl, ap, ◌∙◌, arith}
use Rattle.std.proofs.lemmas.Bool.{cond_both}
use Rattle.std.specs.List.{AllByRecursion as Every}
use Rattle.jobs.specs.declared.job.Job.{Job}
use Rattle.jobs.specs.Records.{limit}
use Rattle.rankings.specs.Ranked.{before, Sorted}
use Rattle.timing.specs.Timing.{holds}
use Rattle.rules.specs.Calls.{name_displacer}
use Rattle.rules.specs.Giving.{place, fits, among}
use Rattle.rules.specs.Lists.{count}
use Rattle.rules.specs.States.{Parts, LawfulParts, ready_order, parked_order, displaced, has}

module _ (vs : List Job) (n : ℕ) where
  abbrev pub named : Job → Job
  named p = cond (among vs p) (displaced n p) p

  pub all_named : (P Q : Job → Type 0) → ((p : Job) → P p → Q (named p)) → (ps : List Job) → Every P ps → Every Q (name_displacer vs n ps)
  all_named P Q f [] a = tt
  all_named P Q f (p ∷ ps) a = (f p a.0, all_named P Q f ps a.1)

  -- what reads neither the old nor the new displacer
  pub named_same : {A : Type 0} (f : Job → A) → ((m : ℕ) (p : Job) → f (displaced m p) ≡ f p) → (p : Job) → f (named p) ≡ f p
  named_same f blind p = cond_both (among vs p) (displaced n p) p (λ q. f q ≡ f p) (λ _. blind n p) (λ _. refl)

  pub named_keeps : (P : Job → Type 0) → ((m : ℕ) (p : Job) → P p → P (displaced m p)) → (p : Job) → P p → P (named p)
  named_keeps P blind p h = cond_both (among vs p) (displaced n p) p P (λ _. blind n p h) (λ _. h)

  pub count_named : (m : ℕ) (ps : List Job) → count (has m) (name_displacer vs n ps) ≡ count (has m) ps
  count_named m [] = refl
  count_named m (p ∷ ps) =
      let ih = count_named m ps in
      let here = named_same (λ q. cond {A = ℕ} (has m q) 1 0) (λ _ _. refl) p in
      omega arith

  module _ (ρ : Parts) (laws : LawfulParts ρ) where
    steady : (k m : ℕ) (x y : Job) → parked_order ρ (displaced k x) (displaced m y) ≡ parked_order ρ x y
    unfolding before
    steady k m x y =
        let forth = laws.parking_steady k m x y in
        let back = laws.parking_steady m k y x in
        rw (forth, back) refl

    steady_named : (x y : Job) → parked_order ρ (named x) (named y) ≡ parked_order ρ x y
    steady_named x y =
        cond_both (among vs x) (displaced n x) x (λ q. parked_order ρ q (named y) ≡ parked_order ρ x y)
        (λ _. cond_both (among vs y) (displaced n y) y (λ q. parked_order ρ (displaced n x) q ≡ parked_order ρ x y) (λ _. steady n n x y) (λ _. steady n y.by x y))
        (λ _. cond_both (among vs y) (displaced n y) y (λ q. parked_order ρ x q ≡ parked_order ρ x y) (λ _. steady x.by n x y) (λ _. refl))

    pub sorted_named : (ps : List Job) → Sorted (parked_order ρ) ps → Sorted (parked_order ρ) (name_displacer vs n ps)
    sorted_named [] s = tt
    sorted_named (p ∷ ps) s = (all_named (λ y. parked_order ρ y p ≡ false) (λ y. parked_order ρ y (named p) ≡ false) (λ y h. steady_named y p ∙ h) ps s.0, sorted_named ps s.1)

-- fitting does not depend on it either
module _ (ρ : Parts) (m : ℕ) (p : Job) where
  holds_displaced : (t : ℕ) (rs : List Job) → holds t (place ρ (displaced m p) rs) ≡ holds t (place ρ p rs)
  unfolding before
  holds_displaced t [] = refl
  holds_displaced t (r ∷ rs) =
      let ih = holds_displaced (t + r.remaining) rs in
      let b = ready_order ρ p r in
      let P : Bool → Type 0 = λ b. holds t (cond b (displaced m p ∷ (r ∷ rs)) (r ∷ place ρ (displaced m p) rs)) ≡ holds t (cond b (p ∷ (r ∷ rs)) (r ∷ place ρ p rs)) in
      elim b as P [ true ↦ refl | false ↦ ap (λ h. leb (t + r.remaining) (limit r) && h) ih ]

pub fits_named : (ρ : Parts) (vs : List Job) (n t : ℕ) (rs : List Job) (p : Job) → fits ρ t rs (named vs n p) ≡ fits ρ t rs p
fits_named ρ vs n t rs p = named_same vs n (fits ρ t rs) (λ m q. holds_displaced ρ m q t rs) p
