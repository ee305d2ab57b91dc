-- Enough of the candidates: a front of them that makes room, or none where all together do not.
use Rattle.std.proofs.Common.{◌≡◌, ℕ, ◌≤◌, Bool, true, false, List, [], ◌∷◌, ◌++◌, filter, sym, refl, ap, ◌∙◌, arith}
use Rattle.std.proofs.lemmas.Bool.{cond-true, cond_both}
use Rattle.std.specs.List.{AllByRecursion as Every}
use Rattle.jobs.specs.declared.job.Job.{Job}
use Rattle.jobs.specs.Records.{number}
use Rattle.rules.specs.Giving.{fits, without, and_more, enough}
use Rattle.rules.specs.Lists.{count}
use Rattle.rules.specs.States.{Parts, other}
use Rattle.rules.proofs.Fitting.{without_none, without_more, fits_without_one}
use Rattle.rules.proofs.Keeping.{all_parts, count_append}

-- ms is a front of cs
abbrev Front : List Job → List Job → Type 0
Front ms cs = (rest : List Job) × (ms ++ rest ≡ cs)

-- ms makes room or, where it is empty, not even all of cs do
abbrev pub MakesRoom : Parts → ℕ → Job → List Job → List Job → List Job → Type 0
MakesRoom ρ t j rs cs [] = fits ρ t (without cs rs) j ≡ false
MakesRoom ρ t j rs cs (m ∷ ms) = fits ρ t (without (m ∷ ms) rs) j ≡ true

module _ (ρ : Parts) (t : ℕ) (j : Job) where
  front : (rs cs : List Job) → Front (enough ρ t j rs cs) cs
  front rs [] = ([], refl)
  front rs (v ∷ vs) =
      let left = filter (other (number v)) rs in
      cond_both (fits ρ t left j) (v ∷ []) (and_more v (enough ρ t j left vs)) (λ ms. Front ms (v ∷ vs)) (λ _. (vs, refl)) (λ _. longer v (enough ρ t j left vs) vs (front left vs))
    where
      longer : (v : Job) (ms vs : List Job) → Front ms vs → Front (and_more v ms) (v ∷ vs)
      longer v [] vs f = (v ∷ vs, refl)
      longer v (m ∷ ms) vs f = (f.0, ap (λ l. v ∷ l) f.1)

  pub all_enough : (P : Job → Type 0) (rs cs : List Job) → Every P cs → Every P (enough ρ t j rs cs)
  all_enough P rs cs ps = let f = front rs cs in (all_parts P (enough ρ t j rs cs) f.0 (rw f.1 ps)).0

  pub count_enough : (test : Job → Bool) (rs cs : List Job) → count test (enough ρ t j rs cs) ≤ count test cs
  count_enough test rs cs =
      let f = front rs cs in
      let whole = ap (count test) f.1 in
      let parts = count_append test (enough ρ t j rs cs) f.0 in
      omega arith

  -- a candidate that makes room alone is enough
  pub enough_first : (v : Job) (vs rs : List Job) → fits ρ t (filter (other (number v)) rs) j ≡ true → enough ρ t j rs (v ∷ vs) ≡ v ∷ []
  enough_first v vs rs h = cond-true (fits ρ t (filter (other (number v)) rs) j) _ _ h

  pub enough_makes_room : (rs cs : List Job) → fits ρ t rs j ≡ false → MakesRoom ρ t j rs cs (enough ρ t j rs cs)
  enough_makes_room rs [] full = ap (λ l. fits ρ t l j) (without_none rs) ∙ full
  enough_makes_room rs (v ∷ vs) full =
      let left = filter (other (number v)) rs in
      cond_both (fits ρ t left j) (v ∷ []) (and_more v (enough ρ t j left vs)) (MakesRoom ρ t j rs (v ∷ vs))
      (λ h. fits_without_one ρ t j v rs ∙ h)
      (λ h. longer v vs rs (enough ρ t j left vs) (enough_makes_room left vs h))
    where
      longer : (v : Job) (vs rs ms : List Job) → MakesRoom ρ t j (filter (other (number v)) rs) vs ms → MakesRoom ρ t j rs (v ∷ vs) (and_more v ms)
      longer v vs rs [] h = sym (ap (λ l. fits ρ t l j) (without_more v vs rs)) ∙ h
      longer v vs rs (m ∷ ms) h = sym (ap (λ l. fits ρ t l j) (without_more v (m ∷ ms) rs)) ∙ h
