-- A list of jobs from which those are taken out at which a test answers false, place by place.
use Rattle.std.proofs.Common.{◌≡◌, ℕ, ◌+◌, ◌<◌, ◌≤◌, Bool, true, false, cond, List, [], ◌∷◌, ◌++◌, length, get_or, take, drop, Ok, Err, Result, inl, inr, sym, refl, ap, ◌∙◌, subst, append_assoc, append-nil, take-append-drop}
use Rattle.std.proofs.lemmas.List.{at_drop_more, at_drop_all, take_more, take_all}
use Rattle.std.specs.List.{remove}
use Rattle.jobs.specs.Records.{blank}
use Rattle.jobs.specs.declared.job.Job.{Job}
use Rattle.jobs.specs.declared.refusal.Refusal.{Refusal}
use Rattle.admission.specs.Retaining.{Retained, Stopped, Retains}
use Rattle.admission.proofs.Outtakes.{taken_front, taken_rest}

module _ {F X : Type 0} (call : F → X → Job → Result Bool Refusal → F → X → Type 0) where
  one_more : (f : F) (s : X) (x : Job) (xs zs : List Job) (t : X) (r : Result (Unit {0}) Refusal) (b : Bool) (g : F) (m : X) → call f s x (Ok b) g m → Retains call g m xs zs t r → Retains call f s (x ∷ xs) (cond b (x ∷ zs) zs) t r
  one_more f s x xs zs t (Ok _) b g m asked h = (b, g, m, zs, asked, h, refl)
  one_more f s x xs zs t (Err e) b g m asked h = inr (b, g, m, zs, asked, h, refl)

  -- at the place i of the jobs xs, where the test is f and the state s: what comes of the jobs to come gives the whole
  pub record Asking (f₀ : F) (s₀ : X) (xs₀ : List Job) (f : F) (s : X) (xs : List Job) (i : ℕ) : Type 0 where
    pub whole : (ys : List Job) (t : X) (r : Result (Unit {0}) Refusal) → Retains call f s (drop i xs) ys t r → Retains call f₀ s₀ xs₀ (take i xs ++ ys) t r

  module _ (f₀ : F) (s₀ : X) (xs₀ : List Job) where
    pub asking_begun : Asking f₀ s₀ xs₀ f₀ s₀ xs₀ 0
    asking_begun = record { whole = λ ys t r h. h }

    module _ (f : F) (s : X) (xs : List Job) (i : ℕ) (so_far : Asking f₀ s₀ xs₀ f s xs i) where
      -- the job at the place i is asked about
      module _ (within : i < length xs) (x : Job) (here : x ≡ get_or xs i blank) (g : F) (m : X) where
        split : drop i xs ≡ x ∷ drop (i + 1) xs
        split = at_drop_more (λ l. l) xs i blank within ∙ ap (λ y. y ∷ drop (i + 1) xs) (sym here)

        next : (b : Bool) → call f s x (Ok b) g m → (ys : List Job) (t : X) (r : Result (Unit {0}) Refusal) → Retains call g m (drop (i + 1) xs) ys t r → Retains call f₀ s₀ xs₀ (take i xs ++ cond b (x ∷ ys) ys) t r
        next b asked ys t r h = so_far.whole (cond b (x ∷ ys) ys) t r (subst (λ l. Retains call f s l (cond b (x ∷ ys) ys) t r) (sym split) (one_more f s x (drop (i + 1) xs) ys t r b g m asked h))

        pub asking_stays : (b : Bool) → b ≡ true → call f s x (Ok b) g m → Asking f₀ s₀ xs₀ g m xs (i + 1)
        asking_stays b is asked =
            let longer = ap (λ y. take i xs ++ (y ∷ [])) here ∙ sym (take_more xs i blank within) in
            record {
              whole = λ ys t r h.
                  subst (λ l. Retains call f₀ s₀ xs₀ l t r) (sym (append_assoc (take i xs) (x ∷ []) ys) ∙ ap (λ l. l ++ ys) longer)
                  (subst (λ b. Retains call f₀ s₀ xs₀ (take i xs ++ cond b (x ∷ ys) ys) t r) is (next b asked ys t r h));
            }

        pub asking_goes : (b : Bool) → b ≡ false → call f s x (Ok b) g m → (xs' : List Job) → xs' ≡ remove xs i → Asking f₀ s₀ xs₀ g m xs' i
        asking_goes b is asked xs' out =
            let front = ap (take i) out ∙ taken_front xs i within in
            let rest = ap (drop i) out ∙ taken_rest xs i within in
            record {
              whole = λ ys t r h.
                  subst (λ l. Retains call f₀ s₀ xs₀ (l ++ ys) t r) (sym front)
                  (subst (λ b. Retains call f₀ s₀ xs₀ (take i xs ++ cond b (x ∷ ys) ys) t r) is (next b asked ys t r (subst (λ l. Retains call g m l ys t r) rest h)));
            }

        pub asking_refused : (e : Refusal) → call f s x (Err e) g m → Retains call f₀ s₀ xs₀ xs m (Err e)
        asking_refused e asked =
            subst (λ l. Retains call f₀ s₀ xs₀ l m (Err e)) (take-append-drop i xs)
            (so_far.whole (drop i xs) m (Err e) (subst (λ l. Stopped call f s l (drop i xs) m e) (sym split) (inl (g, asked, split))))

      pub asking_ended : length xs ≤ i → Retained call f₀ s₀ xs₀ xs s
      asking_ended past =
          let none = at_drop_all (λ l. l) xs i past in
          subst (λ l. Retained call f₀ s₀ xs₀ l s) (append-nil (take i xs) ∙ take_all i xs past)
          (so_far.whole [] s (Ok tt) (subst (λ l. Retained call f s l [] s) (sym none) (refl, refl)))

-- What is known of each call of a test that keeps its captures holds of the calls in turn. A state is read by `view`.
module _ {F X Y : Type 0} (call : F → X → Job → Result Bool Refusal → F → X → Type 0) (f : F) (view : X → Y) (Says : Y → Job → Result Bool Refusal → Y → Type 0) where
  abbrev pub Seen : Unit {0} → Y → Job → Result Bool Refusal → Unit {0} → Y → Type 0
  Seen _ s x r _ t = Says s x r t

  module _ (says : (s : X) (x : Job) (r : Result Bool Refusal) (g : F) (t : X) → call f s x r g t → (g ≡ f) × Says (view s) x r (view t)) where
    seen : (s : X) (xs ys : List Job) (t : X) (r : Result (Unit {0}) Refusal) → Retains call f s xs ys t r → Retains Seen tt (view s) xs ys (view t) r
    seen s [] ys t (Ok _) h = (h.0, ap view h.1)
    seen s (x ∷ xs) ys t (Ok u) h =
        let k = says s x (Ok h.0) h.1 h.2 h.4 in
        (h.0, tt, view h.2, h.3, k.1, seen h.2 xs h.3 t (Ok u) (subst (λ g. Retained call g h.2 xs h.3 t) k.0 h.5), h.6)
    seen s [] ys t (Err e) h = h
    seen s (x ∷ xs) ys t (Err e) h =
        elim h [
          | inl w ↦ let k = says s x (Err e) w.0 t w.1 in inl (tt, k.1, w.2)
          | inr w ↦
              let k = says s x (Ok w.0) w.1 w.2 w.4 in
              inr (w.0, tt, view w.2, w.3, k.1, seen w.2 xs w.3 t (Err e) (subst (λ g. Stopped call g w.2 xs w.3 t e) k.0 w.5), w.6)
        ]

  pub retains_seen : (s : X) (xs ys : List Job) (t : X) (r : Result (Unit {0}) Refusal) → Retains call f s xs ys t r → ((s : X) (x : Job) (r : Result Bool Refusal) (g : F) (t : X) → call f s x r g t → (g ≡ f) × Says (view s) x r (view t)) → Retains Seen tt (view s) xs ys (view t) r
  retains_seen s xs ys t r h says = seen says s xs ys t r h
