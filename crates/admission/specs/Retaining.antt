-- What is left of a list of jobs once a test that may be refused was asked of each in turn.
--
-- The test changes a state: `call f s x r f' t` says that the test f, asked of x in the state s, answers r, and leaves itself as f' and the state as t.
use Rattle.std.specs.Prelude.{◌≡◌, Bool, cond, ◌⊎◌, List, [], ◌∷◌, Ok, Err, Result}
use Rattle.jobs.specs.declared.job.Job.{Job}
use Rattle.jobs.specs.declared.refusal.Refusal.{Refusal}

module _ {F X : Type 0} (call : F → X → Job → Result Bool Refusal → F → X → Type 0) where
  -- it was asked of all the jobs xs, those at which it answered true are ys, and the state is t
  abbrev pub Retained : F → X → List Job → List Job → X → Type 0
  Retained f s [] ys t = (ys ≡ []) × (t ≡ s)
  Retained f s (x ∷ xs) ys t = (b : Bool) × (g : F) × (m : X) × (zs : List Job) × call f s x (Ok b) g m × Retained g m xs zs t × (ys ≡ cond b (x ∷ zs) zs)

  -- it was refused for e at one of the jobs xs, from which on all are left
  abbrev pub Stopped : F → X → List Job → List Job → X → Refusal → Type 0
  Stopped f s [] ys t e = ⊥
  Stopped f s (x ∷ xs) ys t e =
      ((g : F) × call f s x (Err e) g t × (ys ≡ x ∷ xs))
      ⊎ ((b : Bool) × (g : F) × (m : X) × (zs : List Job) × call f s x (Ok b) g m × Stopped g m xs zs t e × (ys ≡ cond b (x ∷ zs) zs))

  abbrev pub Retains : F → X → List Job → List Job → X → Result (Unit {0}) Refusal → Type 0
  Retains f s xs ys t (Ok _) = Retained f s xs ys t
  Retains f s xs ys t (Err e) = Stopped f s xs ys t e
