-- What a list's own answers to its places say: reading, putting in and taking out.
use Rattle.std.proofs.Common.{◌≡◌, ℕ, ◌<◌, ◌≤◌, List, length, get_or, Ok, Err, Result, sym, ◌∙◌, arith}
use Rattle.std.proofs.lemmas.Bool.{cond-true, cond-false, lt-ltb, le-ltb, lt-leb}
use Rattle.std.specs.List.{insert, remove}
use Rattle.jobs.specs.Records.{blank}
use Rattle.jobs.specs.declared.job.Job.{Job}
use Rattle.jobs.specs.declared.refusal.Refusal.{Refusal}
use Rattle.stores.specs.Places.{read_at, insert_at, take_at}

pub never : {A : Type 0} (x : A) (e : Refusal) → ◌≡◌ {A = Result A Refusal} (Ok x) (Err e) → ⊥
never x e same = let no_way : ◌≡◌ {A = ℕ} 0 1 = cc in omega arith

module _ (i : ℕ) (js : List Job) (within : i < length js) where
  read_there : read_at i js ≡ Ok (get_or js i blank)
  read_there = cond-true _ _ _ (lt-ltb i (length js) within)

  pub read_job : (j : Job) → Ok j ≡ read_at i js → j ≡ get_or js i blank
  read_job j is = let same = is ∙ read_there in cc

  take_there : take_at i js ≡ Ok (remove js i)
  take_there = cond-true _ _ _ (lt-ltb i (length js) within)

  pub taken : (js' : List Job) → take_at i js ≡ Ok js' → js' ≡ remove js i
  taken js' is = let same = sym is ∙ take_there in cc

-- a job is put in wherever there is room
module _ (i : ℕ) (j : Job) (js : List Job) (within : i ≤ length js) (room : length js < 64) where
  put_there : insert_at i j js ≡ Ok (insert js i j)
  put_there = cond-false _ _ _ (le-ltb (length js) i within) ∙ cond-false _ _ _ (lt-leb 64 (length js) room)

  pub put_in : (js' : List Job) → insert_at i j js ≡ Ok js' → js' ≡ insert js i j
  put_in js' is = let same = sym is ∙ put_there in cc

  pub put_kept : (e : Refusal) → insert_at i j js ≡ Err e → ⊥
  put_kept e is = never (insert js i j) e (sym put_there ∙ is)
