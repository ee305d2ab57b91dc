-- A walk through a list into which a job is put when its turn comes finds what the list with the job has.
use Rattle.std.proofs.Common.{◌≡◌, ℕ, suc, ◌+◌, ◌≤◌, Bool, true, false, cond, not, eqb, List, [], ◌∷◌, length, Some, None, Ok, Err, Result, refl, sym, ap, ◌∙◌, arith}
use Rattle.std.proofs.lemmas.Bool.Decides.{nat_tests}
use Rattle.jobs.specs.declared.job.Job.{Job}
use Rattle.jobs.specs.declared.refusal.Refusal.{Refusal}
use Rattle.jobs.specs.Records.{number}
use Rattle.rankings.specs.Ranked.{insert, place_of}
use Rattle.rules.specs.Giving.{among, without}
use Rattle.stores.specs.Tables.{known}
use Rattle.admission.proofs.Among.{known_some}
use Rattle.timing.proofs.Tallying.{walked}
use Rattle.timing.specs.Tallies.{Tally, fresh, counted, counted_all}
use Rattle.admission.specs.Trials.{Turn, put, gone_by, passed, closed, with_it, Finished, Finishes, Tried, Tries}
use Rattle.admission.specs.declared.trial.Trial.{Trial}

abbrev pub begun : ℕ → Turn
begun t = record { tally = fresh t; place = None }

module _ (first : Job → Job → Bool) (j : Job) where
  abbrev pub run : Turn → List Job → Turn
  run w [] = w
  run w (r ∷ rs) = run (passed first j w r) rs

  run_placed : (y : Tally) (p : ℕ) (rs : List Job) → run (record { tally = y; place = Some p }) rs ≡ record { tally = counted_all y rs; place = Some p }
  run_placed y p [] = refl
  run_placed y p (r ∷ rs) = run_placed (counted y r) p rs

  abbrev EndsPlaced : Tally → List Job → ℕ → Turn → Type 0
  EndsPlaced y list n w = closed j w ≡ record { tally = counted_all y list; place = Some (y.jobs + n) }

  run_open : (y : Tally) (rs : List Job) → EndsPlaced y (insert first j rs) (place_of first j rs) (run (record { tally = y; place = None }) rs)
  run_open y [] = ap (λ n. record { tally = counted y j; place = Some n }) (omega arith)
  run_open y (r ∷ rs) = by_turn (first j r) (run_open (counted y r) rs)
    where
      by_turn : (b : Bool) → EndsPlaced (counted y r) (insert first j rs) (place_of first j rs) (run (record { tally = counted y r; place = None }) rs) → EndsPlaced y (cond b (j ∷ (r ∷ rs)) (r ∷ insert first j rs)) (cond b 0 (suc (place_of first j rs))) (run (gone_by r (cond b (put j (record { tally = y; place = None })) (record { tally = y; place = None }))) rs)
      by_turn true ih = ap (closed j) (run_placed (counted (counted y j) r) y.jobs rs) ∙ ap (λ n. record { tally = counted_all y (j ∷ (r ∷ rs)); place = Some n }) (omega arith)
      by_turn false ih = ih ∙ ap (λ n. record { tally = counted_all y (r ∷ insert first j rs); place = Some n }) (omega arith)

  -- what a trial found
  pub tried : (t : ℕ) (rs : List Job) (w : Turn) (x : Trial) → w ≡ run (begun t) rs → Finished j w x → Tried first t j rs x
  tried t rs w x end done =
      let is = ap (closed j) end ∙ run_open (fresh t) rs in
      let found = walked t (insert first j rs) (closed j w).tally (ap (λ v. v.tally) is) in
      let at = sym done.at ∙ ap (λ v. v.place) is in
      record {
        at = let same : x.place ≡ 0 + place_of first j rs = cc in omega arith;
        exceeding = done.exceeding ∙ found.exceeding;
        cause = done.cause ∙ found.cause;
        fits = ap (λ n. eqb n 0) done.exceeding ∙ found.holds;
      }

  -- HOW MANY JOBS

  one_more : (w : Turn) (r : Job) → with_it (passed first j w r) ≡ suc (with_it w)
  one_more w r = grind (arith, nat_tests)

  many_more : (w : Turn) (rs : List Job) → with_it (run w rs) ≡ with_it w + length rs
  many_more w [] = omega arith
  many_more w (r ∷ rs) = let ih = many_more (passed first j w r) rs in let here = one_more w r in omega arith

-- A walk through rs without the jobs vs, to which the jobs `left` are still to come: they bring it to the end of the whole.
pub record Under (first : Job → Job → Bool) (j : Job) (t : ℕ) (vs rs : List Job) (w : Turn) (left : List Job) : Type 0 where
  pub whole : run first j w (without vs left) ≡ run first j (begun t) (without vs rs)

module _ (first : Job → Job → Bool) (j : Job) (t : ℕ) (vs rs : List Job) where
  pub try_begun : (y : Tally) (left : List Job) → y ≡ fresh t → left ≡ rs → Under first j t vs rs (record { tally = y; place = None }) left
  try_begun y left new all = record { whole = λ i. run first j (record { tally = new i; place = None }) (without vs (all i)) }

  -- the job r comes next, and is or is not among the absent
  module _ (w : Turn) (left rest : List Job) (r : Job) (b : Bool) (split : left ≡ r ∷ rest) (found : b ≡ known number (number r) vs) (so_far : Under first j t vs rs w left) where
    next : (out : Bool) → b ≡ out → run first j w (cond (not out) (r ∷ without vs rest) (without vs rest)) ≡ run first j (begun t) (without vs rs)
    next out is =
        let same : among vs r ≡ out = sym (known_some (number r) vs) ∙ sym found ∙ is in
        sym (ap (λ l. run first j w (without vs l)) split ∙ ap (λ out. run first j w (cond (not out) (r ∷ without vs rest) (without vs rest))) same) ∙ so_far.whole

    pub try_skip : b ≡ true → Under first j t vs rs w rest
    try_skip out = record { whole = next true out }

    pub try_pass : (w' : Turn) → b ≡ false → w' ≡ passed first j w r → Under first j t vs rs w' rest
    try_pass w' there on = record { whole = ap (λ w. run first j w (without vs rest)) on ∙ next false there }

    -- no room for it
    pub try_full : b ≡ false → 64 ≤ with_it w → 64 ≤ length (without vs rs)
    try_full there full =
        let a = many_more first j w (r ∷ without vs rest) in
        let b = many_more first j (begun t) (without vs rs) in
        let e = ap with_it (next false there) in
        omega arith

  pub try_end : (w : Turn) (left : List Job) (x : Result Trial Refusal) → left ≡ [] → Under first j t vs rs w left → Finishes j w x → Tries first t j (without vs rs) x
  try_end w left (Ok x) none so_far done = tried first j t (without vs rs) w x (sym (ap (λ l. run first j w (without vs l)) none) ∙ so_far.whole) done
  try_end w left (Err e) none so_far full =
      let a = sym (ap (λ l. run first j w (without vs l)) none) ∙ so_far.whole in
      let b = many_more first j (begun t) (without vs rs) in
      let e = ap with_it a in
      omega arith
