-- A job put in at the place that a trial found stands where the order puts it.
use Rattle.std.proofs.Common.{◌≡◌, ℕ, ◌≤◌, Bool, true, leb, List, length, Ok, Err, sym, ap, ◌∙◌, inl, inr, arith}
use Rattle.rankings.proofs.Placing.{place_within, insert_is}
use Rattle.rankings.specs.Ranked.{insert, place_of}
use Rattle.std.proofs.lemmas.Bool.{cases_Bool, leb-true, leb-false, cond-true, cond-false, le-ltb}
use Rattle.std.specs.List.{insert as inserted}
use Rattle.jobs.specs.declared.job.Job.{Job}
use Rattle.jobs.specs.declared.refusal.Refusal.{Refusal}
use Rattle.jobs.specs.declared.refusal.Refusal.TheVariants.{Full}
use Rattle.stores.specs.Places.{insert_at}
use Rattle.admission.proofs.Reading.{put_in, put_kept, never}

module _ (first : Job → Job → Bool) (j : Job) (js : List Job) (p : ℕ) where
  -- refused only where there is no room
  pub placed_full : (e : Refusal) → p ≡ place_of first j js → insert_at p j js ≡ Err e → 64 ≤ length js
  placed_full e at is =
      let within = place_within first j js in
      elim (cases_Bool (leb 64 (length js))) [
        | inl full ↦ leb-true 64 (length js) full
        | inr room ↦ absurd (put_kept p j js (omega arith) (omega (arith, leb-false 64 (length js) room)) e is)
      ]

  pub placed : (js' : List Job) → p ≡ place_of first j js → insert_at p j js ≡ Ok js' → js' ≡ insert first j js
  placed js' at is =
      let within = place_within first j js in
      elim (cases_Bool (leb 64 (length js))) [
        | inl full ↦ absurd (never js' Full (sym is ∙ refused full))
        | inr room ↦ put_in p j js (omega arith) (omega (arith, leb-false 64 (length js) room)) js' is ∙ ap (λ n. inserted js n j) at ∙ sym (insert_is first j js)
      ]
    where
      refused : leb 64 (length js) ≡ true → insert_at p j js ≡ Err Full
      refused full = cond-false _ _ _ (le-ltb (length js) p (omega (arith, place_within first j js))) ∙ cond-true _ _ _ full
