-- A tick of work keeps the invariant.
use Rattle.std.proofs.Common.{◌≡◌, ℕ, ◌+◌, ◌-◌, ◌≤◌, Bool, true, false, cond, eqb, List, [], ◌∷◌, sym, refl, ap, ◌∙◌, subst, inl, inr, arith}
use Rattle.std.proofs.ByRecursion.{All-weaker}
use Rattle.std.proofs.lemmas.Bool.{cases_Bool, cond-true, cond-false, cond_both, eqb-true, eqb-false, le-leb, and_from, both_ways}
use Rattle.std.specs.List.{AllByRecursion as Every}
use Rattle.jobs.specs.declared.ending.EndKind.TheVariants.{InTime}
use Rattle.jobs.specs.declared.job.Job.{Job}
use Rattle.jobs.specs.Records.{limit}
use Rattle.rankings.specs.Ranked.{before, insert}
use Rattle.rankings.proofs.Placing.{all_insert, insert_sorted}
use Rattle.timing.specs.Timing.{holds}
use Rattle.rules.specs.Calls.{ends, shorter, worked, last_tick, expire, tick}
use Rattle.rules.specs.Giving.{place, fits, swept}
use Rattle.rules.specs.States.{Parts, LawfulParts, State, ready_order, ended_order, line_has}
use Rattle.rules.proofs.Holding.{holds_first, holds_rest, holds_cons, not_held_from}
use Rattle.rules.proofs.Invariant.{Books, Story, Times, Full, Invariant}
use Rattle.rules.proofs.Keeping.{count_insert}
use Rattle.rules.proofs.Orders.{ended_ordered}
use Rattle.rules.proofs.Moving.{line_of, books_swept, story_swept, times_swept, can_swept, full_swept, books_expired, story_expired, times_expired, can_expired, full_expired}

-- a state with the first of its ready jobs named
abbrev pub with_ready : State → List Job → State
with_ready s rs = record { clock = s.clock; ready = rs; parked = s.parked; ended = s.ended }

module _ (ρ : Parts) (laws : LawfulParts ρ) where
  -- nobody is parked where nobody is ready
  none_parked : (t : ℕ) (ps : List Job) → Every (λ p. t + p.remaining ≤ limit p) ps → Every (λ p. fits ρ t [] p ≡ false) ps → ps ≡ []
  none_parked t [] can full = refl
  none_parked t (p ∷ ps) can full = absurd (both_ways _ full.0 (and_from _ _ (le-leb _ _ can.0) refl))

  -- a tick given to the first job changes no finishing time behind it
  fits_ticked : (t : ℕ) (j : Job) (js : List Job) (p : Job) → 1 ≤ j.remaining → fits ρ t (j ∷ js) p ≡ false → fits ρ (t + 1) (shorter j ∷ js) p ≡ false
  unfolding before
  fits_ticked t j js p some h =
      let same : (t + 1) + (j.remaining - 1) ≡ t + j.remaining = omega arith in
      let first = ready_order ρ in
      not_held_from t (t + 1) (place ρ p (j ∷ js)) (place ρ p (shorter j ∷ js))
      (cond_both (first p j) (p ∷ (shorter j ∷ js)) (shorter j ∷ place ρ p js) (λ l. holds (t + 1) l ≡ true → holds t (place ρ p (j ∷ js)) ≡ true)
      (λ ahead k.
      let within = holds_first (t + 1) p (shorter j ∷ js) k in
      let rest = holds_rest (t + 1) p (shorter j ∷ js) k in
      let there = holds_first ((t + 1) + p.remaining) (shorter j) js rest in
      let behind : (((t + 1) + p.remaining) + (j.remaining - 1)) ≡ ((t + p.remaining) + j.remaining) = omega arith in
      ap (holds t) (cond-true (first p j) (p ∷ (j ∷ js)) (j ∷ place ρ p js) ahead)
      ∙ holds_cons t p (j ∷ js) (omega arith) (holds_cons (t + p.remaining) j js (omega arith) (ap (λ u. holds u js) (sym behind) ∙ holds_rest ((t + 1) + p.remaining) (shorter j) js rest)))
      (λ ahead k.
      let there = holds_first (t + 1) (shorter j) (place ρ p js) k in
      ap (holds t) (cond-false (first p j) (p ∷ (j ∷ js)) (j ∷ place ρ p js) ahead)
      ∙ holds_cons t j (place ρ p js) (omega arith) (ap (λ u. holds u (place ρ p js)) (sym same) ∙ holds_rest (t + 1) (shorter j) (place ρ p js) k)))
      h

  module _ (s : State) (owed : List Job) (seen : ℕ → Bool) (last : ℕ → ℕ) where
    -- late jobs end, and all is as it should be, if nobody fits now
    expired : (w : State) → Books w owed → Story w seen last → Times ρ w → Full ρ w → Invariant ρ (expire w) owed seen last
    expired w b h t f =
        record {
          books = books_expired w owed t.lasting_parked b;
          story = story_expired w seen last h;
          times = times_expired w ρ laws t;
          can = can_expired w;
          full = full_expired w ρ f;
        }

    -- or if the sweep runs
    expired_swept : (w : State) → Books w owed → Story w seen last → Times ρ w → Invariant ρ (swept ρ (expire w)) owed seen last
    expired_swept w b h t =
        let b' = books_expired w owed t.lasting_parked b in
        record {
          books = books_swept ρ laws (expire w) owed b';
          story = story_swept ρ laws (expire w) seen last (story_expired w seen last h);
          times = times_swept ρ laws (expire w) (times_expired w ρ laws t);
          can = can_swept ρ laws (expire w) (can_expired w);
          full = full_swept ρ laws (expire w) owed b';
        }

    -- the cases of a tick, by the ready list
    abbrev Ticked : List Job → Type 0
    Ticked rs = Invariant ρ (with_ready s rs) owed seen last → Invariant ρ (let w = expire (worked (s.clock + 1) s rs) in cond (last_tick rs) (swept ρ w) w) owed seen last

    idle : Ticked []
    idle i =
        let none = none_parked s.clock s.parked i.can i.full in
        let w = worked (s.clock + 1) s [] in
        expired w (record { each = i.books.each; once = i.books.once; same_ready = tt; same_parked = i.books.same_parked; lines = i.books.lines })
        (record { by_ready = tt; by_parked = i.story.by_parked; waits = i.story.waits; told = i.story.told })
        (record { by_order = tt; by_parking = i.times.by_parking; by_tick = i.times.by_tick; lasting_ready = tt; lasting_parked = i.times.lasting_parked; kept = refl })
        (subst (Every (λ p. fits ρ (s.clock + 1) [] p ≡ false)) (sym none) tt)

    module _ (j : Job) (js : List Job) (i : Invariant ρ (with_ready s (j ∷ js)) owed seen last) where
      ends_now : j.remaining ≡ 1 → Invariant ρ (swept ρ (expire (record { clock = s.clock + 1; ready = js; parked = s.parked; ended = insert ended_order (ends (s.clock + 1) InTime j) s.ended }))) owed seen last
      ends_now one =
          let t = s.clock in
          let line = ends (t + 1) InTime j in
          let w : State = record { clock = t + 1; ready = js; parked = s.parked; ended = insert ended_order line s.ended } in
          let held = i.times.kept in
          let next : t + j.remaining ≡ t + 1 = omega arith in
          expired_swept w
          (record {
            each = λ n. let gone = count_insert (line_has n) ended_order line s.ended in let was = i.books.each n in omega arith;
            once = i.books.once;
            same_ready = i.books.same_ready.1;
            same_parked = i.books.same_parked;
            lines = all_insert ended_order line _ s.ended (line_of (t + 1) InTime owed j i.books.same_ready.0 i.times.lasting_ready.0 (let first = holds_first t j js held in omega arith)) i.books.lines;
          })
          (record {
            by_ready = i.story.by_ready.1;
            by_parked = i.story.by_parked;
            waits = i.story.waits;
            told = all_insert ended_order line _ s.ended tt i.story.told;
          })
          (record {
            by_order = i.times.by_order.1;
            by_parking = i.times.by_parking;
            by_tick = insert_sorted ended_order ended_ordered line s.ended i.times.by_tick;
            lasting_ready = i.times.lasting_ready.1;
            lasting_parked = i.times.lasting_parked;
            kept = ap (λ u. holds u js) (sym next) ∙ holds_rest t j js held;
          })

      goes_on : (j.remaining ≡ 1 → ⊥) → Invariant ρ (expire (record { clock = s.clock + 1; ready = shorter j ∷ js; parked = s.parked; ended = s.ended })) owed seen last
      unfolding before
      goes_on more =
          let t = s.clock in
          let w : State = record { clock = t + 1; ready = shorter j ∷ js; parked = s.parked; ended = s.ended } in
          let held = i.times.kept in
          let lasting = i.times.lasting_ready.0 in
          let same : (t + 1) + (j.remaining - 1) ≡ t + j.remaining = omega arith in
          expired w
          (record { each = i.books.each; once = i.books.once; same_ready = i.books.same_ready; same_parked = i.books.same_parked; lines = i.books.lines })
          (record { by_ready = i.story.by_ready; by_parked = i.story.by_parked; waits = i.story.waits; told = i.story.told })
          (record {
            by_order = i.times.by_order;
            by_parking = i.times.by_parking;
            by_tick = i.times.by_tick;
            lasting_ready = ((omega arith, omega arith), i.times.lasting_ready.1);
            lasting_parked = i.times.lasting_parked;
            kept = holds_cons (t + 1) (shorter j) js (let first = holds_first t j js held in omega arith) (ap (λ u. holds u js) same ∙ holds_rest t j js held);
          })
          (All-weaker _ _ (λ p h. fits_ticked t j js p lasting.0 h) s.parked i.full)

    busy : (j : Job) (js : List Job) → Ticked (j ∷ js)
    busy j js i =
        elim (cases_Bool (eqb j.remaining 1)) [
          | inl one ↦ subst (λ w. Invariant ρ w owed seen last) (sym (by_last one)) (ends_now j js i (eqb-true _ 1 one))
          | inr more ↦ subst (λ w. Invariant ρ w owed seen last) (sym (by_more more)) (goes_on j js i (eqb-false _ 1 more))
        ]
      where
        by_last : eqb j.remaining 1 ≡ true → (let w = expire (worked (s.clock + 1) s (j ∷ js)) in cond (last_tick (j ∷ js)) (swept ρ w) w) ≡ swept ρ (expire (record { clock = s.clock + 1; ready = js; parked = s.parked; ended = insert ended_order (ends (s.clock + 1) InTime j) s.ended }))
        by_last one = cond-true _ _ _ one ∙ ap (λ w. swept ρ (expire w)) (cond-true _ _ _ one)

        by_more : eqb j.remaining 1 ≡ false → (let w = expire (worked (s.clock + 1) s (j ∷ js)) in cond (last_tick (j ∷ js)) (swept ρ w) w) ≡ expire (record { clock = s.clock + 1; ready = shorter j ∷ js; parked = s.parked; ended = s.ended })
        by_more more = cond-false _ _ _ more ∙ ap expire (cond-false _ _ _ more)

    by_cases : (rs : List Job) → Ticked rs
    by_cases [] = idle
    by_cases (j ∷ js) = busy j js

    pub tick_keeps : Invariant ρ s owed seen last → Invariant ρ (tick ρ s) owed seen last
    tick_keeps i = by_cases s.ready i
