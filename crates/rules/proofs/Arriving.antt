-- An arrival that is accepted keeps the invariant, whether it fits or is parked.
use Rattle.std.proofs.Common.{◌≡◌, ℕ, ◌+◌, ◌<◌, ◌≤◌, Bool, true, false, cond, not, ◌&&◌, ◌||◌, ◌⊎◌, List, ◌∷◌, sym, refl, ap, ◌∙◌, subst, inl, inr, arith}
use Rattle.std.proofs.ByRecursion.{All-weaker}
use Rattle.std.proofs.lemmas.Bool.{cases_Bool, cond-true, cond-false, eq-eqb, eqb-true, and_left, and_right, and_parts, both_ways}
use Rattle.std.proofs.lemmas.Bool.Decides.{nat_tests}
use Rattle.std.specs.List.{AllByRecursion as Every}
use Rattle.jobs.specs.declared.ending.Ending.{Ending}
use Rattle.jobs.specs.declared.job.Job.{Job}
use Rattle.jobs.specs.Records.{number, limit}
use Rattle.rankings.specs.Ranked.{insert}
use Rattle.rankings.proofs.Placing.{all_insert, insert_sorted}
use Rattle.rules.specs.Giving.{place, fits}
use Rattle.rules.specs.Lists.{some, count, Among}
use Rattle.rules.specs.Promise.{standing, SameJob, LineOf}
use Rattle.rules.specs.Runs.{moved}
use Rattle.rules.specs.States.{Parts, LawfulParts, ready_order, parked_order, State, has}
use Rattle.rules.proofs.Invariant.{Books, Told, Story, Lasting, Invariant}
use Rattle.rules.proofs.Keeping.{some_count, count_insert, all_zip, all_both}
use Rattle.rules.proofs.Noting.{all_counted, not_some, parked_not_ready, ready_not_parked, ended_not_ready, ended_not_parked, told_at}
use Rattle.rules.proofs.Orders.{ready_ordered, parked_ordered}
use Rattle.rules.proofs.Sweeping.{fits_more}

-- what is known of an arrival that is accepted
pub record Accepted (s : State) (j : Job) : Type 0 where
  pub new : standing (number j) s ≡ 0
  pub named : 1 ≤ number j
  pub lasting : Lasting j
  pub fresh : j.by ≡ 0
  pub can : s.clock + j.remaining ≤ limit j

module _ (ρ : Parts) (laws : LawfulParts ρ) (s : State) (j : Job) (owed : List Job) (seen : ℕ → Bool) (last : ℕ → ℕ) (i : Invariant ρ s owed seen last) (ok : Accepted s j) where
  -- THE BOOKS, with one job more

  pub once_more : (n : ℕ) → count (has n) (j ∷ owed) ≤ 1
  once_more n =
      let most = i.books.once n in
      let here = i.books.each n in
      elim (cases_Bool (has n j)) [
        | inl is ↦ let none : standing n s ≡ 0 = subst (λ m. standing m s ≡ 0) (eqb-true _ n is) ok.new in let first = cond-true {A = ℕ} (has n j) 1 0 is in omega arith
        | inr isnt ↦ let first = cond-false {A = ℕ} (has n j) 1 0 isnt in omega arith
      ]

  known_still : (k : Job) → Among (SameJob k) owed → Among (SameJob k) (j ∷ owed)
  known_still k h = inr h

  pub lines_still : Every (LineOf (j ∷ owed)) s.ended
  lines_still = All-weaker (LineOf owed) _ (λ e h. inr h) s.ended i.books.lines

  pub ready_known : Every (λ k. Among (SameJob k) (j ∷ owed)) s.ready
  ready_known = All-weaker _ _ known_still s.ready i.books.same_ready

  pub parked_known : Every (λ k. Among (SameJob k) (j ∷ owed)) s.parked
  parked_known = All-weaker _ _ known_still s.parked i.books.same_parked

  -- nobody who stood there has the arrival's number
  not_j : (n : ℕ) → 1 ≤ standing n s → has n j ≡ false
  not_j n stands = elim (cases_Bool (has n j)) [ inl is ↦ absurd (let none : standing n s ≡ 0 = subst (λ m. standing m s ≡ 0) (eqb-true _ n is) ok.new in omega arith) | inr isnt ↦ isnt ]

  -- THE STORY

  abbrev pub seen_now : State → ℕ → Bool
  seen_now s' n = some (has n) s'.ready || (seen n && not (has n j))

  abbrev pub last_now : State → ℕ → ℕ
  last_now s' n = cond (has n j) 0 (cond (moved n s s') (number j) (last n))

  -- what is to be known of a job that is parked then: it has just been displaced, or its story is as it was
  abbrev pub ParkedStory : State → Job → Type 0
  ParkedStory s' p =
      ((moved (number p) s s' ≡ true) × (p.by ≡ number j))
      ⊎ ((moved (number p) s s' ≡ false) × (p.by ≡ cond (has (number p) j) 0 (last (number p))) × ((seen (number p) && not (has (number p) j)) ≡ true → 0 < p.by))

  unready : (ready was : Bool) → ready ≡ false → (ready || was) ≡ true → was ≡ true
  unready true was h k = absurd (both_ways true h refl)
  unready false was h k = k

  named_now : (s' : State) (p : Job) → ParkedStory s' p → p.by ≡ last_now s' (number p)
  named_now s' p (inl h) =
      let stood = (and_parts (some (has (number p)) s.ready) (some (has (number p)) s'.parked) h.0).0 in
      let isnt = not_j (number p) (let c = some_count (has (number p)) s.ready in grind (arith, nat_tests)) in
      h.1 ∙ sym (cond-false (has (number p) j) _ _ isnt ∙ cond-true (moved (number p) s s') _ _ h.0)
  named_now s' p (inr h) = h.1 ∙ ap (λ x. cond (has (number p) j) 0 x) (sym (cond-false (moved (number p) s s') _ _ h.0))

  waits_now : (s' : State) (p : Job) → some (has (number p)) s'.ready ≡ false → ParkedStory s' p → seen_now s' (number p) ≡ true → 0 < p.by
  waits_now s' p apart (inl h) was = let e = h.1 in let one = ok.named in omega arith
  waits_now s' p apart (inr h) was = h.2 (unready _ _ apart was)

  -- who is ready then was not displaced by this arrival
  ready_now : (s' : State) (r : Job) → some (has (number r)) s'.parked ≡ false → r.by ≡ cond (has (number r) j) 0 (last (number r)) → r.by ≡ last_now s' (number r)
  ready_now s' r apart h = h ∙ ap (λ x. cond (has (number r) j) 0 x) (sym (cond-false (moved (number r) s s') _ _ (and_right _ _ apart)))

  lines_told : (s' : State) (e : Ending) → 1 ≤ standing e.number s → some (has e.number) s'.ready ≡ false → some (has e.number) s'.parked ≡ false → Told seen last e e.kind → Told (seen_now s') (last_now s') e e.kind
  lines_told s' e stands no_ready no_parked h =
      told_at seen (seen_now s') last (last_now s') e e.kind
      (λ was. (and_parts (seen e.number) _ (unready _ _ no_ready was)).0)
      (cond-false (has e.number j) _ _ (not_j e.number stands) ∙ cond-false (moved e.number s s') _ _ (and_right _ _ no_parked))
      h

  ended_stand : Every (λ e. 1 ≤ standing e.number s) s.ended
  ended_stand = All-weaker _ _ (λ e h. omega arith) s.ended (all_counted (λ e. e.number) s.ended)

  pub story_now : (rs ps : List Job) →
      let s' : State = record { clock = s.clock; ready = rs; parked = ps; ended = s.ended } in
      Books s' (j ∷ owed) → Every (λ r. r.by ≡ cond (has (number r) j) 0 (last (number r))) rs → Every (ParkedStory s') ps → Story s' (seen_now s') (last_now s')
  story_now rs ps b by_ready by_parked =
      let s' : State = record { clock = s.clock; ready = rs; parked = ps; ended = s.ended } in
      record {
        by_ready = all_zip _ _ _ (ready_now s') rs (ready_not_parked s' (j ∷ owed) b) by_ready;
        by_parked = All-weaker _ _ (named_now s') ps by_parked;
        waits = all_zip _ _ _ (waits_now s') ps (parked_not_ready s' (j ∷ owed) b) by_parked;
        told = all_zip _ _ _ (λ e h k. lines_told s' e h.0.0 h.0.1 h.1 k) s.ended (all_both _ _ s.ended (all_both _ _ s.ended ended_stand (ended_not_ready s' (j ∷ owed) b)) (ended_not_parked s' (j ∷ owed) b)) i.story.told;
      }

  -- a job that stood there, as the story has it now
  stood_by : (k : Job) → 1 ≤ standing (number k) s → k.by ≡ last (number k) → k.by ≡ cond (has (number k) j) 0 (last (number k))
  stood_by k stands h = h ∙ sym (cond-false (has (number k) j) _ _ (not_j (number k) stands))

  ready_stand : Every (λ r. 1 ≤ standing (number r) s) s.ready
  ready_stand = All-weaker _ _ (λ r h. omega arith) s.ready (all_counted number s.ready)

  parked_stand : Every (λ p. 1 ≤ standing (number p) s) s.parked
  parked_stand = All-weaker _ _ (λ p h. omega arith) s.parked (all_counted number s.parked)

  pub by_ready_now : Every (λ r. r.by ≡ cond (has (number r) j) 0 (last (number r))) s.ready
  by_ready_now = all_zip _ _ _ stood_by s.ready ready_stand i.story.by_ready

  pub by_parked_now : Every (λ p. p.by ≡ cond (has (number p) j) 0 (last (number p))) s.parked
  by_parked_now = all_zip _ _ _ stood_by s.parked parked_stand i.story.by_parked

  own : has (number j) j ≡ true
  own = eq-eqb (number j) (number j) refl

  pub by_own : j.by ≡ cond (has (number j) j) 0 (last (number j))
  by_own = ok.fresh ∙ sym (cond-true (has (number j) j) 0 (last (number j)) own)

  -- who was parked before and is parked still
  parked_as_before : (s' : State) → Every (ParkedStory s') s.parked
  parked_as_before s' =
      all_zip _ _ _ (λ p h k. inr (and_left _ _ h.0, h.1, λ was. k (and_parts (seen (number p)) _ was).0)) s.parked
      (all_both _ _ s.parked (parked_not_ready s owed i.books) by_parked_now) i.story.waits

  -- IT FITS

  pub fitting : fits ρ s.clock s.ready j ≡ true →
      let s' : State = record { clock = s.clock; ready = place ρ j s.ready; parked = s.parked; ended = s.ended } in
      Invariant ρ s' (j ∷ owed) (seen_now s') (last_now s')
  fitting room =
      let s' : State = record { clock = s.clock; ready = place ρ j s.ready; parked = s.parked; ended = s.ended } in
      let b : Books s' (j ∷ owed) = record {
        each = λ n. let more = count_insert (has n) (ready_order ρ) j s.ready in let was = i.books.each n in omega arith;
        once = once_more;
        same_ready = all_insert (ready_order ρ) j _ s.ready (inl (refl, refl)) ready_known;
        same_parked = parked_known;
        lines = lines_still;
      } in
      record {
        books = b;
        story = story_now (place ρ j s.ready) s.parked b (all_insert (ready_order ρ) j _ s.ready by_own by_ready_now) (parked_as_before s');
        times = record {
          by_order = insert_sorted (ready_order ρ) (ready_ordered ρ laws) j s.ready i.times.by_order;
          by_parking = i.times.by_parking;
          by_tick = i.times.by_tick;
          lasting_ready = all_insert (ready_order ρ) j Lasting s.ready ok.lasting i.times.lasting_ready;
          lasting_parked = i.times.lasting_parked;
          kept = room;
        };
        can = i.can;
        full = all_zip _ _ _ (λ p stands h. fits_more ρ laws s.clock s.ready p j (λ e. both_ways _ (not_j (number p) stands) (eq-eqb (number j) (number p) (sym e))) h) s.parked parked_stand i.full;
      }

  -- IT IS PARKED

  pub parking : fits ρ s.clock s.ready j ≡ false →
      let s' : State = record { clock = s.clock; ready = s.ready; parked = insert (parked_order ρ) j s.parked; ended = s.ended } in
      Invariant ρ s' (j ∷ owed) (seen_now s') (last_now s')
  parking no_room =
      let first = parked_order ρ in
      let s' : State = record { clock = s.clock; ready = s.ready; parked = insert first j s.parked; ended = s.ended } in
      let b : Books s' (j ∷ owed) = record {
        each = λ n. let more = count_insert (has n) first j s.parked in let was = i.books.each n in omega arith;
        once = once_more;
        same_ready = ready_known;
        same_parked = all_insert first j _ s.parked (inl (refl, refl)) parked_known;
        lines = lines_still;
      } in
      let no_ready : some (has (number j)) s.ready ≡ false = not_some (has (number j)) s.ready (let none = ok.new in omega arith) in
      let unseen : (seen (number j) && not (has (number j) j)) ≡ true → 0 < j.by = λ was. absurd (both_ways _ (and_right _ _ (ap not own)) was) in
      record {
        books = b;
        story = story_now s.ready (insert first j s.parked) b by_ready_now (all_insert first j (ParkedStory s') s.parked (inr (and_left _ _ no_ready, by_own, unseen)) (parked_as_before s'));
        times = record {
          by_order = i.times.by_order;
          by_parking = insert_sorted first (parked_ordered ρ laws) j s.parked i.times.by_parking;
          by_tick = i.times.by_tick;
          lasting_ready = i.times.lasting_ready;
          lasting_parked = all_insert first j Lasting s.parked ok.lasting i.times.lasting_parked;
          kept = i.times.kept;
        };
        can = all_insert first j _ s.parked ok.can i.can;
        full = all_insert first j _ s.parked no_room i.full;
      }
