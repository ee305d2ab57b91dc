-- An arrival that others make way for keeps the invariant.
use Rattle.std.proofs.Common.{◌≡◌, ℕ, ◌+◌, ◌<◌, ◌≤◌, Bool, true, false, cond, not, ◌&&◌, ltb, List, [], ◌∷◌, sym, refl, ap, ◌∙◌, inl, inr, arith}
use Rattle.std.proofs.ByRecursion.{All-weaker}
use Rattle.std.proofs.lemmas.Bool.{cases_Bool, eqb-true, lt-ltb, ltb-true, cond_both, and_from, and_parts, both_ways}
use Rattle.std.proofs.lemmas.Bool.Decides.{nat_tests}
use Rattle.std.specs.List.{AllByRecursion as Every}
use Rattle.jobs.specs.declared.job.Job.{Job}
use Rattle.jobs.specs.Records.{number, limit}
use Rattle.rankings.proofs.Placing.{all_insert, insert_sorted}
use Rattle.rules.specs.Calls.{make_way}
use Rattle.rules.specs.Giving.{place, fits, swept, among, without}
use Rattle.rules.specs.Lists.{insert_all, some, count, Among}
use Rattle.rules.specs.Promise.{SameJob}
use Rattle.rules.specs.States.{Parts, LawfulParts, ready_order, parked_order, State, displaced, has}
use Rattle.rules.proofs.Holding.{holds_each}
use Rattle.rules.proofs.Invariant.{Books, Lasting, Times, Can, Full, Invariant}
use Rattle.rules.proofs.Keeping.{some_count, count_insert, count_insert_all, all_insert_all, all_kept, all_among, all_zip, all_both}
use Rattle.rules.proofs.Moving.{books_swept, times_swept, can_swept, full_swept}
use Rattle.rules.proofs.Naming.{named, all_named, named_keeps, count_named, sorted_named, fits_named}
use Rattle.rules.proofs.Noting.{all_counted}
use Rattle.rules.proofs.Numbered.{all_among_own}
use Rattle.rules.proofs.Orders.{ready_ordered, parked_ordered}
use Rattle.rules.proofs.Ordering.{sorted_kept, sorted_insert_all}
use Rattle.rules.proofs.Sweeping.{sweep_count, sweep_stays, sweep_all_ready, sweep_all_parked}
use Rattle.rules.proofs.Arriving.{Accepted, once_more, ready_known, parked_known, lines_still, by_own, by_ready_now, by_parked_now, story_now, ParkedStory, seen_now, last_now}

module _ (ρ : Parts) (laws : LawfulParts ρ) (s : State) (j : Job) (owed : List Job) (seen : ℕ → Bool) (last : ℕ → ℕ) (i : Invariant ρ s owed seen last) (ok : Accepted s j) where
  module _ (vs : List Job) (own_vs : Every (λ v. Among (λ r. r ≡ v) s.ready) vs) (few : (n : ℕ) → count (has n) vs ≤ count (has n) s.ready) (room : fits ρ s.clock (without vs s.ready) j ≡ true) where
    -- the state before the sweep, after it, and with the displacer named
    abbrev set_aside : State
    set_aside = record { clock = s.clock; ready = place ρ j (without vs s.ready); parked = insert_all (parked_order ρ) vs s.parked; ended = s.ended }

    abbrev after_sweep : State
    after_sweep = swept ρ set_aside

    abbrev in_the_end : State
    in_the_end = make_way ρ s j vs

    ready_left : (P : Job → Type 0) → Every P s.ready → Every P (without vs s.ready)
    ready_left P = all_kept P (λ r. not (among vs r)) s.ready

    from_ready : (P : Job → Type 0) → Every P s.ready → Every P vs
    from_ready P all = All-weaker _ _ (λ v own. all_among P v s.ready all own) vs own_vs

    count_without : (n : ℕ) (rs : List Job) → count (has n) (without vs rs) ≡ cond (some (has n) vs) 0 (count (has n) rs)
    count_without n [] = sym (elim (some (has n) vs) as (λ b. cond {A = ℕ} b 0 0 ≡ 0) [ true ↦ refl | false ↦ refl ])
    count_without n (r ∷ rs) =
        let ih = count_without n rs in
        elim (cases_Bool (has n r)) [
          | inl is ↦
              let same : among vs r ≡ some (has n) vs = ap (λ m. some (has m) vs) (eqb-true _ n is) in
              grind (arith, nat_tests)
          | inr isnt ↦ grind (arith, nat_tests)
        ]

    -- setting aside loses nobody
    aside_count : (n : ℕ) → count (has n) (without vs s.ready) + count (has n) vs ≡ count (has n) s.ready
    aside_count n =
        let left = count_without n s.ready in
        let test = some_count (has n) vs in
        let fewer = few n in
        let e = i.books.each n in
        let o = i.books.once n in
        grind (arith, nat_tests)

    books_aside : Books set_aside (j ∷ owed)
    books_aside =
        record {
          each = λ n.
              let more = count_insert (has n) (ready_order ρ) j (without vs s.ready) in
              let aside = count_insert_all (has n) (parked_order ρ) vs s.parked in
              let both = aside_count n in
              let was = i.books.each n in
              omega arith;
          once = (once_more ρ laws s j owed seen last i ok);
          same_ready = all_insert (ready_order ρ) j _ (without vs s.ready) (inl (refl, refl)) (ready_left _ (ready_known ρ laws s j owed seen last i ok));
          same_parked = all_insert_all _ (parked_order ρ) vs s.parked (from_ready _ (ready_known ρ laws s j owed seen last i ok)) (parked_known ρ laws s j owed seen last i ok);
          lines = (lines_still ρ laws s j owed seen last i ok);
        }

    books_after : Books after_sweep (j ∷ owed)
    books_after = books_swept ρ laws set_aside (j ∷ owed) books_aside

    books_end : Books in_the_end (j ∷ owed)
    books_end =
        record {
          each = λ n. let names = count_named vs (number j) n after_sweep.parked in let was = books_after.each n in omega arith;
          once = (once_more ρ laws s j owed seen last i ok);
          same_ready = books_after.same_ready;
          same_parked = all_named vs (number j) _ _ (named_keeps vs (number j) (λ q. Among (SameJob q) (j ∷ owed)) (λ _ _ h. h)) after_sweep.parked books_after.same_parked;
          lines = (lines_still ρ laws s j owed seen last i ok);
        }

    times_aside : Times ρ set_aside
    times_aside =
        record {
          by_order = insert_sorted (ready_order ρ) (ready_ordered ρ laws) j (without vs s.ready) (sorted_kept (ready_order ρ) (ready_ordered ρ laws) (λ r. not (among vs r)) s.ready i.times.by_order);
          by_parking = sorted_insert_all (parked_order ρ) (parked_ordered ρ laws) vs s.parked i.times.by_parking;
          by_tick = i.times.by_tick;
          lasting_ready = all_insert (ready_order ρ) j Lasting (without vs s.ready) ok.lasting (ready_left Lasting i.times.lasting_ready);
          lasting_parked = all_insert_all Lasting (parked_order ρ) vs s.parked (from_ready Lasting i.times.lasting_ready) i.times.lasting_parked;
          kept = room;
        }

    times_end : Times ρ in_the_end
    times_end =
        let t = times_swept ρ laws set_aside times_aside in
        record {
          by_order = t.by_order;
          by_parking = sorted_named vs (number j) ρ laws after_sweep.parked t.by_parking;
          by_tick = t.by_tick;
          lasting_ready = t.lasting_ready;
          lasting_parked = all_named vs (number j) _ _ (named_keeps vs (number j) Lasting (λ _ _ h. h)) after_sweep.parked t.lasting_parked;
          kept = t.kept;
        }

    can_end : Can in_the_end
    can_end =
        let aside = all_insert_all _ (parked_order ρ) vs s.parked (from_ready _ (holds_each s.clock s.ready i.times.kept)) i.can in
        all_named vs (number j) _ _ (named_keeps vs (number j) (λ q. s.clock + q.remaining ≤ limit q) (λ _ _ h. h)) after_sweep.parked (can_swept ρ laws set_aside aside)

    full_end : Full ρ in_the_end
    full_end = all_named vs (number j) _ _ (λ p h. fits_named ρ vs (number j) s.clock after_sweep.ready p ∙ h) after_sweep.parked (full_swept ρ laws set_aside (j ∷ owed) books_aside)

    -- who was ready and is parked in the end was set aside
    pub parked_from : (n : ℕ) → 1 ≤ count (has n) s.ready → 1 ≤ count (has n) after_sweep.parked → some (has n) vs ≡ true
    parked_from n ready parked =
        let total = sweep_count ρ laws (has n) s.clock set_aside.ready set_aside.parked in
        let stays = sweep_stays ρ laws (has n) s.clock set_aside.ready set_aside.parked in
        let more = count_insert (has n) (ready_order ρ) j (without vs s.ready) in
        let aside = count_insert_all (has n) (parked_order ρ) vs s.parked in
        let left = count_without n s.ready in
        let test = some_count (has n) vs in
        let e = i.books.each n in
        let o = i.books.once n in
        grind (arith, nat_tests)

    -- the story of each job that is set aside or was parked
    abbrev AsideStory : Job → Type 0
    AsideStory p = (p.by ≡ cond (has (number p) j) 0 (last (number p))) × (among vs p ≡ false → (seen (number p) && not (has (number p) j)) ≡ true → 0 < p.by)

    aside_stories : Every AsideStory set_aside.parked
    aside_stories =
        all_insert_all AsideStory (parked_order ρ) vs s.parked
        (all_zip _ _ _ (λ v among_them by. (by, λ isnt. absurd (both_ways _ isnt among_them))) vs (all_among_own vs) (from_ready _ (by_ready_now ρ laws s j owed seen last i ok)))
        (all_zip _ _ _ (λ p by waits. (by, λ _ was. waits (and_parts (seen (number p)) _ was).0)) s.parked (by_parked_now ρ laws s j owed seen last i ok) i.story.waits)

    -- and of each that is parked in the end
    story_of : (p : Job) → AsideStory p × (1 ≤ count (has (number p)) after_sweep.parked) → (ParkedStory ρ laws s j owed seen last i ok) in_the_end (named vs (number j) p)
    story_of p h =
        let n = number p in
        let names = count_named vs (number j) n after_sweep.parked in
        let parked : some (has n) in_the_end.parked ≡ true = some_count (has n) in_the_end.parked ∙ lt-ltb 0 _ (let one = h.1 in omega arith) in
        cond_both (among vs p) (displaced (number j) p) p ((ParkedStory ρ laws s j owed seen last i ok) in_the_end)
        (λ is.
        let test = some_count (has n) vs in
        let fewer = few n in
        let ready : some (has n) s.ready ≡ true = some_count (has n) s.ready ∙ lt-ltb 0 _ (grind (arith, nat_tests)) in
        inl (and_from _ _ ready parked, refl))
        (λ isnt. inr (stayed isnt (some (has n) s.ready) (some_count (has n) s.ready), h.0.0, h.0.1 isnt))
      where
        stayed : among vs p ≡ false → (b : Bool) → b ≡ ltb 0 (count (has (number p)) s.ready) → (b && some (has (number p)) in_the_end.parked) ≡ false
        stayed isnt true e = absurd (both_ways _ isnt (parked_from (number p) (ltb-true 0 _ (sym e)) h.1))
        stayed isnt false e = refl

    stories : Every ((ParkedStory ρ laws s j owed seen last i ok) in_the_end) in_the_end.parked
    stories =
        all_named vs (number j) _ _ story_of after_sweep.parked
        (all_both _ _ after_sweep.parked (sweep_all_parked ρ laws AsideStory s.clock set_aside.ready set_aside.parked aside_stories) (all_counted number after_sweep.parked))

    pub making_way : Invariant ρ in_the_end (j ∷ owed) ((seen_now ρ laws s j owed seen last i ok) in_the_end) ((last_now ρ laws s j owed seen last i ok) in_the_end)
    making_way =
        record {
          books = books_end;
          story = (story_now ρ laws s j owed seen last i ok) after_sweep.ready in_the_end.parked books_end
              (sweep_all_ready ρ laws _ s.clock set_aside.ready set_aside.parked (all_insert (ready_order ρ) j _ (without vs s.ready) (by_own ρ laws s j owed seen last i ok) (ready_left _ (by_ready_now ρ laws s j owed seen last i ok))) (all_insert_all _ (parked_order ρ) vs s.parked (from_ready _ (by_ready_now ρ laws s j owed seen last i ok)) (by_parked_now ρ laws s j owed seen last i ok)))
              stories;
          times = times_end;
          can = can_end;
          full = full_end;
        }
