-- Finish, withdraw and collect keep the invariant.
use Rattle.std.proofs.Common.{◌≡◌, ℕ, ◌+◌, ◌≤◌, Bool, true, false, cond, not, ◌&&◌, ◌||◌, eqb, List, [], ◌∷◌, filter, sym, refl, ap, ◌∙◌, subst, inl, inr, arith}
use Rattle.std.proofs.lemmas.Bool.{cond_both, cond-true, cond-false, eq-eqb, ne_eqb, cases_eq, not_from_false}
use Rattle.std.proofs.lemmas.Bool.Decides.{nat_tests}
use Rattle.std.specs.List.{AllByRecursion as Every}
use Rattle.jobs.specs.declared.ending.EndKind.TheVariants.{InTime, Withdrawn}
use Rattle.jobs.specs.declared.ending.Ending.{Ending}
use Rattle.jobs.specs.declared.job.Job.{Job}
use Rattle.jobs.specs.declared.refusal.Refusal.TheVariants.{Range, Unknown, Waiting}
use Rattle.rankings.specs.Ranked.{insert}
use Rattle.rankings.proofs.Placing.{all_insert, insert_sorted}
use Rattle.rules.specs.Calls.{between, ends, refusing, withdrawn, finish_first, on_finish, on_withdraw, collect_first}
use Rattle.rules.specs.Giving.{swept}
use Rattle.rules.specs.Lists.{insert_all, some, count, Among}
use Rattle.rules.specs.Promise.{standing, SameJob, LineOf}
use Rattle.rules.specs.Runs.{handed_out, accepts, note, displaced_by}
use Rattle.rules.specs.States.{Parts, LawfulParts, State, ready_order, parked_order, ended_order, Outcome, answers, saved, gone, has, line_has, other, pending}
use Rattle.rules.proofs.Holding.{holds_first, holds_tail, holds_kept}
use Rattle.rules.proofs.Invariant.{Books, Told, Story, Lasting, Times, Can, Invariant}
use Rattle.rules.proofs.Keeping.{count_insert, count_insert_all, count_split, none_counted, all_insert_all, all_kept, all_zip, all_of, all_mapped}
use Rattle.rules.proofs.Moving.{EndsWell, line_of, lines_of, count_lines, books_swept, story_swept, times_swept, can_swept, full_swept}
use Rattle.rules.proofs.Noting.{noted}
use Rattle.rules.proofs.Orders.{ready_ordered, parked_ordered, ended_ordered}
use Rattle.rules.proofs.Ordering.{sorted_kept, sorted_insert_all}
use Rattle.rules.proofs.Refusing.{refusing_cases}
use Rattle.rules.proofs.Ticking.{with_ready}

-- a property of the state that a call leaves
abbrev Leaves : (State → Type 0) → Outcome → Type 0
Leaves P o = P o.state

module _ (ρ : Parts) (laws : LawfulParts ρ) (owed : List Job) (seen : ℕ → Bool) (last : ℕ → ℕ) where
  swept_keeps : (w : State) → Books w owed → Story w seen last → Times ρ w → Can w → Invariant ρ (swept ρ w) owed seen last
  swept_keeps w b h t c =
      record {
        books = books_swept ρ laws w owed b;
        story = story_swept ρ laws w seen last h;
        times = times_swept ρ laws w t;
        can = can_swept ρ laws w c;
        full = full_swept ρ laws w owed b;
      }

  -- FINISH

  finished : (s : State) (j : Job) (js : List Job) → Invariant ρ (with_ready s (j ∷ js)) owed seen last → Invariant ρ (swept ρ (record { clock = s.clock; ready = js; parked = s.parked; ended = insert ended_order (ends s.clock InTime j) s.ended })) owed seen last
  finished s j js i =
      let t = s.clock in
      let line = ends t InTime j in
      let w : State = record { clock = t; ready = js; parked = s.parked; ended = insert ended_order line s.ended } in
      swept_keeps w
      (record {
        each = λ n. let gone = count_insert (line_has n) ended_order line s.ended in let was = i.books.each n in omega arith;
        once = i.books.once;
        same_ready = i.books.same_ready.1;
        same_parked = i.books.same_parked;
        lines = all_insert ended_order line _ s.ended (line_of t InTime owed j i.books.same_ready.0 i.times.lasting_ready.0 (let first = holds_first t j js i.times.kept in omega arith)) i.books.lines;
      })
      (record { by_ready = i.story.by_ready.1; by_parked = i.story.by_parked; waits = i.story.waits; told = all_insert ended_order line _ s.ended tt i.story.told })
      (record {
        by_order = i.times.by_order.1;
        by_parking = i.times.by_parking;
        by_tick = insert_sorted ended_order ended_ordered line s.ended i.times.by_tick;
        lasting_ready = i.times.lasting_ready.1;
        lasting_parked = i.times.lasting_parked;
        kept = holds_tail t j js i.times.kept;
      })
      i.can

  finish_first_keeps : (s : State) (n : ℕ) (rs : List Job) → Invariant ρ s owed seen last → Invariant ρ (with_ready s rs) owed seen last → Invariant ρ (finish_first ρ s n rs).state owed seen last
  finish_first_keeps s n [] i k = i
  finish_first_keeps s n (j ∷ js) i k = refusing_cases (Leaves (λ w. Invariant ρ w owed seen last)) (other n j) Waiting s (answers (saved j.remaining) _) i (λ _. finished s j js k)

  pub finish_keeps : (s : State) (n : ℕ) → Invariant ρ s owed seen last → Invariant ρ (on_finish ρ s n).state owed seen last
  finish_keeps s n i =
      let P : State → Type 0 = λ w. Invariant ρ w owed seen last in
      let named = finish_first ρ s n s.ready in
      refusing_cases (Leaves P) (not (between 1 65535 n)) Range s (refusing (not (pending s n)) Unknown s named) i
      (λ _. refusing_cases (Leaves P) (not (pending s n)) Unknown s named i (λ _. finish_first_keeps s n s.ready i i))

  -- WITHDRAW

  module _ (s : State) (n : ℕ) (i : Invariant ρ s owed seen last) where
    lines_told : (js : List Job) → Every (λ e. Told seen last e e.kind) (withdrawn s.clock n js)
    lines_told js = all_mapped (λ e. Told seen last e e.kind) (ends s.clock Withdrawn) (filter (has n) js) (all_of _ (λ _. tt) (filter (has n) js))

    lines_kept : (js : List Job) → Every (λ j. Among (SameJob j) owed) js → Every Lasting js → Every (LineOf owed) (withdrawn s.clock n js)
    lines_kept js same lasting =
        lines_of s.clock Withdrawn owed (filter (has n) js) (all_kept _ (has n) js same) (all_kept Lasting (has n) js lasting) (all_of (EndsWell s.clock Withdrawn) (λ _. tt) (filter (has n) js))

    count_withdrawn : (m : ℕ) (js : List Job) → count (line_has m) (insert_all ended_order (withdrawn s.clock n js) s.ended) + count (has m) (filter (other n) js) ≡ count (has m) js + count (line_has m) s.ended
    count_withdrawn m js =
        let gone = count_insert_all (line_has m) ended_order (withdrawn s.clock n js) s.ended in
        let lines = count_lines m s.clock Withdrawn (filter (has n) js) in
        let split = count_split (has m) (has n) js in
        omega arith

    abbrev from_ready : State
    from_ready = record { clock = s.clock; ready = filter (other n) s.ready; parked = s.parked; ended = insert_all ended_order (withdrawn s.clock n s.ready) s.ended }

    abbrev from_parked : State
    from_parked = record { clock = s.clock; ready = s.ready; parked = filter (other n) s.parked; ended = insert_all ended_order (withdrawn s.clock n s.parked) s.ended }

    ready_withdrawn : Invariant ρ (swept ρ from_ready) owed seen last
    ready_withdrawn =
        swept_keeps from_ready
        (record {
          each = λ m. let moved = count_withdrawn m s.ready in let was = i.books.each m in omega arith;
          once = i.books.once;
          same_ready = all_kept _ (other n) s.ready i.books.same_ready;
          same_parked = i.books.same_parked;
          lines = all_insert_all (LineOf owed) ended_order (withdrawn s.clock n s.ready) s.ended (lines_kept s.ready i.books.same_ready i.times.lasting_ready) i.books.lines;
        })
        (record {
          by_ready = all_kept _ (other n) s.ready i.story.by_ready;
          by_parked = i.story.by_parked;
          waits = i.story.waits;
          told = all_insert_all (λ e. Told seen last e e.kind) ended_order (withdrawn s.clock n s.ready) s.ended (lines_told s.ready) i.story.told;
        })
        (record {
          by_order = sorted_kept (ready_order ρ) (ready_ordered ρ laws) (other n) s.ready i.times.by_order;
          by_parking = i.times.by_parking;
          by_tick = sorted_insert_all ended_order ended_ordered (withdrawn s.clock n s.ready) s.ended i.times.by_tick;
          lasting_ready = all_kept Lasting (other n) s.ready i.times.lasting_ready;
          lasting_parked = i.times.lasting_parked;
          kept = holds_kept s.clock (other n) s.ready i.times.kept;
        })
        i.can

    parked_withdrawn : Invariant ρ from_parked owed seen last
    parked_withdrawn =
        record {
          books = record {
            each = λ m. let moved = count_withdrawn m s.parked in let was = i.books.each m in omega arith;
            once = i.books.once;
            same_ready = i.books.same_ready;
            same_parked = all_kept _ (other n) s.parked i.books.same_parked;
            lines = all_insert_all (LineOf owed) ended_order (withdrawn s.clock n s.parked) s.ended (lines_kept s.parked i.books.same_parked i.times.lasting_parked) i.books.lines;
          };
          story = record {
            by_ready = i.story.by_ready;
            by_parked = all_kept _ (other n) s.parked i.story.by_parked;
            waits = all_kept _ (other n) s.parked i.story.waits;
            told = all_insert_all (λ e. Told seen last e e.kind) ended_order (withdrawn s.clock n s.parked) s.ended (lines_told s.parked) i.story.told;
          };
          times = record {
            by_order = i.times.by_order;
            by_parking = sorted_kept (parked_order ρ) (parked_ordered ρ laws) (other n) s.parked i.times.by_parking;
            by_tick = sorted_insert_all ended_order ended_ordered (withdrawn s.clock n s.parked) s.ended i.times.by_tick;
            lasting_ready = i.times.lasting_ready;
            lasting_parked = all_kept Lasting (other n) s.parked i.times.lasting_parked;
            kept = i.times.kept;
          };
          can = all_kept _ (other n) s.parked i.can;
          full = all_kept _ (other n) s.parked i.full;
        }

    pub withdraw_keeps : Invariant ρ (on_withdraw ρ s n).state owed seen last
    withdraw_keeps =
        let P : State → Type 0 = λ w. Invariant ρ w owed seen last in
        let named = answers gone (cond (some (has n) s.ready) (swept ρ from_ready) from_parked) in
        refusing_cases (Leaves P) (not (between 1 65535 n)) Range s (refusing (not (pending s n)) Unknown s named) i
        (λ _. refusing_cases (Leaves P) (not (pending s n)) Unknown s named i (λ _. cond_both (some (has n) s.ready) (swept ρ from_ready) from_parked P (λ _. ready_withdrawn) (λ _. parked_withdrawn)))

-- COLLECT

-- a record that passes stays among those that pass
among_kept : {A : Type 0} (P : A → Type 0) (test : A → Bool) → ((x : A) → P x → test x ≡ true) → (xs : List A) → Among P xs → Among P (filter test xs)
among_kept P test passes [] h = elim h [ ]
among_kept P test passes (x ∷ xs) (inl h) = subst (Among P) (sym (cond-true (test x) (x ∷ filter test xs) (filter test xs) (passes x h))) (inl h)
among_kept P test passes (x ∷ xs) (inr h) =
    let ih = among_kept P test passes xs h in
    cond_both (test x) (x ∷ filter test xs) (filter test xs) (Among P) (λ _. inr ih) (λ _. ih)

count_other : (m n : ℕ) (js : List Job) → (m ≡ n → ⊥) → count (has m) (filter (other n) js) ≡ count (has m) js
count_other m n [] apart = refl
count_other m n (j ∷ js) apart = let ih = count_other m n js apart in grind (arith, nat_tests)

count_same : (n : ℕ) (js : List Job) → count (has n) (filter (other n) js) ≡ 0
count_same n [] = refl
count_same n (j ∷ js) = let ih = count_same n js in grind (arith, nat_tests)

module _ (ρ : Parts) (s : State) (owed : List Job) (seen : ℕ → Bool) (last : ℕ → ℕ) (e : Ending) (es : List Ending) where
  abbrev uncollected : State
  uncollected = record { clock = s.clock; ready = s.ready; parked = s.parked; ended = e ∷ es }

  abbrev left : State
  left = record { clock = s.clock; ready = s.ready; parked = s.parked; ended = es }

  collected_keeps : Invariant ρ uncollected owed seen last → Invariant ρ left (filter (other e.number) owed) seen last
  collected_keeps i =
      let n = e.number in
      let here = i.books.each n in
      let most = i.books.once n in
      let own = eq-eqb n n refl in
      let lines : count (line_has n) (e ∷ es) ≡ 1 + count (line_has n) es = grind (arith, nat_tests) in
      let no_ready : count (has n) s.ready ≡ 0 = omega arith in
      let no_parked : count (has n) s.parked ≡ 0 = omega arith in
      let no_line : count (line_has n) es ≡ 0 = omega arith in
      let stays : (j : Job) → has n j ≡ false → Among (SameJob j) owed → Among (SameJob j) (filter (other n) owed) = λ j apart known. among_kept (SameJob j) (other n) (λ o same. not_from_false _ (ap (λ m. eqb m.number n) same.0 ∙ apart)) owed known in
      record {
        books = record {
          each = λ m. each m;
          once = λ m. once m;
          same_ready = all_zip _ _ _ stays s.ready (none_counted (has n) s.ready no_ready) i.books.same_ready;
          same_parked = all_zip _ _ _ stays s.parked (none_counted (has n) s.parked no_parked) i.books.same_parked;
          lines = all_zip _ _ _ (λ f apart known. among_kept _ (other n) (λ o is. not_from_false _ (ap (λ k. eqb k n) is.0 ∙ apart)) owed known) es (none_counted (line_has n) es no_line) i.books.lines.1;
        };
        story = record { by_ready = i.story.by_ready; by_parked = i.story.by_parked; waits = i.story.waits; told = i.story.told.1 };
        times = record {
          by_order = i.times.by_order;
          by_parking = i.times.by_parking;
          by_tick = i.times.by_tick.1;
          lasting_ready = i.times.lasting_ready;
          lasting_parked = i.times.lasting_parked;
          kept = i.times.kept;
        };
        can = i.can;
        full = i.full;
      }
    where
      each : (m : ℕ) → standing m left ≡ count (has m) (filter (other e.number) owed)
      each m =
          let was = i.books.each m in
          let most = i.books.once m in
          elim (cases_eq m e.number) [
            | inl is ↦ let own = eq-eqb e.number m (sym is) in let none_left = ap (λ k. count (has m) (filter (other k) owed)) (sym is) ∙ count_same m owed in let first = cond-true {A = ℕ} (line_has m e) 1 0 own in omega arith
            | inr apart ↦ let others = count_other m e.number owed apart in let first = cond-false {A = ℕ} (line_has m e) 1 0 (ne_eqb e.number m (λ x. apart (sym x))) in omega arith
          ]

      once : (m : ℕ) → count (has m) (filter (other e.number) owed) ≤ 1
      once m = let split = count_split (has m) (has e.number) owed in let most = i.books.once m in omega arith

-- the moment of a collect
pub collect_keeps : (ρ : Parts) (s : State) (owed : List Job) (seen : ℕ → Bool) (last : ℕ → ℕ) (es : List Ending) → Invariant ρ (record { clock = s.clock; ready = s.ready; parked = s.parked; ended = es }) owed seen last → Invariant ρ s owed seen last →
    let o = collect_first s es in
    Invariant ρ o.state (note (handed_out o.answer) owed) (λ n. some (has n) o.state.ready || (seen n && not (accepts n (handed_out o.answer)))) (λ n. displaced_by n (handed_out o.answer) s o.state (last n))
collect_keeps ρ s owed seen last [] i k = noted ρ s owed seen last k
collect_keeps ρ s owed seen last (e ∷ es) i k = noted ρ _ _ seen last (collected_keeps ρ s owed seen last e es i)
