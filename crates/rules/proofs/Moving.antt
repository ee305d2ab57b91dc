-- The sweep, endings and the passing of late jobs keep the books, the story and the times.
use Rattle.std.proofs.Common.{◌≡◌, ℕ, ◌+◌, ◌<◌, ◌≤◌, Bool, true, not, List, [], ◌∷◌, map, filter, sym, ap, inl, inr, arith}
use Rattle.std.proofs.ByRecursion.{All-weaker}
use Rattle.std.proofs.lemmas.Bool.{ltb-true, ltb-false, not-true, cases_Bool, cond_both}
use Rattle.std.specs.List.{AllByRecursion as Every}
use Rattle.jobs.specs.declared.ending.EndKind.{EndKind}
use Rattle.jobs.specs.declared.ending.EndKind.TheVariants.{InTime, Missed, Withdrawn}
use Rattle.jobs.specs.declared.job.Job.{Job}
use Rattle.jobs.specs.Records.{number, limit}
use Rattle.rules.specs.Calls.{ends, late, expire}
use Rattle.rules.specs.Giving.{swept}
use Rattle.rules.specs.Lists.{count, Among}
use Rattle.rules.specs.Promise.{SameJob, Timely, LineOf}
use Rattle.rules.specs.States.{Parts, LawfulParts, State, ended_order, parked_order, has, line_has}
use Rattle.rules.proofs.Invariant.{Books, Told, Story, Lasting, Times, Can, Full}
use Rattle.rules.proofs.Keeping.{count_insert_all, count_split, count_map, all_insert_all, all_kept, all_kept_passes, all_both, all_mapped, all_of, among_weaker}
use Rattle.rules.proofs.Orders.{ended_ordered, parked_ordered}
use Rattle.rules.proofs.Ordering.{sorted_insert_all, sorted_kept}
use Rattle.rules.proofs.Sweeping.{sweep_count, sweep_all_ready, sweep_all_parked, sweep_sorted_ready, sweep_sorted_parked, sweep_holds, sweep_full}

-- LINES

-- a job that ends like this makes a timely line
abbrev pub EndsWell : ℕ → EndKind → Job → Type 0
EndsWell t InTime j = t ≤ limit j
EndsWell t Missed j = limit j < t + j.remaining
EndsWell t Withdrawn j = Unit {0}

line_timely : (t : ℕ) (k : EndKind) (j o : Job) → Lasting j → EndsWell t k j → SameJob j o → Timely o (ends t k j) k
line_timely t InTime j o lasting well same = let e = ap (λ m. m.deadline + m.tolerance) same.0 in omega arith
line_timely t Missed j o lasting well same = let e = ap (λ m. m.deadline + m.tolerance) same.0 in let c = same.1 in omega arith
line_timely t Withdrawn j o lasting well same = tt

pub line_of : (t : ℕ) (k : EndKind) (js : List Job) (j : Job) → Among (SameJob j) js → Lasting j → EndsWell t k j → LineOf js (ends t k j)
line_of t k js j known lasting well = among_weaker (SameJob j) _ (λ o same. (ap (λ m. m.number) same.0, line_timely t k j o lasting well same)) js known

pub lines_of : (t : ℕ) (k : EndKind) (js ls : List Job) → Every (λ j. Among (SameJob j) js) ls → Every Lasting ls → Every (EndsWell t k) ls → Every (LineOf js) (map (ends t k) ls)
lines_of t k js [] a b c = tt
lines_of t k js (l ∷ ls) a b c = (line_of t k js l a.0 b.0 c.0, lines_of t k js ls a.1 b.1 c.1)

-- the jobs of a list, and the lines made of them, have the same numbers
pub count_lines : (n t : ℕ) (k : EndKind) (ls : List Job) → count (line_has n) (map (ends t k) ls) ≡ count (has n) ls
count_lines n t k ls = count_map (line_has n) (ends t k) ls

-- THE SWEEP

module _ (ρ : Parts) (laws : LawfulParts ρ) (s : State) where
  pub books_swept : (js : List Job) → Books s js → Books (swept ρ s) js
  books_swept js b = record {
    each = λ n. let moved = sweep_count ρ laws (has n) s.clock s.ready s.parked in let was = b.each n in omega arith;
    once = b.once;
    same_ready = sweep_all_ready ρ laws _ s.clock s.ready s.parked b.same_ready b.same_parked;
    same_parked = sweep_all_parked ρ laws _ s.clock s.ready s.parked b.same_parked;
    lines = b.lines;
  }

  pub story_swept : (seen : ℕ → Bool) (last : ℕ → ℕ) → Story s seen last → Story (swept ρ s) seen last
  story_swept seen last h = record {
    by_ready = sweep_all_ready ρ laws _ s.clock s.ready s.parked h.by_ready h.by_parked;
    by_parked = sweep_all_parked ρ laws _ s.clock s.ready s.parked h.by_parked;
    waits = sweep_all_parked ρ laws _ s.clock s.ready s.parked h.waits;
    told = h.told;
  }

  pub times_swept : Times ρ s → Times ρ (swept ρ s)
  times_swept h = record {
    by_order = sweep_sorted_ready ρ laws s.clock s.ready s.parked h.by_order;
    by_parking = sweep_sorted_parked ρ laws (parked_order ρ) s.clock s.ready s.parked h.by_parking;
    by_tick = h.by_tick;
    lasting_ready = sweep_all_ready ρ laws Lasting s.clock s.ready s.parked h.lasting_ready h.lasting_parked;
    lasting_parked = sweep_all_parked ρ laws Lasting s.clock s.ready s.parked h.lasting_parked;
    kept = sweep_holds ρ laws s.clock s.ready s.parked h.kept;
  }

  pub can_swept : Can s → Can (swept ρ s)
  can_swept h = sweep_all_parked ρ laws _ s.clock s.ready s.parked h

  pub full_swept : (js : List Job) → Books s js → Full ρ (swept ρ s)
  full_swept js b = sweep_full ρ laws s.clock s.ready s.parked (λ n. let a = b.each n in let c = b.once n in omega arith)

-- LATE JOBS END AS MISSED

module _ (s : State) where
  late_all : (P : Job → Type 0) → Every P s.parked → Every P (filter (late s.clock) s.parked)
  late_all P = all_kept P (late s.clock) s.parked

  stay_all : (P : Job → Type 0) → Every P s.parked → Every P (expire s).parked
  stay_all P = all_kept P (λ j. not (late s.clock j)) s.parked

  pub books_expired : (js : List Job) → Every Lasting s.parked → Books s js → Books (expire s) js
  books_expired js lasting b = record {
    each = λ n.
        let gone = count_insert_all (line_has n) ended_order (map (ends s.clock Missed) (filter (late s.clock) s.parked)) s.ended in
        let lines = count_lines n s.clock Missed (filter (late s.clock) s.parked) in
        let split = count_split (has n) (late s.clock) s.parked in
        let was = b.each n in
        omega arith;
    once = b.once;
    same_ready = b.same_ready;
    same_parked = stay_all _ b.same_parked;
    lines = all_insert_all (LineOf js) ended_order _ s.ended
        (lines_of s.clock Missed js (filter (late s.clock) s.parked) (late_all _ b.same_parked) (late_all Lasting lasting)
        (all_kept_passes (EndsWell s.clock Missed) (late s.clock) s.parked (all_of _ (λ j h. ltb-true _ _ h) s.parked)))
        b.lines;
  }

  -- a parked job explains itself as it ends
  missed_told : (seen : ℕ → Bool) (last : ℕ → ℕ) (j : Job) → (j.by ≡ last (number j)) × (seen (number j) ≡ true → 0 < j.by) → Told seen last (ends s.clock Missed j) Missed
  missed_told seen last j h = elim (cases_Bool (seen (number j))) [ inl was ↦ inr (h.1 was, sym h.0) | inr never ↦ inl never ]

  pub story_expired : (seen : ℕ → Bool) (last : ℕ → ℕ) → Story s seen last → Story (expire s) seen last
  story_expired seen last h = record {
    by_ready = h.by_ready;
    by_parked = stay_all _ h.by_parked;
    waits = stay_all _ h.waits;
    told = all_insert_all _ ended_order _ s.ended
        (all_mapped (λ e. Told seen last e e.kind) (ends s.clock Missed) (filter (late s.clock) s.parked)
        (All-weaker _ _ (missed_told seen last) (filter (late s.clock) s.parked) (late_all _ (all_both _ _ s.parked h.by_parked h.waits))))
        h.told;
  }

  pub times_expired : (ρ : Parts) (laws : LawfulParts ρ) → Times ρ s → Times ρ (expire s)
  times_expired ρ laws h = record {
    by_order = h.by_order;
    by_parking = sorted_kept (parked_order ρ) (parked_ordered ρ laws) _ s.parked h.by_parking;
    by_tick = sorted_insert_all ended_order ended_ordered (map (ends s.clock Missed) (filter (late s.clock) s.parked)) s.ended h.by_tick;
    lasting_ready = h.lasting_ready;
    lasting_parked = stay_all Lasting h.lasting_parked;
    kept = h.kept;
  }

  -- those that stay can still make it
  pub can_expired : Can (expire s)
  can_expired = not_late s.parked
    where
      not_late : (ps : List Job) → Every (λ p. s.clock + p.remaining ≤ limit p) (filter (λ j. not (late s.clock j)) ps)
      not_late [] = tt
      not_late (p ∷ ps) =
          cond_both (not (late s.clock p)) (p ∷ filter _ ps) (filter _ ps) (Every (λ q. s.clock + q.remaining ≤ limit q))
          (λ h. (ltb-false _ _ (not-true _ h), not_late ps))
          (λ _. not_late ps)

  pub full_expired : (ρ : Parts) → Full ρ s → Full ρ (expire s)
  full_expired ρ h = stay_all _ h
