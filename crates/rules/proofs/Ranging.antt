-- Every field, the clock and the number of known jobs stay in their ranges, whatever is called.
use Rattle.std.proofs.Common.{◌≡◌, ℕ, zero, suc, ◌+◌, ◌<◌, ◌≤◌, Bool, false, cond, not, ltb, leb, List, [], ◌∷◌, length, filter, refl, ap, arith}
use Rattle.std.proofs.ByRecursion.{All-weaker, All-append}
use Rattle.std.proofs.lemmas.Bool.{cond_both, and_parts, not-false, leb-true, leb-false, ltb-false}
use Rattle.std.specs.List.{AllByRecursion as Every}
use Rattle.jobs.specs.declared.ending.EndKind.TheVariants.{InTime, Withdrawn}
use Rattle.jobs.specs.declared.ending.Ending.{Ending}
use Rattle.jobs.specs.declared.job.Job.{Job}
use Rattle.jobs.specs.declared.refusal.Refusal.TheVariants.{Range, Horizon, Unknown, Waiting}
use Rattle.jobs.specs.Records.{number}
use Rattle.rankings.specs.Ranked.{insert}
use Rattle.rankings.proofs.Placing.{all_insert}
use Rattle.rules.specs.Calls.{between, refusing, out_of_range, job_of, name_displacer, make_way, admit, on_arrive, ends, tick, after_ticks, on_work, finish_first, on_finish, withdrawn, on_withdraw, collect_first, serve}
use Rattle.rules.specs.Giving.{place, swept, among, without}
use Rattle.rules.specs.Lists.{insert_all, some, count, Among}
use Rattle.rules.specs.Ranges.{JobInRange, LineInRange, Fields, EveryRunInRange}
use Rattle.rules.specs.Runs.{after}
use Rattle.rules.specs.States.{Parts, LawfulParts, ready_order, parked_order, ended_order, State, start, Arrival, Call, arrive, work, finish, withdraw, collect, now_at, saved, gone, Outcome, answers, displaced, has, other, pending, population}
use Rattle.rules.proofs.Admitting.{arrive_cases, admit_cases, way, own_victims, few_victims}
use Rattle.rules.proofs.Arriving.{Accepted}
use Rattle.rules.proofs.Invariant.{Lasting, Invariant}
use Rattle.rules.proofs.Keeping.{all_insert_all, all_kept, all_mapped, all_among}
use Rattle.rules.proofs.Naming.{all_named}
use Rattle.rules.proofs.Reaching.{serve_keeps, starts, reached}
use Rattle.rules.proofs.Refusing.{refusing_cases}
use Rattle.rules.proofs.Ticking.{tick_keeps}
use Rattle.rules.proofs.Fields.{line_in_range, fields_swept, fields_ticked, tick_clock}
use Rattle.rules.proofs.Lengths.{length_insert, length_insert_all, room_left}
use Rattle.std.proofs.lemmas.List.{length-map}
use Rattle.std.proofs.lemmas.List.Filters.{length-filter_both}

module _ (ρ : Parts) (laws : LawfulParts ρ) where
  -- ARRIVE

  module _ (s : State) (js : List Job) (seen : ℕ → Bool) (last : ℕ → ℕ) (i : Invariant ρ s js seen last) (f : Fields s) where
    module _ (a : Arrival) (ranged : out_of_range a ≡ false) (room : leb 64 (population s) ≡ false) where
      new_in_range : JobInRange s.clock (job_of s a)
      new_in_range =
          let parts = and_parts (between 1 65535 a.number) _ (not-false _ ranged) in
          let named = and_parts (leb 1 a.number) (leb a.number 65535) parts.0 in
          let rest = and_parts (between 1 1000000 a.computation) _ parts.1 in
          let long = and_parts (leb 1 a.computation) (leb a.computation 1000000) rest.0 in
          let more = and_parts (between 1 100000000 a.deadline_in) _ rest.1 in
          let due = and_parts (leb 1 a.deadline_in) (leb a.deadline_in 100000000) more.0 in
          let last_two = and_parts (leb a.tolerance 100000000) (leb a.value 65535) more.1 in
          let n1 = leb-true _ _ named.0 in
          let n2 = leb-true _ _ named.1 in
          let c1 = leb-true _ _ long.0 in
          let c2 = leb-true _ _ long.1 in
          let d1 = leb-true _ _ due.0 in
          let d2 = leb-true _ _ due.1 in
          let m = leb-true _ _ last_two.0 in
          let v = leb-true _ _ last_two.1 in
          record {
            number = (n1, n2);
            arrival = omega arith;
            deadline = (omega arith, omega arith);
            tolerance = m;
            value = v;
            computation = (c1, c2);
            remaining = (c1, omega arith);
            by = omega arith;
          }

      below : population s < 64
      below = leb-false 64 _ room

      ranged_displaced : (m : ℕ) (p : Job) → m ≤ 65535 → JobInRange s.clock p → JobInRange s.clock (displaced m p)
      ranged_displaced m p le h =
          record {
            number = h.number;
            arrival = h.arrival;
            deadline = h.deadline;
            tolerance = h.tolerance;
            value = h.value;
            computation = h.computation;
            remaining = h.remaining;
            by = le;
          }

      length_named : (vs : List Job) (n : ℕ) (ps : List Job) → length (name_displacer vs n ps) ≡ length ps
      length_named vs n [] = refl
      length_named vs n (p ∷ ps) = ap suc (length_named vs n ps)

      made_way : (vs : List Job) → Every (λ v. Among (λ r. r ≡ v) s.ready) vs → ((n : ℕ) → count (has n) vs ≤ count (has n) s.ready) → Fields (make_way ρ s (job_of s a) vs)
      made_way vs own few =
          let j = job_of s a in
          let left = without vs s.ready in
          let aside : State = record { clock = s.clock; ready = place ρ j left; parked = insert_all (parked_order ρ) vs s.parked; ended = s.ended } in
          let more = length_insert (ready_order ρ) j left in
          let parked = length_insert_all (parked_order ρ) vs s.parked in
          let both = room_left s js i.books vs own few in
          let held : Fields aside = record {
            few = let free = below in omega arith;
            ready = all_insert (ready_order ρ) j _ left new_in_range (all_kept _ (λ r. not (among vs r)) s.ready f.ready);
            parked = all_insert_all _ (parked_order ρ) vs s.parked (All-weaker _ _ (λ v mine. all_among (JobInRange s.clock) v s.ready f.ready mine) vs own) f.parked;
            lines = f.lines;
          } in
          let w = fields_swept ρ laws aside held in
          let named_too = length_named vs (number j) (swept ρ aside).parked in
          record {
            few = let was = w.few in omega arith;
            ready = w.ready;
            parked = all_named vs (number j) (JobInRange s.clock) (JobInRange s.clock)
                (λ p h. cond_both (among vs p) (displaced (number j) p) p (JobInRange s.clock) (λ _. ranged_displaced (number j) p new_in_range.number.1 h) (λ _. h))
                (swept ρ aside).parked w.parked;
            lines = w.lines;
          }

    abbrev InFields : Outcome → Type 0
    InFields o = Fields o.state

    admitted : (a : Arrival) → out_of_range a ≡ false → leb 64 (population s) ≡ false → Accepted s (job_of s a) → InFields (admit ρ s (job_of s a))
    admitted a ranged room ok =
        let j = job_of s a in
        let free = below a ranged room in
        let new = new_in_range a ranged room in
        admit_cases ρ s j InFields
        (λ _. let more = length_insert (ready_order ρ) j s.ready in record { few = omega arith; ready = all_insert (ready_order ρ) j _ s.ready new f.ready; parked = f.parked; lines = f.lines })
        (λ _ _. let more = length_insert (parked_order ρ) j s.parked in record { few = omega arith; ready = f.ready; parked = all_insert (parked_order ρ) j _ s.parked new f.parked; lines = f.lines })
        (λ v rest no_room is. let g = way ρ laws s js seen last i j ok no_room in made_way a ranged room (v ∷ rest) (own_victims ρ laws s js seen last i j v rest g is) (few_victims ρ laws s js seen last i j v rest g is))

    arrive_fields : (a : Arrival) → InFields (on_arrive ρ s a)
    arrive_fields a = arrive_cases ρ s a InFields (λ e. f) (admitted a)

    -- FINISH AND WITHDRAW

    finish_first_fields : (n : ℕ) (rs : List Job) → length rs + (length s.parked + length s.ended) ≤ 64 → Every (JobInRange s.clock) rs → InFields (finish_first ρ s n rs)
    finish_first_fields n [] few ready = f
    finish_first_fields n (j ∷ rs) few ready =
        let line = ends s.clock InTime j in
        let w : State = record { clock = s.clock; ready = rs; parked = s.parked; ended = insert ended_order line s.ended } in
        let more = length_insert ended_order line s.ended in
        refusing_cases InFields (other n j) Waiting s (answers (saved j.remaining) (swept ρ w)) f
        (λ _. fields_swept ρ laws w (record { few = omega arith; ready = ready.1; parked = f.parked; lines = all_insert ended_order line _ s.ended (line_in_range s.clock s.clock InTime (omega arith) j ready.0) f.lines }))

    finish_fields : (n : ℕ) → InFields (on_finish ρ s n)
    finish_fields n =
        let named = finish_first ρ s n s.ready in
        refusing_cases InFields (not (between 1 65535 n)) Range s (refusing (not (pending s n)) Unknown s named) f
        (λ _. refusing_cases InFields (not (pending s n)) Unknown s named f (λ _. finish_first_fields n s.ready f.few f.ready))

    lines_ranged : (n : ℕ) (ks : List Job) → Every (JobInRange s.clock) ks → Every (LineInRange s.clock) (insert_all ended_order (withdrawn s.clock n ks) s.ended)
    lines_ranged n ks all =
        all_insert_all _ ended_order (withdrawn s.clock n ks) s.ended
        (all_mapped (LineInRange s.clock) (ends s.clock Withdrawn) (filter (has n) ks) (All-weaker (JobInRange s.clock) _ (line_in_range s.clock s.clock Withdrawn (omega arith)) (filter (has n) ks) (all_kept _ (has n) ks all)))
        f.lines

    withdrawn_length : (n : ℕ) (ks : List Job) → length (filter (other n) ks) + length (insert_all ended_order (withdrawn s.clock n ks) s.ended) ≡ length ks + length s.ended
    withdrawn_length n ks =
        let more = length_insert_all ended_order (withdrawn s.clock n ks) s.ended in
        let made = length-map (filter (has n) ks) (ends s.clock Withdrawn) in
        let split = length-filter_both (has n) _ (λ _. refl) ks in
        omega arith

    withdraw_fields : (n : ℕ) → InFields (on_withdraw ρ s n)
    withdraw_fields n =
        let from_ready : State = record { clock = s.clock; ready = filter (other n) s.ready; parked = s.parked; ended = insert_all ended_order (withdrawn s.clock n s.ready) s.ended } in
        let from_parked : State = record { clock = s.clock; ready = s.ready; parked = filter (other n) s.parked; ended = insert_all ended_order (withdrawn s.clock n s.parked) s.ended } in
        let named = answers gone (cond (some (has n) s.ready) (swept ρ from_ready) from_parked) in
        let was = f.few in
        refusing_cases InFields (not (between 1 65535 n)) Range s (refusing (not (pending s n)) Unknown s named) f
        (λ _. refusing_cases InFields (not (pending s n)) Unknown s named f
        (λ _. cond_both (some (has n) s.ready) (swept ρ from_ready) from_parked Fields
        (λ _. fields_swept ρ laws from_ready (record { few = let same = withdrawn_length n s.ready in omega arith; ready = all_kept _ (other n) s.ready f.ready; parked = f.parked; lines = lines_ranged n s.ready f.ready }))
        (λ _. record { few = let same = withdrawn_length n s.parked in omega arith; ready = f.ready; parked = all_kept _ (other n) s.parked f.parked; lines = lines_ranged n s.parked f.parked })))

    collect_fields : (es : List Ending) → length s.ready + (length s.parked + length es) ≤ 64 → Every (LineInRange s.clock) es → InFields (collect_first s es)
    collect_fields [] few lines = f
    collect_fields (e ∷ es) few lines = record { few = omega arith; ready = f.ready; parked = f.parked; lines = lines.1 }

  -- WORK, AND RUNS

  -- the fields and the clock
  abbrev Ranged : State → Type 0
  Ranged s = Fields s × (s.clock ≤ 1000000000)

  ticks_fields : (k : ℕ) (s : State) (js : List Job) (seen : ℕ → Bool) (last : ℕ → ℕ) → Invariant ρ s js seen last → Fields s → Fields (after_ticks ρ k s) × ((after_ticks ρ k s).clock ≡ s.clock + k)
  ticks_fields zero s js seen last i f = (f, omega arith)
  ticks_fields (suc k) s js seen last i f =
      let ih = ticks_fields k (tick ρ s) js seen last (tick_keeps ρ laws s js seen last i) (fields_ticked ρ laws s (All-weaker Lasting _ (λ j l. l.0) s.ready i.times.lasting_ready) f) in
      let one = tick_clock ρ laws s in
      let rest = ih.1 in
      (ih.0, omega arith)

  work_ranged : (s : State) (n : ℕ) (js : List Job) (seen : ℕ → Bool) (last : ℕ → ℕ) → Invariant ρ s js seen last → Ranged s → Ranged (on_work ρ s n).state
  work_ranged s n js seen last i r =
      let Q : Outcome → Type 0 = λ o. Ranged o.state in
      let done = answers (now_at (after_ticks ρ n s).clock) (after_ticks ρ n s) in
      let there = ticks_fields n s js seen last i r.0 in
      refusing_cases Q (not (between 1 10000 n)) Range s (refusing (ltb 1000000000 (s.clock + n)) Horizon s done) r
      (λ _. refusing_cases Q (ltb 1000000000 (s.clock + n)) Horizon s done r (λ within. (there.0, let most = ltb-false _ _ within in let is = there.1 in omega arith)))

  arrive_clock : (s : State) (a : Arrival) → (on_arrive ρ s a).state.clock ≡ s.clock
  arrive_clock s a =
      let Q : Outcome → Type 0 = λ o. o.state.clock ≡ s.clock in
      arrive_cases ρ s a Q (λ e. refl) (λ _ _ ok. admit_cases ρ s (job_of s a) Q (λ _. refl) (λ _ _. refl) (λ v rest _ _. refl))

  finish_clock : (s : State) (n : ℕ) → (on_finish ρ s n).state.clock ≡ s.clock
  finish_clock s n =
      let Q : Outcome → Type 0 = λ o. o.state.clock ≡ s.clock in
      let named = finish_first ρ s n s.ready in
      refusing_cases Q (not (between 1 65535 n)) Range s (refusing (not (pending s n)) Unknown s named) refl (λ _. refusing_cases Q (not (pending s n)) Unknown s named refl (λ _. first_clock s.ready))
    where
      first_clock : (rs : List Job) → (finish_first ρ s n rs).state.clock ≡ s.clock
      first_clock [] = refl
      first_clock (j ∷ rs) = refusing_cases (λ o. o.state.clock ≡ s.clock) (other n j) Waiting s (answers (saved j.remaining) (swept ρ (record { clock = s.clock; ready = rs; parked = s.parked; ended = insert ended_order (ends s.clock InTime j) s.ended }))) refl (λ _. refl)

  withdraw_clock : (s : State) (n : ℕ) → (on_withdraw ρ s n).state.clock ≡ s.clock
  withdraw_clock s n =
      let Q : Outcome → Type 0 = λ o. o.state.clock ≡ s.clock in
      let from_ready : State = record { clock = s.clock; ready = filter (other n) s.ready; parked = s.parked; ended = insert_all ended_order (withdrawn s.clock n s.ready) s.ended } in
      let from_parked : State = record { clock = s.clock; ready = s.ready; parked = filter (other n) s.parked; ended = insert_all ended_order (withdrawn s.clock n s.parked) s.ended } in
      let named = answers gone (cond (some (has n) s.ready) (swept ρ from_ready) from_parked) in
      refusing_cases Q (not (between 1 65535 n)) Range s (refusing (not (pending s n)) Unknown s named) refl
      (λ _. refusing_cases Q (not (pending s n)) Unknown s named refl (λ _. cond_both (some (has n) s.ready) (swept ρ from_ready) from_parked (λ w. w.clock ≡ s.clock) (λ _. refl) (λ _. refl)))

  collect_clock : (s : State) (es : List Ending) → (collect_first s es).state.clock ≡ s.clock
  collect_clock s [] = refl
  collect_clock s (e ∷ es) = refl

  same_clock : (s s' : State) → s'.clock ≡ s.clock → Fields s' → Ranged s → Ranged s'
  same_clock s s' is f r = (f, let most = r.1 in omega arith)

  pub serve_ranged : (s : State) (k : Call) (js : List Job) (seen : ℕ → Bool) (last : ℕ → ℕ) → Invariant ρ s js seen last → Ranged s → Ranged (serve ρ s k).state
  serve_ranged s (arrive a) js seen last i r = same_clock s _ (arrive_clock s a) (arrive_fields s js seen last i r.0 a) r
  serve_ranged s (work n) js seen last i r = work_ranged s n js seen last i r
  serve_ranged s (finish n) js seen last i r = same_clock s _ (finish_clock s n) (finish_fields s js seen last i r.0 n) r
  serve_ranged s (withdraw n) js seen last i r = same_clock s _ (withdraw_clock s n) (withdraw_fields s js seen last i r.0 n) r
  serve_ranged s collect js seen last i r = same_clock s _ (collect_clock s s.ended) (collect_fields s js seen last i r.0 s.ended r.0.few r.0.lines) r

  run_ranged : (ks : List Call) (s : State) (js : List Job) (seen : ℕ → Bool) (last : ℕ → ℕ) → Invariant ρ s js seen last → Ranged s → Ranged (after ρ s ks)
  run_ranged [] s js seen last i r = r
  run_ranged (k ∷ ks) s js seen last i r = run_ranged ks (serve ρ s k).state _ _ _ (serve_keeps ρ laws s k js seen last i) (serve_ranged s k js seen last i r)

pub every_run_in_range : EveryRunInRange
every_run_in_range ρ laws ks =
    let s = after ρ start ks in
    let new : Fields start = record { few = omega arith; ready = tt; parked = tt; lines = tt } in
    let r = run_ranged ρ laws ks start [] (λ n. false) (λ n. 0) (starts ρ laws) (new, omega arith) in
    let i = reached ρ laws ks in
    record {
      clock = r.1;
      few = r.0.few;
      once = λ n. let e = i.books.each n in let o = i.books.once n in omega arith;
      jobs = All-append _ s.ready s.parked r.0.ready r.0.parked;
      lines = r.0.lines;
    }
