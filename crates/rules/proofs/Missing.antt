-- A job that is missed was parked, and had more to do than there was time left: in every moment of every run.
use Rattle.std.proofs.Common.{◌≡◌, ℕ, zero, suc, ◌+◌, ◌<◌, ◌≤◌, Bool, true, cond, not, eqb, ltb, ◌⊎◌, List, [], ◌∷◌, map, filter, sym, refl, ap, ◌∙◌, subst, inl, inr, ⊎_elim, arith}
use Rattle.std.proofs.ByRecursion.{All-weaker, All-append}
use Rattle.std.proofs.lemmas.Bool.{cond_both, eq-eqb, ltb-true}
use Rattle.std.specs.List.{AllByRecursion as Every}
use Rattle.jobs.specs.declared.ending.EndKind.{EndKind}
use Rattle.jobs.specs.declared.ending.EndKind.TheVariants.{InTime, Missed, Withdrawn}
use Rattle.jobs.specs.declared.ending.Ending.{Ending}
use Rattle.jobs.specs.declared.job.Job.{Job}
use Rattle.jobs.specs.declared.refusal.Refusal.TheVariants.{Range, Horizon, Unknown, Waiting}
use Rattle.jobs.specs.Records.{number, limit}
use Rattle.rankings.specs.Ranked.{insert}
use Rattle.rules.specs.Calls.{between, refusing, job_of, on_arrive, ends, late, worked, last_tick, expire, tick, after_ticks, on_work, finish_first, on_finish, withdrawn, on_withdraw, collect_first, serve}
use Rattle.rules.specs.Giving.{swept}
use Rattle.rules.specs.Lists.{insert_all, some, count, Among}
use Rattle.rules.specs.Promise.{MissedLate}
use Rattle.rules.specs.Runs.{nothing_new, moments, tick_moments, work_moments, trace}
use Rattle.rules.specs.States.{Parts, LawfulParts, State, ended_order, Arrival, Call, arrive, work, finish, withdraw, collect, now_at, saved, gone, Outcome, answers, has, line_has, other, pending}
use Rattle.rules.proofs.Admitting.{arrive_cases, admit_cases}
use Rattle.rules.proofs.Invariant.{Invariant}
use Rattle.rules.proofs.Keeping.{counted, all_zip, all_own}
use Rattle.rules.proofs.Noting.{all_counted}
use Rattle.rules.proofs.Numbered.{same_by_number}
use Rattle.rules.proofs.Reaching.{serve_keeps}
use Rattle.rules.proofs.Refusing.{refusing_cases}
use Rattle.rules.proofs.Ticking.{tick_keeps}

-- where a record that was put in, or made of another, is found again
among_insert : {A : Type 0} (P : A → Type 0) (first : A → A → Bool) (x : A) (ys : List A) → Among P (insert first x ys) → P x ⊎ Among P ys
among_insert P first x [] h = h
among_insert P first x (y ∷ ys) h =
    cond_both (first x y) (x ∷ (y ∷ ys)) (y ∷ insert first x ys) (λ l. Among P l → P x ⊎ (P y ⊎ Among P ys))
    (λ _ k. k)
    (λ _ k. ⊎_elim (λ here. inr (inl here)) (λ there. ⊎_elim inl (λ rest. inr (inr rest)) (among_insert P first x ys there)) k)
    h

among_insert_all : {A : Type 0} (P : A → Type 0) (first : A → A → Bool) (xs ys : List A) → Among P (insert_all first xs ys) → Among P xs ⊎ Among P ys
among_insert_all P first [] ys h = inr h
among_insert_all P first (x ∷ xs) ys h =
    ⊎_elim (λ there. inl (inr there)) (λ rest. ⊎_elim (λ here. inl (inl here)) inr (among_insert P first x ys rest)) (among_insert_all P first xs (insert first x ys) h)

among_map : {A B : Type 0} (P : B → Type 0) (f : A → B) (xs : List A) → Among P (map f xs) → Among (λ x. P (f x)) xs
among_map P f [] h = h
among_map P f (x ∷ xs) (inl h) = inl h
among_map P f (x ∷ xs) (inr h) = inr (among_map P f xs h)

abbrev MissedLine : Job → Ending → Type 0
MissedLine p e = (e.number ≡ number p) × (e.kind ≡ Missed)

-- what is to be shown of a parked job, if this is the next clock and these the next lines
abbrev LateIn : ℕ → List Ending → Job → Type 0
LateIn t es p = Among (MissedLine p) es → limit p < t + p.remaining

-- lines of another kind
other_kind : (t : ℕ) (k : EndKind) (p : Job) (js : List Job) → (k ≡ Missed → ⊥) → Among (MissedLine p) (map (ends t k) js) → ⊥
other_kind t k p js isnt h = none js (among_map (MissedLine p) (ends t k) js h)
  where
    none : (js : List Job) → Among (λ j. MissedLine p (ends t k j)) js → ⊥
    none [] h = h
    none (j ∷ js) (inl h) = isnt h.1
    none (j ∷ js) (inr h) = none js h

in_time_is_not : InTime ≡ Missed → ⊥
in_time_is_not e = let z : ◌≡◌ {A = ℕ} 0 1 = cc in omega arith

withdrawn_is_not : Withdrawn ≡ Missed → ⊥
withdrawn_is_not e = let z : ◌≡◌ {A = ℕ} 0 1 = cc in omega arith

module _ (ρ : Parts) (laws : LawfulParts ρ) (s : State) (js : List Job) (seen : ℕ → Bool) (last : ℕ → ℕ) (i : Invariant ρ s js seen last) where
  -- who is parked has no line
  no_line : Every (λ p. Among (MissedLine p) s.ended → ⊥) s.parked
  no_line =
      All-weaker _ _ (λ p stands line.
      let written = counted (line_has (number p)) (MissedLine p) (λ e is. eq-eqb e.number (number p) is.0) s.ended line in
      let e = i.books.each (number p) in
      let o = i.books.once (number p) in
      omega arith)
      s.parked (all_counted number s.parked)

  -- a state whose lines are those there were, and some of another kind
  quiet : (t : ℕ) (es : List Ending) → ((p : Job) → Among (MissedLine p) es → Among (MissedLine p) s.ended) → Every (LateIn t es) s.parked
  quiet t es from = All-weaker _ _ (λ p none line. absurd (none (from p line))) s.parked no_line

  unchanged : Every (LateIn s.clock s.ended) s.parked
  unchanged = quiet s.clock s.ended (λ p line. line)

  abbrev Lates : Outcome → Type 0
  Lates o = Every (LateIn o.state.clock o.state.ended) s.parked

  arrive_late : (a : Arrival) → Lates (on_arrive ρ s a)
  arrive_late a = arrive_cases ρ s a Lates (λ e. unchanged) (λ _ _ ok. admit_cases ρ s (job_of s a) Lates (λ _. unchanged) (λ _ _. unchanged) (λ v rest _ _. unchanged))

  -- one line more, in time
  in_time : (t : ℕ) (j p : Job) → Among (MissedLine p) (insert ended_order (ends t InTime j) s.ended) → Among (MissedLine p) s.ended
  in_time t j p line = ⊎_elim (λ is. absurd (in_time_is_not is.1)) (λ rest. rest) (among_insert (MissedLine p) ended_order (ends t InTime j) s.ended line)

  finish_first_late : (n : ℕ) (rs : List Job) → Lates (finish_first ρ s n rs)
  finish_first_late n [] = unchanged
  finish_first_late n (j ∷ rs) =
      refusing_cases Lates (other n j) Waiting s (answers (saved j.remaining) (swept ρ (record { clock = s.clock; ready = rs; parked = s.parked; ended = insert ended_order (ends s.clock InTime j) s.ended }))) unchanged
      (λ _. quiet s.clock (insert ended_order (ends s.clock InTime j) s.ended) (in_time s.clock j))

  finish_late : (n : ℕ) → Lates (on_finish ρ s n)
  finish_late n =
      let named = finish_first ρ s n s.ready in
      refusing_cases Lates (not (between 1 65535 n)) Range s (refusing (not (pending s n)) Unknown s named) unchanged
      (λ _. refusing_cases Lates (not (pending s n)) Unknown s named unchanged (λ _. finish_first_late n s.ready))

  lines_withdrawn : (n : ℕ) (ks : List Job) (p : Job) → Among (MissedLine p) (insert_all ended_order (withdrawn s.clock n ks) s.ended) → Among (MissedLine p) s.ended
  lines_withdrawn n ks p line =
      ⊎_elim (λ new. absurd (other_kind s.clock Withdrawn p (filter (has n) ks) withdrawn_is_not new)) (λ rest. rest) (among_insert_all (MissedLine p) ended_order (withdrawn s.clock n ks) s.ended line)

  withdraw_late : (n : ℕ) → Lates (on_withdraw ρ s n)
  withdraw_late n =
      let from_ready : State = record { clock = s.clock; ready = filter (other n) s.ready; parked = s.parked; ended = insert_all ended_order (withdrawn s.clock n s.ready) s.ended } in
      let from_parked : State = record { clock = s.clock; ready = s.ready; parked = filter (other n) s.parked; ended = insert_all ended_order (withdrawn s.clock n s.parked) s.ended } in
      let named = answers gone (cond (some (has n) s.ready) (swept ρ from_ready) from_parked) in
      refusing_cases Lates (not (between 1 65535 n)) Range s (refusing (not (pending s n)) Unknown s named) unchanged
      (λ _. refusing_cases Lates (not (pending s n)) Unknown s named unchanged
      (λ _. cond_both (some (has n) s.ready) (swept ρ from_ready) from_parked (λ w. Every (LateIn w.clock w.ended) s.parked) (λ _. quiet s.clock from_ready.ended (lines_withdrawn n s.ready)) (λ _. quiet s.clock from_parked.ended (lines_withdrawn n s.parked))))

  collect_late : Lates (collect_first s s.ended)
  collect_late = by_lines s.ended refl
    where
      by_lines : (es : List Ending) → es ≡ s.ended → Lates (collect_first s es)
      by_lines [] is = unchanged
      by_lines (e ∷ es) is = quiet s.clock es (λ p line. subst (Among (MissedLine p)) is (inr line))

  -- a tick: whoever has a line of a missed job was late
  missed_were_late : (t : ℕ) (p : Job) → Among (λ r. r ≡ p) s.parked → Among (λ l. MissedLine p (ends t Missed l)) (filter (late t) s.parked) → late t p ≡ true
  missed_were_late t p own line = found s.parked (all_own s.parked) line
    where
      distinct : (n : ℕ) → count (has n) s.parked ≤ 1
      distinct n = let e = i.books.each n in let o = i.books.once n in omega arith

      found : (ls : List Job) → Every (λ l. Among (λ r. r ≡ l) s.parked) ls → Among (λ l. MissedLine p (ends t Missed l)) (filter (late t) ls) → late t p ≡ true
      found [] owns h = elim h [ ]
      found (l ∷ ls) owns h =
          cond_both (late t l) (l ∷ filter (late t) ls) (filter (late t) ls) (λ ks. Among (λ l. MissedLine p (ends t Missed l)) ks → late t p ≡ true)
          (λ is k. ⊎_elim (λ here. ap (late t) (sym (same_by_number s.parked distinct l p owns.0 own here.0)) ∙ is) (λ rest. found ls owns.1 rest) k)
          (λ _ k. found ls owns.1 k)
          h

  expire_late : (w : State) → w.parked ≡ s.parked → ((p : Job) → Among (MissedLine p) w.ended → Among (MissedLine p) s.ended) → Every (LateIn w.clock (expire w).ended) s.parked
  expire_late w same from =
      all_zip _ _ _ (λ p own none line.
      ⊎_elim (λ new. ltb-true _ _ (missed_were_late w.clock p own (subst (λ ps. Among (λ l. MissedLine p (ends w.clock Missed l)) (filter (late w.clock) ps)) same (among_map (MissedLine p) (ends w.clock Missed) (filter (late w.clock) w.parked) new))))
      (λ old. absurd (none (from p old)))
      (among_insert_all (MissedLine p) ended_order (map (ends w.clock Missed) (filter (late w.clock) w.parked)) w.ended line))
      s.parked (all_own s.parked) no_line

  worked_parked : (t : ℕ) (rs : List Job) → (worked t s rs).parked ≡ s.parked
  worked_parked t [] = refl
  worked_parked t (j ∷ rs) = cond_both {A = State} (eqb j.remaining 1) _ _ (λ w. w.parked ≡ s.parked) (λ _. refl) (λ _. refl)

  worked_lines : (t : ℕ) (rs : List Job) (p : Job) → Among (MissedLine p) (worked t s rs).ended → Among (MissedLine p) s.ended
  worked_lines t [] p line = line
  worked_lines t (j ∷ rs) p line = cond_both {A = State} (eqb j.remaining 1) _ _ (λ w. Among (MissedLine p) w.ended → Among (MissedLine p) s.ended) (λ _ k. in_time t j p k) (λ _ k. k) line

  tick_late : Every (LateIn (tick ρ s).clock (tick ρ s).ended) s.parked
  tick_late =
      let w = worked (s.clock + 1) s s.ready in
      let there = expire_late w (worked_parked (s.clock + 1) s.ready) (worked_lines (s.clock + 1) s.ready) in
      let there' : Every (LateIn (expire w).clock (expire w).ended) s.parked = there in
      cond_both (last_tick s.ready) (swept ρ (expire w)) (expire w) (λ v. Every (LateIn v.clock v.ended) s.parked) (λ _. there') (λ _. there')

-- EVERY MOMENT OF A RUN

module _ (ρ : Parts) (laws : LawfulParts ρ) where
  ticks_late : (k : ℕ) (s : State) (js : List Job) (seen : ℕ → Bool) (last : ℕ → ℕ) → Invariant ρ s js seen last → Every MissedLate (tick_moments ρ k s)
  ticks_late zero s js seen last i = tt
  ticks_late (suc k) s js seen last i = (tick_late ρ laws s js seen last i, ticks_late k (tick ρ s) js seen last (tick_keeps ρ laws s js seen last i))

  work_late : (s : State) (n : ℕ) (js : List Job) (seen : ℕ → Bool) (last : ℕ → ℕ) → Invariant ρ s js seen last → Every MissedLate (work_moments ρ s n (on_work ρ s n).answer)
  work_late s n js seen last i =
      let Q : Outcome → Type 0 = λ o. Every MissedLate (work_moments ρ s n o.answer) in
      let done = answers (now_at (after_ticks ρ n s).clock) (after_ticks ρ n s) in
      let turned : Every MissedLate (record { event = nothing_new; before = s; after = s } ∷ []) = (unchanged ρ laws s js seen last i, tt) in
      refusing_cases Q (not (between 1 10000 n)) Range s (refusing (ltb 1000000000 (s.clock + n)) Horizon s done) turned
      (λ _. refusing_cases Q (ltb 1000000000 (s.clock + n)) Horizon s done turned (λ _. ticks_late n s js seen last i))

  pub serve_late : (s : State) (k : Call) (js : List Job) (seen : ℕ → Bool) (last : ℕ → ℕ) → Invariant ρ s js seen last → Every MissedLate (moments ρ s k)
  serve_late s (arrive a) js seen last i = (arrive_late ρ laws s js seen last i a, tt)
  serve_late s (work n) js seen last i = work_late s n js seen last i
  serve_late s (finish n) js seen last i = (finish_late ρ laws s js seen last i n, tt)
  serve_late s (withdraw n) js seen last i = (withdraw_late ρ laws s js seen last i n, tt)
  serve_late s collect js seen last i = (collect_late ρ laws s js seen last i, tt)

  pub run_late : (ks : List Call) (s : State) (js : List Job) (seen : ℕ → Bool) (last : ℕ → ℕ) → Invariant ρ s js seen last → Every MissedLate (trace ρ s ks)
  run_late [] s js seen last i = tt
  run_late (k ∷ ks) s js seen last i =
      All-append MissedLate (moments ρ s k) (trace ρ (serve ρ s k).state ks) (serve_late s k js seen last i) (run_late ks (serve ρ s k).state _ _ _ (serve_keeps ρ laws s k js seen last i))
