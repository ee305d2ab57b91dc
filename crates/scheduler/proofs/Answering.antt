-- What work, finish and withdraw answer, and how they leave a state, from what is found in its lists.
use Rattle.std.proofs.Common.{◌≡◌, ℕ, ◌+◌, ◌<◌, ◌≤◌, Bool, true, false, not, ltb, List, [], ◌∷◌, get_or, refl, ap, ◌∙◌}
use Rattle.std.proofs.lemmas.Bool.{lt-ltb, le-ltb, eq-eqb, not_from_true, not_from_false, or_from, or_left, or_right, or_parts, cond-true, cond-false}
use Rattle.std.specs.List.{remove}
use Rattle.jobs.specs.declared.ending.EndKind.{EndKind}
use Rattle.jobs.specs.declared.ending.EndKind.TheVariants.{InTime, Withdrawn}
use Rattle.jobs.specs.declared.job.Job.{Job}
use Rattle.jobs.specs.declared.refusal.Refusal.{Refusal}
use Rattle.jobs.specs.declared.refusal.Refusal.TheVariants.{Range, Horizon, Unknown, Waiting}
use Rattle.jobs.specs.Records.{number, blank}
use Rattle.rankings.specs.Ranked.{insert}
use Rattle.rules.specs.Calls.{between, refusing, ends, after_ticks, on_work, finish_first, on_finish, on_withdraw}
use Rattle.rules.specs.Giving.{swept}
use Rattle.rules.specs.Lists.{insert_all, some}
use Rattle.rules.specs.States.{Parts, ended_order, State, now_at, saved, gone, refused, Outcome, answers, has, other, pending}
use Rattle.rules.proofs.Distinct.{Distinct}
use Rattle.admission.specs.Steps.{with_ready, with_parked, with_line}
use Rattle.scheduler.proofs.Picking.{Found, found_some, kept_others, withdrawn_found, first_and_rest, found_later}

-- a check that fails, and one that passes
turned_away : (b : Bool) (e : Refusal) (s : State) (o : Outcome) → b ≡ true → refusing b e s o ≡ answers (refused e) s
turned_away b e s o is = ap (λ t. refusing t e s o) is

let_through : (b : Bool) (e : Refusal) (s : State) (o : Outcome) → b ≡ false → refusing b e s o ≡ o
let_through b e s o is = ap (λ t. refusing t e s o) is

-- in range and pending, a call does what it is for
allowed : (s : State) (n : ℕ) (o : Outcome) → between 1 65535 n ≡ true → pending s n ≡ true → refusing (not (between 1 65535 n)) Range s (refusing (not (pending s n)) Unknown s o) ≡ o
allowed s n o within here =
    let_through (not (between 1 65535 n)) Range s (refusing (not (pending s n)) Unknown s o) (not_from_true (between 1 65535 n) within)
    ∙ let_through (not (pending s n)) Unknown s o (not_from_true (pending s n) here)

not_allowed : (s : State) (n : ℕ) (o : Outcome) → between 1 65535 n ≡ true → some (has n) s.ready ≡ false → some (has n) s.parked ≡ false → refusing (not (between 1 65535 n)) Range s (refusing (not (pending s n)) Unknown s o) ≡ answers (refused Unknown) s
not_allowed s n o within unready unparked =
    let_through (not (between 1 65535 n)) Range s (refusing (not (pending s n)) Unknown s o) (not_from_true (between 1 65535 n) within)
    ∙ turned_away (not (pending s n)) Unknown s o (not_from_false (pending s n) (or_from (some (has n) s.ready) (some (has n) s.parked) unready unparked))

module _ (s : State) (n : ℕ) where
  pub pending_ready : some (has n) s.ready ≡ true → pending s n ≡ true
  pending_ready here = or_left (some (has n) s.ready) (some (has n) s.parked) here

  pub pending_parked : some (has n) s.parked ≡ true → pending s n ≡ true
  pending_parked here = or_right (some (has n) s.ready) (some (has n) s.parked) here

-- the state in which the ready, or the parked, job at a place has ended
abbrev pub ended_ready : State → ℕ → EndKind → State
ended_ready s p k = with_ready (remove s.ready p) (with_line k (get_or s.ready p blank) s)

abbrev pub ended_parked : State → ℕ → EndKind → State
ended_parked s p k = with_parked (remove s.parked p) (with_line k (get_or s.parked p blank) s)

module _ (ρ : Parts) (s : State) (n : ℕ) where
  -- FINISH

  pub finish_range : between 1 65535 n ≡ false → on_finish ρ s n ≡ answers (refused Range) s
  finish_range out = turned_away (not (between 1 65535 n)) Range s (refusing (not (pending s n)) Unknown s (finish_first ρ s n s.ready)) (not_from_false (between 1 65535 n) out)

  pub finish_unknown : between 1 65535 n ≡ true → some (has n) s.ready ≡ false → some (has n) s.parked ≡ false → on_finish ρ s n ≡ answers (refused Unknown) s
  finish_unknown = not_allowed s n (finish_first ρ s n s.ready)

  -- another job is first
  other_first : (js rs : List Job) (j : Job) → js ≡ j ∷ rs → other n j ≡ true → finish_first ρ s n js ≡ answers (refused Waiting) s
  other_first js rs j is another = ap (finish_first ρ s n) is ∙ turned_away (other n j) Waiting s _ another

  -- where the job is not ready, no job or another one is first
  none_first : (js : List Job) → some (has n) js ≡ false → finish_first ρ s n js ≡ answers (refused Waiting) s
  none_first [] none = refl
  none_first (j ∷ js) none = other_first (j ∷ js) js j refl (not_from_false (has n j) (or_parts (has n j) (some (has n) js) none).0)

  pub finish_not_first : (p : ℕ) → between 1 65535 n ≡ true → Found n s.ready p → 0 < p → on_finish ρ s n ≡ answers (refused Waiting) s
  finish_not_first p within f later =
      let first = found_later n s.ready p f later in
      allowed s n (finish_first ρ s n s.ready) within (pending_ready s n (found_some n s.ready p f))
      ∙ other_first s.ready (remove s.ready 0) (get_or s.ready 0 blank) first.0 first.1

  pub finish_parked : between 1 65535 n ≡ true → some (has n) s.ready ≡ false → some (has n) s.parked ≡ true → on_finish ρ s n ≡ answers (refused Waiting) s
  finish_parked within unready here =
      allowed s n (finish_first ρ s n s.ready) within (pending_parked s n here)
      ∙ none_first s.ready unready

  -- the first job, which is the one that is named, ends
  named_first : (js rs : List Job) (j : Job) → js ≡ j ∷ rs → number j ≡ n → finish_first ρ s n js ≡ answers (saved j.remaining) (swept ρ (record { clock = s.clock; ready = rs; parked = s.parked; ended = insert ended_order (ends s.clock InTime j) s.ended }))
  named_first js rs j is named = ap (finish_first ρ s n) is ∙ let_through (other n j) Waiting s _ (not_from_true (has n j) (eq-eqb (number j) n named))

  pub finish_first_is : between 1 65535 n ≡ true → Found n s.ready 0 → on_finish ρ s n ≡ answers (saved (get_or s.ready 0 blank).remaining) (swept ρ (ended_ready s 0 InTime))
  finish_first_is within f =
      allowed s n (finish_first ρ s n s.ready) within (pending_ready s n (found_some n s.ready 0 f))
      ∙ named_first s.ready (remove s.ready 0) (get_or s.ready 0 blank) (first_and_rest s.ready f.0) f.1

  -- WITHDRAW

  pub withdraw_range : between 1 65535 n ≡ false → on_withdraw ρ s n ≡ answers (refused Range) s
  withdraw_range out = turned_away (not (between 1 65535 n)) Range s _ (not_from_false (between 1 65535 n) out)

  pub withdraw_unknown : between 1 65535 n ≡ true → some (has n) s.ready ≡ false → some (has n) s.parked ≡ false → on_withdraw ρ s n ≡ answers (refused Unknown) s
  withdraw_unknown = not_allowed s n _

  pub withdraw_ready : (p : ℕ) → between 1 65535 n ≡ true → Distinct s.ready → Found n s.ready p → on_withdraw ρ s n ≡ answers gone (swept ρ (ended_ready s p Withdrawn))
  withdraw_ready p within apart f =
      let here = found_some n s.ready p f in
      let left = kept_others n s.ready p apart f in
      let lines = withdrawn_found s.clock n s.ready p apart f in
      allowed s n _ within (pending_ready s n here)
      ∙ ap (answers gone) (cond-true (some (has n) s.ready) _ _ here)
      ∙ (λ i. answers gone (swept ρ (record { clock = s.clock; ready = left i; parked = s.parked; ended = insert_all ended_order (lines i) s.ended })))

  pub withdraw_parked : (p : ℕ) → between 1 65535 n ≡ true → some (has n) s.ready ≡ false → Distinct s.parked → Found n s.parked p → on_withdraw ρ s n ≡ answers gone (ended_parked s p Withdrawn)
  withdraw_parked p within unready apart f =
      let left = kept_others n s.parked p apart f in
      let lines = withdrawn_found s.clock n s.parked p apart f in
      allowed s n _ within (pending_parked s n (found_some n s.parked p f))
      ∙ ap (answers gone) (cond-false (some (has n) s.ready) _ _ unready)
      ∙ (λ i. answers gone (record { clock = s.clock; ready = s.ready; parked = left i; ended = insert_all ended_order (lines i) s.ended }))

  -- whoever is pending is gone
  pub withdraw_gone : between 1 65535 n ≡ true → pending s n ≡ true → (on_withdraw ρ s n).answer ≡ gone
  withdraw_gone within here = ap (λ o. o.answer) (allowed s n _ within here)

  -- WORK

  pub work_range : between 1 10000 n ≡ false → on_work ρ s n ≡ answers (refused Range) s
  work_range out = turned_away (not (between 1 10000 n)) Range s _ (not_from_false (between 1 10000 n) out)

  pub work_horizon : between 1 10000 n ≡ true → 1000000000 < s.clock + n → on_work ρ s n ≡ answers (refused Horizon) s
  work_horizon within past =
      let_through (not (between 1 10000 n)) Range s _ (not_from_true (between 1 10000 n) within)
      ∙ turned_away (ltb 1000000000 (s.clock + n)) Horizon s _ (lt-ltb 1000000000 (s.clock + n) past)

  pub work_done : between 1 10000 n ≡ true → s.clock + n ≤ 1000000000 → on_work ρ s n ≡ answers (now_at (after_ticks ρ n s).clock) (after_ticks ρ n s)
  work_done within before =
      let_through (not (between 1 10000 n)) Range s _ (not_from_true (between 1 10000 n) within)
      ∙ let_through (ltb 1000000000 (s.clock + n)) Horizon s _ (le-ltb 1000000000 (s.clock + n) before)
