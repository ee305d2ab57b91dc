-- Every run of calls keeps the invariant, with the history that its moments tell.
use Rattle.std.proofs.Common.{◌≡◌, ℕ, zero, suc, ◌+◌, Bool, false, not, ◌&&◌, ◌||◌, ltb, List, [], ◌∷◌, ◌++◌, sym, refl, subst, zero-le}
use Rattle.jobs.specs.declared.job.Job.{Job}
use Rattle.jobs.specs.declared.refusal.Refusal.TheVariants.{Range, Horizon}
use Rattle.rules.specs.Calls.{refusing, between, tick, after_ticks, on_work, serve}
use Rattle.rules.specs.Lists.{some}
use Rattle.rules.specs.Runs.{Moment, moments, tick_moments, work_moments, after, trace, note, owed, seen_after, was_ready, displaced_by, displacer}
use Rattle.rules.specs.States.{Parts, LawfulParts, State, start, Call, arrive, work, finish, withdraw, collect, now_at, Outcome, answers, has}
use Rattle.rules.proofs.Admitting.{arrive_keeps}
use Rattle.rules.proofs.Closing.{finish_keeps, withdraw_keeps, collect_keeps}
use Rattle.rules.proofs.Invariant.{Invariant}
use Rattle.rules.proofs.Noting.{noted}
use Rattle.rules.proofs.Refusing.{refusing_cases}
use Rattle.rules.proofs.Ticking.{tick_keeps}

-- what the moments tell of one run after another
pub owed_append : (ms ns : List Moment) (js : List Job) → owed (ms ++ ns) js ≡ owed ns (owed ms js)
owed_append [] ns js = refl
owed_append (m ∷ ms) ns js = owed_append ms ns (note m.event js)

pub ready_append : (n : ℕ) (ms ns : List Moment) (seen : Bool) → was_ready n seen (ms ++ ns) ≡ was_ready n (was_ready n seen ms) ns
ready_append n [] ns seen = refl
ready_append n (m ∷ ms) ns seen = ready_append n ms ns (seen_after n m seen)

pub displacer_append : (n : ℕ) (ms ns : List Moment) (last : ℕ) → displacer n last (ms ++ ns) ≡ displacer n (displacer n last ms) ns
displacer_append n [] ns last = refl
displacer_append n (m ∷ ms) ns last = displacer_append n ms ns (displaced_by n m.event m.before m.after last)

-- the invariant after some moments
abbrev pub KeptBy : Parts → State → List Moment → List Job → (ℕ → Bool) → (ℕ → ℕ) → Type 0
KeptBy ρ s ms js seen last = Invariant ρ s (owed ms js) (λ n. was_ready n (seen n) ms) (λ n. displacer n (last n) ms)

module _ (ρ : Parts) (laws : LawfulParts ρ) where
  ticks_keep : (k : ℕ) (s : State) (js : List Job) (seen : ℕ → Bool) (last : ℕ → ℕ) → Invariant ρ s js seen last → KeptBy ρ (after_ticks ρ k s) (tick_moments ρ k s) js seen last
  ticks_keep zero s js seen last i = i
  ticks_keep (suc k) s js seen last i =
      ticks_keep k (tick ρ s) js (λ n. some (has n) (tick ρ s).ready || (seen n && not false)) last (noted ρ (tick ρ s) js seen last (tick_keeps ρ laws s js seen last i))

  -- work, refused or done
  abbrev Worked : State → ℕ → List Job → (ℕ → Bool) → (ℕ → ℕ) → Outcome → Type 0
  Worked s n js seen last o = KeptBy ρ o.state (work_moments ρ s n o.answer) js seen last

  work_keeps : (s : State) (n : ℕ) (js : List Job) (seen : ℕ → Bool) (last : ℕ → ℕ) → Invariant ρ s js seen last → Worked s n js seen last (on_work ρ s n)
  work_keeps s n js seen last i =
      let Q : Outcome → Type 0 = Worked s n js seen last in
      let done = answers (now_at (after_ticks ρ n s).clock) (after_ticks ρ n s) in
      let turned = noted ρ s js seen last i in
      refusing_cases Q (not (between 1 10000 n)) Range s (refusing (ltb 1000000000 (s.clock + n)) Horizon s done) turned
      (λ _. refusing_cases Q (ltb 1000000000 (s.clock + n)) Horizon s done turned (λ _. ticks_keep n s js seen last i))

  pub serve_keeps : (s : State) (k : Call) (js : List Job) (seen : ℕ → Bool) (last : ℕ → ℕ) → Invariant ρ s js seen last → KeptBy ρ (serve ρ s k).state (moments ρ s k) js seen last
  serve_keeps s (arrive a) js seen last i = arrive_keeps ρ laws s js seen last i a
  serve_keeps s (work n) js seen last i = work_keeps s n js seen last i
  serve_keeps s (finish n) js seen last i = noted ρ _ js seen last (finish_keeps ρ laws js seen last s n i)
  serve_keeps s (withdraw n) js seen last i = noted ρ _ js seen last (withdraw_keeps ρ laws js seen last s n i)
  serve_keeps s collect js seen last i = collect_keeps ρ s js seen last s.ended i i

  pub run_keeps : (ks : List Call) (s : State) (js : List Job) (seen : ℕ → Bool) (last : ℕ → ℕ) → Invariant ρ s js seen last → KeptBy ρ (after ρ s ks) (trace ρ s ks) js seen last
  run_keeps [] s js seen last i = i
  run_keeps (k ∷ ks) s js seen last i =
      let ms = moments ρ s k in
      let rest = trace ρ (serve ρ s k).state ks in
      let there = run_keeps ks (serve ρ s k).state (owed ms js) (λ n. was_ready n (seen n) ms) (λ n. displacer n (last n) ms) (serve_keeps s k js seen last i) in
      subst (λ (T : Type 0). T) (sym (λ x. Invariant ρ (after ρ s (k ∷ ks)) (owed_append ms rest js x) (λ n. ready_append n ms rest (seen n) x) (λ n. displacer_append n ms rest (last n) x))) there

  pub starts : Invariant ρ start [] (λ n. false) (λ n. 0)
  starts =
      record {
        books = record { each = λ n. refl; once = λ n. zero-le; same_ready = tt; same_parked = tt; lines = tt };
        story = record { by_ready = tt; by_parked = tt; waits = tt; told = tt };
        times = record { by_order = tt; by_parking = tt; by_tick = tt; lasting_ready = tt; lasting_parked = tt; kept = refl };
        can = tt;
        full = tt;
      }

  -- every reached state
  pub reached : (ks : List Call) → KeptBy ρ (after ρ start ks) (trace ρ start ks) [] (λ n. false) (λ n. 0)
  reached ks = run_keeps ks start [] (λ n. false) (λ n. 0) starts
