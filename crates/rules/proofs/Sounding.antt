-- The promise, from the invariant of every reached state.
use Rattle.std.proofs.Common.{◌≡◌, ℕ, ◌≤◌, Bool, false, List, [], ◌∷◌, ◌++◌, sym, refl, ap, ◌∙◌, subst, inl, inr, append_assoc, append-nil, arith}
use Rattle.std.proofs.ByRecursion.{All-weaker, All-append}
use Rattle.std.proofs.lemmas.Bool.{both_ways, cases_Bool, cond-true, cond-false, eqb-true}
use Rattle.std.specs.List.{AllByRecursion as Every}
use Rattle.jobs.specs.declared.ending.EndKind.{EndKind}
use Rattle.jobs.specs.declared.ending.EndKind.TheVariants.{InTime, Missed, Withdrawn}
use Rattle.jobs.specs.declared.ending.Ending.{Ending}
use Rattle.jobs.specs.declared.job.Job.{Job}
use Rattle.jobs.specs.Records.{number}
use Rattle.rankings.specs.Ranked.{before, Sorted}
use Rattle.rankings.specs.Rankings.{by_mark}
use Rattle.rankings.proofs.Placing.{all_insert, insert_sorted}
use Rattle.rules.specs.Calls.{serve}
use Rattle.rules.specs.Giving.{place, fits}
use Rattle.rules.specs.Lists.{count}
use Rattle.rules.specs.Plans.{Plan, PlanHolds, FollowsLimits}
use Rattle.rules.specs.Promise.{Sound, Explained, MissedLate, EveryRunIsSound, Reached, EveryCallKeeps, NoPlanByLimit}
use Rattle.rules.specs.Runs.{Moment, moments, after, trace, owed, was_ready, displacer}
use Rattle.rules.specs.States.{Parts, LawfulParts, ready_order, State, start, Call, has}
use Rattle.rules.proofs.Admitting.{arrive_fair, arrive_placed, arrive_displaces}
use Rattle.rules.proofs.Counting.{plan_makes_hold}
use Rattle.rules.proofs.Distinct.{Distinct}
use Rattle.rules.proofs.Invariant.{Told, Lasting, Invariant}
use Rattle.rules.proofs.Keeping.{count_insert, all_zip, all_both}
use Rattle.rules.proofs.Missing.{run_late}
use Rattle.rules.proofs.Noting.{all_counted}
use Rattle.rules.proofs.Orders.{ready_ordered}
use Rattle.rules.proofs.Planning.{limits_followed}
use Rattle.rules.proofs.Reaching.{KeptBy, starts, reached}
use Rattle.rules.proofs.Working.{order_serves, order_exists}

module _ (ρ : Parts) (laws : LawfulParts ρ) (s : State) (js : List Job) (seen : ℕ → Bool) (last : ℕ → ℕ) (i : Invariant ρ s js seen last) where
  pub ready_distinct : Distinct s.ready
  ready_distinct n = let e = i.books.each n in let o = i.books.once n in omega arith

  -- the ready jobs with a parked one among them
  with_parked : (p : Job) → 1 ≤ count (has (number p)) s.parked → Distinct (place ρ p s.ready)
  with_parked p stands n =
      let more = count_insert (has n) (ready_order ρ) p s.ready in
      let e = i.books.each n in
      let o = i.books.once n in
      elim (cases_Bool (has n p)) [
        | inl is ↦ let there : 1 ≤ count (has n) s.parked = subst (λ m. 1 ≤ count (has m) s.parked) (eqb-true _ n is) stands in let first = cond-true {A = ℕ} (has n p) 1 0 is in omega arith
        | inr isnt ↦ let first = cond-false {A = ℕ} (has n p) 1 0 isnt in omega arith
      ]

  -- by the limits no plan holds a parked job as well
  no_plan : (p : Job) → (1 ≤ count (has (number p)) s.parked) × Lasting p → fits ρ s.clock s.ready p ≡ false → FollowsLimits (place ρ p s.ready) → (q : Plan) → PlanHolds q s.clock (place ρ p s.ready) → ⊥
  no_plan p h no_room follows q plan =
      let lasting = all_insert (ready_order ρ) p (λ j. 1 ≤ j.remaining) s.ready h.1.0 (All-weaker Lasting _ (λ j l. l.0) s.ready i.times.lasting_ready) in
      both_ways _ no_room (plan_makes_hold q s.clock (place ρ p s.ready) (with_parked p h.0) lasting follows plan)

  pub none_planned : Every (λ p. FollowsLimits (place ρ p s.ready) → (q : Plan) → PlanHolds q s.clock (place ρ p s.ready) → ⊥) s.parked
  none_planned = all_zip _ _ _ no_plan s.parked (all_both _ _ s.parked (all_counted number s.parked) i.times.lasting_parked) i.full

-- a line is explained by the history that the moments tell
explained_by : (ms : List Moment) (e : Ending) (k : EndKind) → Told (λ n. was_ready n false ms) (λ n. displacer n 0 ms) e k → Explained ms e k
explained_by ms e InTime h = tt
explained_by ms e Missed h = h
explained_by ms e Withdrawn h = tt

sound : (ρ : Parts) (laws : LawfulParts ρ) (s : State) (ms : List Moment) → KeptBy ρ s ms [] (λ n. false) (λ n. 0) → Every MissedLate ms → Sound ρ s ms
sound ρ laws s ms i late =
    let js = owed ms [] in
    let seen : ℕ → Bool = λ n. was_ready n false ms in
    let last : ℕ → ℕ = λ n. displacer n 0 ms in
    let apart = ready_distinct ρ laws s js seen last i in
    record {
      stands = record { each = i.books.each; once = i.books.once; same = All-append _ s.ready s.parked i.books.same_ready i.books.same_parked };
      ranked = record { by_order = i.times.by_order; by_parking = i.times.by_parking; by_tick = i.times.by_tick };
      lasting = All-append Lasting s.ready s.parked i.times.lasting_ready i.times.lasting_parked;
      kept = i.times.kept;
      worked = λ q in_turn. order_serves q s.clock s.ready apart i.times.kept in_turn;
      workable = order_exists s.clock s.ready apart;
      full = i.full;
      no_plan = none_planned ρ laws s js seen last i;
      fair = λ a. arrive_fair ρ laws s js seen last i a;
      placed = λ a. arrive_placed ρ laws s js seen last i a;
      displaced = λ a. arrive_displaces ρ laws s js seen last i a;
      timely = i.books.lines;
      late = late;
      explained = All-weaker _ _ (λ e h. explained_by ms e e.kind h) s.ended i.story.told;
    }

pub every_run_is_sound : EveryRunIsSound
every_run_is_sound ρ laws ks = sound ρ laws (after ρ start ks) (trace ρ start ks) (reached ρ laws ks) (run_late ρ laws ks start [] (λ n. false) (λ n. 0) (starts ρ laws))

-- ONE CALL MORE

pub after_append : (ρ : Parts) (ks ls : List Call) (s : State) → after ρ s (ks ++ ls) ≡ after ρ (after ρ s ks) ls
after_append ρ [] ls s = refl
after_append ρ (k ∷ ks) ls s = after_append ρ ks ls (serve ρ s k).state

trace_append : (ρ : Parts) (ks ls : List Call) (s : State) → trace ρ s (ks ++ ls) ≡ trace ρ s ks ++ trace ρ (after ρ s ks) ls
trace_append ρ [] ls s = refl
trace_append ρ (k ∷ ks) ls s = ap (λ ms. moments ρ s k ++ ms) (trace_append ρ ks ls (serve ρ s k).state) ∙ sym (append_assoc (moments ρ s k) _ _)

one_more : (ρ : Parts) (s : State) (k : Call) (ms : List Moment) → Reached ρ s ms → Reached ρ (serve ρ s k).state (ms ++ moments ρ s k)
one_more ρ s k ms r =
    let ks = r.0 in (
      ks ++ (k ∷ []),
      after_append ρ ks (k ∷ []) start ∙ ap (λ w. (serve ρ w k).state) r.1,
      trace_append ρ ks (k ∷ []) start ∙ ap (λ l. trace ρ start ks ++ l) (append-nil (moments ρ (after ρ start ks) k)) ∙ (λ x. r.2 x ++ moments ρ (r.1 x) k),
    )

sound_reached : (ρ : Parts) → LawfulParts ρ → (s : State) (ms : List Moment) → Reached ρ s ms → Sound ρ s ms
sound_reached ρ laws s ms r = subst (λ (T : Type 0). T) (λ x. Sound ρ (r.1 x) (r.2 x)) (every_run_is_sound ρ laws r.0)

pub every_call_keeps : EveryCallKeeps
every_call_keeps ρ laws s k =
    record {
      sound = λ ms r. sound_reached ρ laws (serve ρ s k).state (ms ++ moments ρ s k) (one_more ρ s k ms r);
      reached = λ ms r. one_more ρ s k ms r;
    }

-- BY EARLIER LIMIT

pub no_plan_by_limit : NoPlanByLimit
no_plan_by_limit ρ laws is ks =
    let s = after ρ start ks in
    let i = reached ρ laws ks in
    All-weaker _ _ (λ p none q plan. none (limits_followed_by (place ρ p s.ready) (insert_sorted (ready_order ρ) (ready_ordered ρ laws) p s.ready i.times.by_order)) q plan) s.parked
    (none_planned ρ laws s _ _ _ i)
  where
    limits_followed_by : (js : List Job) → Sorted (ready_order ρ) js → FollowsLimits js
    limits_followed_by js sorted = limits_followed js (subst (λ o. Sorted (before (by_mark o) number) js) is sorted)
