-- A plan makes a list hold: the ticks of a span that all its jobs get together are no more than the span.
use Rattle.std.proofs.Common.{◌≡◌, ℕ, zero, suc, ◌+◌, ◌-◌, ◌≤◌, true, leb, List, [], ◌∷◌, refl, arith}
use mathlib.Core.Option.{Option, none, some}
use Rattle.std.proofs.ByRecursion.{All-weaker}
use Rattle.std.proofs.lemmas.Bool.{and_from, le-leb}
use Rattle.std.specs.List.{AllByRecursion as Every}
use Rattle.jobs.specs.declared.job.Job.{Job}
use Rattle.jobs.specs.Records.{number, limit}
use Rattle.timing.specs.Timing.{holds}
use Rattle.rules.specs.Lists.{count}
use Rattle.rules.specs.Plans.{Plan, given, ticks, Served, PlanHolds, FollowsLimits}
use Rattle.rules.proofs.Distinct.{Distinct, distinct_rest}
use Rattle.rules.proofs.Ticks.{ticks_most, ticks_none, ticks_upto}

-- the ticks of all the jobs of a list
abbrev ticks_all : Plan → ℕ → ℕ → List Job → ℕ
ticks_all p t k [] = 0
ticks_all p t k (j ∷ js) = ticks p (number j) t k + ticks_all p t k js

-- a tick is given at most once
given_once : (o : Option ℕ) (js : List Job) → Distinct js → count (λ j. given o (number j)) js ≤ 1
given_once none [] apart = omega arith
given_once none (j ∷ js) apart = let ih = given_once none js (distinct_rest j js apart) in omega arith
given_once (some m) js apart = apart m

ticks_all_none : (p : Plan) (t : ℕ) (js : List Job) → ticks_all p t 0 js ≡ 0
ticks_all_none p t [] = refl
ticks_all_none p t (j ∷ js) = let ih = ticks_all_none p t js in omega arith

ticks_all_more : (p : Plan) (t k : ℕ) (js : List Job) → ticks_all p t (suc k) js ≡ count (λ j. given (p t) (number j)) js + ticks_all p (suc t) k js
ticks_all_more p t k [] = omega arith
ticks_all_more p t k (j ∷ js) = let ih = ticks_all_more p t k js in omega arith

ticks_all_most : (p : Plan) (t k : ℕ) (js : List Job) → Distinct js → ticks_all p t k js ≤ k
ticks_all_most p t zero js apart = let no_ticks = ticks_all_none p t js in omega arith
ticks_all_most p t (suc k) js apart =
    let more = ticks_all_more p t k js in
    let once = given_once (p t) js apart in
    let ih = ticks_all_most p (suc t) k js apart in
    omega arith

-- a job that is served by `end` has had its ticks at any later tick too
served_later : (p : Plan) (t end e : ℕ) (j : Job) → 1 ≤ j.remaining → Served p t end j → end ≤ e → ticks p (number j) t (e - t) ≡ j.remaining
served_later p t end e j some_left s later =
    let within = ticks_most p (number j) t (end - t) in
    let begun : t ≤ end = omega arith in
    let after = ticks_none p (number j) end (e - end) (λ u from _. s.none_after u from) in
    let whole = ticks_upto p (number j) t end e begun later in
    omega arith

-- the jobs before the list take `sum` ticks, all of them by `passed`, and leave room for those of the list
abbrev Room : Plan → ℕ → ℕ → ℕ → List Job → Type 0
Room q t sum passed js = (e : ℕ) → passed ≤ e → sum + ticks_all q t (e - t) js ≤ e - t

module _ (q : Plan) (t : ℕ) where
  room_more : (sum passed : ℕ) (j : Job) (js : List Job) → 1 ≤ j.remaining → passed ≤ limit j → Served q t (limit j) j → Room q t sum passed (j ∷ js) → Room q t (sum + j.remaining) (limit j) js
  room_more sum passed j js left later served room e past =
      let whole = served_later q t (limit j) e j left served past in
      let all = room e (omega arith) in
      omega arith

  -- `from` is the tick at which the first job of the list begins
  makes_hold : (sum passed from : ℕ) (js : List Job) → from ≡ t + sum → Every (λ j. 1 ≤ j.remaining) js → Every (λ j. passed ≤ limit j) js → FollowsLimits js → PlanHolds q t js → Room q t sum passed js → holds from js ≡ true
  makes_hold sum passed from [] at left later follows served room = refl
  makes_hold sum passed from (j ∷ js) at left later follows served room =
      let more = room_more sum passed j js left.0 later.0 served.0 room in
      let here = more (limit j) (omega arith) in
      let rest = makes_hold (sum + j.remaining) (limit j) (from + j.remaining) js (omega arith) left.1 follows.0 follows.1 served.1 more in
      and_from (leb (from + j.remaining) (limit j)) (holds (from + j.remaining) js) (le-leb (from + j.remaining) (limit j) (omega arith)) rest

pub plan_makes_hold : (q : Plan) (t : ℕ) (js : List Job) → Distinct js → Every (λ j. 1 ≤ j.remaining) js → FollowsLimits js → PlanHolds q t js → holds t js ≡ true
plan_makes_hold q t js apart left follows served =
    let start : Room q t 0 0 js = λ e _. let most = ticks_all_most q t (e - t) js apart in omega arith in
    let later = All-weaker (λ j. 1 ≤ j.remaining) (λ j. 0 ≤ limit j) (λ j _. omega arith) js left in
    makes_hold q t 0 0 t js (omega arith) left later follows served start
