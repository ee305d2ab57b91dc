-- A walk through a list of jobs into which one more is put when its turn comes.
use Rattle.std.specs.Prelude.{◌≡◌, ℕ, ◌+◌, ◌<◌, ◌≤◌, Bool, cond, ◌&&◌, List, length, Some, Option, Ok, Err, Result, is_none, nat_eq}
use Rattle.jobs.specs.declared.job.Job.{Job}
use Rattle.jobs.specs.declared.refusal.Refusal.{Refusal}
use Rattle.rankings.specs.Ranked.{insert, place_of}
use Rattle.timing.specs.Overruns.{exceeding_of, cause_of}
use Rattle.timing.specs.Tallies.{Tally, counted}
use Rattle.timing.specs.Timing.{holds, exceeding, cause}
use Rattle.admission.specs.declared.trial.Trial.{Trial}
use Rattle.admission.specs.declared.trial.Walk.{Walk}

-- how far a walk has come
pub record Turn : Type 0 where
  pub tally : Tally
  -- the place of the job, once it has been put in
  pub place : Option ℕ

abbrev pub turn : Walk → Turn
turn w = record { tally = w.timeline; place = w.place }

-- the job put in here
abbrev pub put : Job → Turn → Turn
put j w = record { tally = counted w.tally j; place = Some w.tally.jobs }

abbrev pub gone_by : Job → Turn → Turn
gone_by r w = record { tally = counted w.tally r; place = w.place }

-- on to the job r of the list, and before it to j if its turn has come
abbrev pub passed : (Job → Job → Bool) → Job → Turn → Job → Turn
passed first j w r = gone_by r (cond (is_none w.place && first j r) (put j w) w)

-- a job whose turn did not come stands last
abbrev pub closed : Job → Turn → Turn
closed j w = cond (is_none w.place) (put j w) w

-- the jobs so far, and j
abbrev pub with_it : Turn → ℕ
with_it w = cond (is_none w.place) 1 0 + w.tally.jobs

abbrev pub Puts : Job → Turn → Turn → Result ℕ Refusal → Type 0
Puts j was is (Ok p) = (p ≡ was.tally.jobs) × (is ≡ put j was)
Puts j was is (Err e) = 64 ≤ was.tally.jobs

abbrev pub Passes : (Job → Job → Bool) → Job → Turn → Job → Turn → Result (Unit {0}) Refusal → Type 0
Passes first j was r is (Ok _) = is ≡ passed first j was r
Passes first j was r is (Err e) = 64 ≤ with_it was

-- what a walk that has come to the end of its list found for j
pub record Finished (j : Job) (w : Turn) (x : Trial) : Type 0 where
  pub at : (closed j w).place ≡ Some x.place
  pub exceeding : exceeding_of x.overrun ≡ (closed j w).tally.exceeding
  pub cause : cause_of x.overrun ≡ (closed j w).tally.cause

abbrev pub Finishes : Job → Turn → Result Trial Refusal → Type 0
Finishes j was (Ok x) = Finished j was x
Finishes j was (Err e) = 64 < with_it was

-- what a trial finds of the list rs with j put in by the order `first`, worked from the tick t on
pub record Tried (first : Job → Job → Bool) (t : ℕ) (j : Job) (rs : List Job) (x : Trial) : Type 0 where
  pub at : x.place ≡ place_of first j rs
  pub exceeding : exceeding_of x.overrun ≡ exceeding t (insert first j rs)
  pub cause : cause_of x.overrun ≡ cause t (insert first j rs)
  pub fits : nat_eq (exceeding_of x.overrun) 0 ≡ holds t (insert first j rs)

-- a trial is refused only where there is no room for j
abbrev pub Tries : (Job → Job → Bool) → ℕ → Job → List Job → Result Trial Refusal → Type 0
Tries first t j rs (Ok x) = Tried first t j rs x
Tries first t j rs (Err e) = 64 ≤ length rs
