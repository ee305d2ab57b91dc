-- The ranges of a state: how a sweep, an ending and a tick keep them.
use Rattle.std.proofs.Common.{◌≡◌, ℕ, ◌+◌, ◌≤◌, not, eqb, List, [], ◌∷◌, map, length, filter, refl, arith}
use Rattle.std.proofs.ByRecursion.{All-weaker}
use Rattle.std.proofs.lemmas.Bool.{cond_both, eqb-false}
use Rattle.std.specs.List.{AllByRecursion as Every}
use Rattle.jobs.specs.declared.ending.EndKind.{EndKind}
use Rattle.jobs.specs.declared.ending.EndKind.TheVariants.{InTime, Missed}
use Rattle.jobs.specs.declared.ending.Ending.{Ending}
use Rattle.jobs.specs.declared.job.Job.{Job}
use Rattle.rankings.proofs.Placing.{all_insert}
use Rattle.rules.specs.Calls.{ends, shorter, late, worked, last_tick, expire, tick}
use Rattle.rules.specs.Giving.{sweep, swept}
use Rattle.rules.specs.Lists.{some}
use Rattle.rules.specs.Ranges.{JobInRange, LineInRange, Fields}
use Rattle.rules.specs.States.{Parts, LawfulParts, ended_order, State}
use Rattle.rules.proofs.Keeping.{count_all, all_insert_all, all_kept, all_mapped}
use Rattle.rules.proofs.Sweeping.{sweep_count, sweep_all_ready, sweep_all_parked}
use Rattle.rules.proofs.Lengths.{all_of_them, length_insert, length_insert_all}
use Rattle.std.proofs.lemmas.List.{length-map}
use Rattle.std.proofs.lemmas.List.Filters.{length-filter_both}

-- a job or a line stays in range as the clock rises
pub job_later : (t u : ℕ) → t ≤ u → (j : Job) → JobInRange t j → JobInRange u j
job_later t u le j h =
    record {
      number = h.number;
      arrival = let a = h.arrival in omega arith;
      deadline = h.deadline;
      tolerance = h.tolerance;
      value = h.value;
      computation = h.computation;
      remaining = h.remaining;
      by = h.by;
    }

pub line_later : (t u : ℕ) → t ≤ u → (e : Ending) → LineInRange t e → LineInRange u e
line_later t u le e h = record { number = h.number; tick = let a = h.tick in omega arith; by = h.by }

-- the line of a job in range
pub line_in_range : (t u : ℕ) (k : EndKind) → u ≤ t → (j : Job) → JobInRange t j → LineInRange t (ends u k j)
line_in_range t u k le j h = record { number = h.number; tick = le; by = h.by }

module _ (ρ : Parts) (laws : LawfulParts ρ) where
  pub fields_swept : (s : State) → Fields s → Fields (swept ρ s)
  fields_swept s f =
      let w = sweep ρ s.clock s.ready s.parked in
      let moved = sweep_count ρ laws all_of_them s.clock s.ready s.parked in
      let a = count_all w.ready in
      let b = count_all w.parked in
      let c = count_all s.ready in
      let d = count_all s.parked in
      record {
        few = let was = f.few in omega arith;
        ready = sweep_all_ready ρ laws (JobInRange s.clock) s.clock s.ready s.parked f.ready f.parked;
        parked = sweep_all_parked ρ laws (JobInRange s.clock) s.clock s.ready s.parked f.parked;
        lines = f.lines;
      }

  pub fields_expired : (s : State) → Fields s → Fields (expire s)
  fields_expired s f =
      let lates = filter (late s.clock) s.parked in
      let gone = length_insert_all ended_order (map (ends s.clock Missed) lates) s.ended in
      let made = length-map lates (ends s.clock Missed) in
      let split = length-filter_both (late s.clock) _ (λ _. refl) s.parked in
      record {
        few = let was = f.few in omega arith;
        ready = f.ready;
        parked = all_kept _ (λ j. not (late s.clock j)) s.parked f.parked;
        lines = all_insert_all _ ended_order (map (ends s.clock Missed) lates) s.ended
            (all_mapped (LineInRange s.clock) (ends s.clock Missed) lates (All-weaker (JobInRange s.clock) _ (line_in_range s.clock s.clock Missed (omega arith)) lates (all_kept _ (late s.clock) s.parked f.parked)))
            f.lines;
      }

  pub fields_worked : (s : State) (rs : List Job) → length rs + (length s.parked + length s.ended) ≤ 64 → Every (JobInRange s.clock) rs → Every (λ j. 1 ≤ j.remaining) rs → Every (JobInRange s.clock) s.parked → Every (LineInRange s.clock) s.ended → Fields (worked (s.clock + 1) s rs)
  fields_worked s [] few ready some parked lines =
      let t = s.clock in
      record { few = few; ready = tt; parked = All-weaker _ _ (job_later t (t + 1) (omega arith)) s.parked parked; lines = All-weaker _ _ (line_later t (t + 1) (omega arith)) s.ended lines }
  fields_worked s (j ∷ js) few ready some parked lines =
      let t = s.clock in
      let rest = All-weaker (JobInRange t) _ (job_later t (t + 1) (omega arith)) js ready.1 in
      let parked' = All-weaker (JobInRange t) _ (job_later t (t + 1) (omega arith)) s.parked parked in
      let lines' = All-weaker (LineInRange t) _ (line_later t (t + 1) (omega arith)) s.ended lines in
      let here = job_later t (t + 1) (omega arith) j ready.0 in
      let line = ends (t + 1) InTime j in
      cond_both (eqb j.remaining 1) _ _ Fields
      (λ _. let more = length_insert ended_order line s.ended in record { few = omega arith; ready = rest; parked = parked'; lines = all_insert ended_order line _ s.ended (line_in_range (t + 1) (t + 1) InTime (omega arith) j here) lines' })
      (λ more. record { few = few; ready = (shortened j here some.0 (eqb-false _ 1 more), rest); parked = parked'; lines = lines' })
    where
      shortened : {t : ℕ} (j : Job) → JobInRange t j → 1 ≤ j.remaining → (j.remaining ≡ 1 → ⊥) → JobInRange t (shorter j)
      shortened j h some more =
          record {
            number = h.number;
            arrival = h.arrival;
            deadline = h.deadline;
            tolerance = h.tolerance;
            value = h.value;
            computation = h.computation;
            remaining = let r = h.remaining in (omega arith, omega arith);
            by = h.by;
          }

  pub fields_ticked : (s : State) → Every (λ j. 1 ≤ j.remaining) s.ready → Fields s → Fields (tick ρ s)
  fields_ticked s some f =
      let w = expire (worked (s.clock + 1) s s.ready) in
      let there = fields_expired (worked (s.clock + 1) s s.ready) (fields_worked s s.ready f.few f.ready some f.parked f.lines) in
      cond_both (last_tick s.ready) (swept ρ w) w Fields (λ _. fields_swept w there) (λ _. there)

  pub worked_clock : (t : ℕ) (s : State) (rs : List Job) → (worked t s rs).clock ≡ t
  worked_clock t s [] = refl
  worked_clock t s (j ∷ rs) = cond_both {A = State} (eqb j.remaining 1) _ _ (λ w. w.clock ≡ t) (λ _. refl) (λ _. refl)

  pub tick_clock : (s : State) → (tick ρ s).clock ≡ s.clock + 1
  tick_clock s =
      let w = expire (worked (s.clock + 1) s s.ready) in
      let there = worked_clock (s.clock + 1) s s.ready in
      cond_both (last_tick s.ready) (swept ρ w) w (λ v. v.clock ≡ s.clock + 1) (λ _. there) (λ _. there)
