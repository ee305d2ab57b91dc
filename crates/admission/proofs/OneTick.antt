-- One tick, put together from its steps; where the fields are in their ranges none of them is refused.
use Rattle.std.proofs.Common.{◌≡◌, ℕ, ◌+◌, ◌≤◌, Bool, true, false, cond, length, sym, ap, ◌∙◌, subst, arith}
use Rattle.std.proofs.ByRecursion.{All-weaker}
use Rattle.std.specs.List.{AllByRecursion as Every}
use Rattle.rules.proofs.Fields.{fields_worked, fields_expired}
use Rattle.rules.specs.Calls.{expire, tick}
use Rattle.rules.specs.Giving.{swept}
use Rattle.rules.specs.Ranges.{JobInRange, Fields}
use Rattle.rules.specs.States.{Parts, LawfulParts, State}
use Rattle.admission.specs.Steps.{state, Lasting, FirstWorked}

pub all_lasting : (s : State) → Fields s → Every Lasting s.ready
all_lasting s f = All-weaker (JobInRange s.clock) Lasting (λ j h. h.remaining) s.ready f.ready

-- the clock rose from u
pub begun : (s after : State) (done : Bool) (u : ℕ) → s.clock ≡ u + 1 → FirstWorked s after done → FirstWorked (state (u + 1) s.ready s.parked s.ended) after done
begun s after done u is w = subst (λ n. FirstWorked (state n s.ready s.parked s.ended) after done) is w

-- from s the clock rises, and the first job is worked
module _ (ρ : Parts) (laws : LawfulParts ρ) (s : State) (f : Fields s) (after : State) (done : Bool) (w : FirstWorked (state (s.clock + 1) s.ready s.parked s.ended) after done) where
  worked_fields : Fields after
  worked_fields =
      subst Fields w.state
      (fields_worked ρ laws s s.ready f.few f.ready (All-weaker Lasting (λ j. 1 ≤ j.remaining) (λ j h. h.0) s.ready (all_lasting s f)) f.parked f.lines)

  pub room_to_expire : length after.parked + length after.ended ≤ 64
  room_to_expire = let few = worked_fields.few in omega arith

  module _ (then : State) (x : expire after ≡ then) where
    expired_fields : Fields then
    expired_fields = subst Fields x (fields_expired ρ laws after worked_fields)

    pub room_to_sweep : length then.ready + length then.parked ≤ 64
    room_to_sweep = let few = expired_fields.few in omega arith

    so_far : (b : Bool) → done ≡ b → tick ρ s ≡ cond b (swept ρ then) then
    so_far b is = (λ k. cond ((sym w.done ∙ is) k) (swept ρ (expire (w.state k))) (expire (w.state k))) ∙ ap (λ t. cond b (swept ρ t) t) x

    -- no job ended
    pub tick_goes_on : done ≡ false → tick ρ s ≡ then
    tick_goes_on no' = so_far false no'

    -- the first job ended, and the sweep ran
    pub tick_sweeps : (last : State) → done ≡ true → swept ρ then ≡ last → tick ρ s ≡ last
    tick_sweeps last yes' sw = so_far true yes' ∙ sw
