-- Work, from its ticks to what the call promises.
use Rattle.std.proofs.Common.{◌≡◌, ℕ, ◌+◌, ◌<◌, ◌≤◌, true, false, refl, arith}
use Rattle.jobs.specs.declared.refusal.Refusal.TheVariants.{Range, Horizon}
use Rattle.rules.specs.Calls.{between}
use Rattle.rules.specs.Ranges.{Fields}
use Rattle.rules.specs.States.{Parts, LawfulParts, State, work, Answer, now_at, refused}
use Rattle.scheduler.specs.Serving.{Serves}
use Rattle.scheduler.proofs.Answering.{work_range, work_horizon}
use Rattle.scheduler.proofs.Checking.{in_range_fields}
use Rattle.scheduler.proofs.Exactly.{work_exact, work_heard}
use Rattle.scheduler.proofs.Promising.{turned_down, taken_on}
use Rattle.scheduler.proofs.TickByTick.{Worked, worked_all}

module _ (ρ : Parts) (laws : LawfulParts ρ) (s : State) (n : ℕ) where
  pub work_outside : between 1 10000 n ≡ false → Serves ρ s (work n) (refused Range) s
  work_outside out = turned_down ρ laws s (work n) Range (work_range ρ s n out)

  module _ (within : between 1 10000 n ≡ true) where
    pub work_past : 1000000000 < s.clock + n → Serves ρ s (work n) (refused Horizon) s
    work_past past = turned_down ρ laws s (work n) Horizon (work_horizon ρ s n within past)

    module _ (room : s.clock + n ≤ 1000000000) (w : State) (i : ℕ) (so_far : Worked ρ s n w i) where
      pub work_did : n ≤ i → Serves ρ s (work n) (now_at w.clock) w
      work_did past =
          taken_on ρ laws s (work n) (now_at w.clock) w
          (λ range. work_exact ρ s n w.clock w within room (worked_all ρ laws s n w i past so_far (in_range_fields s range)) refl)
          (work_heard ρ s n within room)

      -- a tick is refused in no state in range
      pub work_stuck : i < n → (r : Answer) (s' : State) → (Fields w → 1000000000 ≤ w.clock) → Serves ρ s (work n) r s'
      work_stuck on r s' stuck =
          taken_on ρ laws s (work n) r s'
          (λ range. absurd (let at = so_far.clock in omega (arith, stuck (so_far.fields (in_range_fields s range)))))
          (work_heard ρ s n within room)
