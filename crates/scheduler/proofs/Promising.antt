-- A call that in range does what the rules say keeps the promise.
use Rattle.std.proofs.Common.{◌≡◌, Bool, true, false, List, ◌++◌, sym, refl, ap, ◌∙◌, subst}
use Rattle.jobs.specs.declared.refusal.Refusal.{Refusal}
use Rattle.rules.specs.Calls.{serve}
use Rattle.rules.specs.Promise.{Sound, Reached}
use Rattle.rules.specs.Ranges.{InRange}
use Rattle.rules.specs.Runs.{Moment, moments}
use Rattle.rules.specs.States.{Parts, LawfulParts, State, Call, Answer, ready, parked, now_at, saved, gone, line, refused, answers}
use Rattle.rules.proofs.Ranging.{every_run_in_range}
use Rattle.rules.proofs.Sounding.{every_call_keeps}
use Rattle.scheduler.specs.Serving.{Refuses, Serves}

-- a state that calls on a new scheduler lead to is in range
pub reached_in_range : (ρ : Parts) → LawfulParts ρ → (s : State) (ms : List Moment) → Reached ρ s ms → InRange s
reached_in_range ρ laws s ms by = subst InRange by.1 (every_run_in_range ρ laws by.0)

pub promised : (ρ : Parts) → LawfulParts ρ → (s : State) (k : Call) (r : Answer) (s' : State) → (InRange s → serve ρ s k ≡ answers r s') → Refuses ρ s k r s' → Serves ρ s k r s'
promised ρ laws s k r s' exact refusal =
    let keeps = every_call_keeps ρ laws s k in
    record {
      exact = exact;
      sound = λ ms by. subst (λ w. Sound ρ w (ms ++ moments ρ s k)) (leads ms by) (keeps.sound ms by);
      reached = λ ms by. subst (λ w. Reached ρ w (ms ++ moments ρ s k)) (leads ms by) (keeps.reached ms by);
      refusal = refusal;
    }
  where
    leads : (ms : List Moment) → Reached ρ s ms → (serve ρ s k).state ≡ s'
    leads ms by = ap (λ o. o.state) (exact (reached_in_range ρ laws s ms by))

-- a call that the rules refuse, refused
pub turned_down : (ρ : Parts) → LawfulParts ρ → (s : State) (k : Call) (e : Refusal) → serve ρ s k ≡ answers (refused e) s → Serves ρ s k (refused e) s
turned_down ρ laws s k e is = promised ρ laws s k (refused e) s (λ _. is) (λ e' h. (sym (ap (λ o. o.answer) is) ∙ h, refl))

-- a call that the rules do not refuse
pub taken_on : (ρ : Parts) → LawfulParts ρ → (s : State) (k : Call) (r : Answer) (s' : State) → (InRange s → serve ρ s k ≡ answers r s') → ((e : Refusal) → (serve ρ s k).answer ≡ refused e → ⊥) → Serves ρ s k r s'
taken_on ρ laws s k r s' exact heard = promised ρ laws s k r s' exact (λ e h. absurd (heard e h))

-- an answer that is no refusal
abbrev pub is_refusal : Answer → Bool
is_refusal (ready e w n) = false
is_refusal (parked e w n) = false
is_refusal (now_at t) = false
is_refusal (saved c) = false
is_refusal gone = false
is_refusal (line x) = false
is_refusal (refused e) = true

pub no_refusal : (r : Answer) (e : Refusal) → is_refusal r ≡ false → r ≡ refused e → ⊥
no_refusal r e isnt is = let so = ap is_refusal is in cc
