-- Finish and withdraw, from what is found of the job in the lists to what the call promises.
use Rattle.std.proofs.Common.{◌≡◌, ℕ, ◌<◌, ◌≤◌, true, false, length, Ok, Err, sym, ap, ◌∙◌, subst, arith}
use Rattle.jobs.specs.declared.ending.EndKind.TheVariants.{InTime, Withdrawn}
use Rattle.jobs.specs.declared.job.Job.{Job}
use Rattle.jobs.specs.declared.refusal.Refusal.{Refusal}
use Rattle.jobs.specs.declared.refusal.Refusal.TheVariants.{Range, Unknown, Waiting}
use Rattle.rules.specs.Calls.{serve}
use Rattle.rules.specs.Lists.{some}
use Rattle.rules.specs.States.{Parts, LawfulParts, State, Call, finish, withdraw, Answer, saved, gone, refused, answers, has, population}
use Rattle.stores.specs.Tables.{known}
use Rattle.admission.proofs.Among.{known_some}
use Rattle.admission.specs.Steps.{ReadyEnded, ParkedEnded}
use Rattle.scheduler.specs.Calling.{NumberedSo}
use Rattle.scheduler.specs.Serving.{Serves}
use Rattle.scheduler.proofs.Answering.{finish_range, finish_unknown, finish_not_first, finish_parked, withdraw_range, withdraw_unknown, pending_ready, pending_parked}
use Rattle.scheduler.proofs.Checking.{in_range_ready_once, in_range_parked_once}
use Rattle.scheduler.proofs.Exactly.{finish_exact, finish_heard, withdraw_ready_exact, withdraw_parked_exact, withdraw_heard}
use Rattle.scheduler.proofs.Picking.{Found, found_some}
use Rattle.scheduler.proofs.Promising.{turned_down, taken_on}

module _ (ρ : Parts) (laws : LawfulParts ρ) (s : State) (n : ℕ) where
  -- a call that the rules refuse so
  turned_so : (k : Call) (e e' : Refusal) → e ≡ e' → serve ρ s k ≡ answers (refused e') s → Serves ρ s k (refused e) s
  turned_so k e e' same is = turned_down ρ laws s k e (is ∙ ap (λ x. answers (refused x) s) (sym same))

  -- FINISH

  pub finish_out : (e : Refusal) → NumberedSo n (Err e) → Serves ρ s (finish n) (refused e) s
  finish_out e h = turned_so (finish n) e Range h.1 (finish_range ρ s n h.0)

  module _ (m : ℕ) (named : NumberedSo n (Ok m)) where
    pub finish_none : some (has m) s.ready ≡ false → known (λ j. j.mark.number) m s.parked ≡ false → Serves ρ s (finish n) (refused Unknown) s
    finish_none unready unparked =
        let same = named.1 in
        turned_down ρ laws s (finish n) Unknown (finish_unknown ρ s n named.0 (rw same at unready) (rw same at (sym (known_some m s.parked) ∙ unparked)))

    pub finish_waits : some (has m) s.ready ≡ false → known (λ j. j.mark.number) m s.parked ≡ true → Serves ρ s (finish n) (refused Waiting) s
    finish_waits unready there =
        let same = named.1 in
        turned_down ρ laws s (finish n) Waiting (finish_parked ρ s n named.0 (rw same at unready) (rw same at (sym (known_some m s.parked) ∙ there)))

    pub finish_later : (p : ℕ) → Found m s.ready p → 0 < p → Serves ρ s (finish n) (refused Waiting) s
    finish_later p found late = turned_down ρ laws s (finish n) Waiting (finish_not_first ρ s n p named.0 (subst (λ x. Found x s.ready p) named.1 found) late)

    module _ (p : ℕ) (found : Found m s.ready p) (first : p ≡ 0) where
      there : Found n s.ready 0
      there = subst (λ x. Found x s.ready 0) named.1 (subst (Found m s.ready) first found)

      pub finish_done : (s' : State) (j : Job) → ReadyEnded ρ p InTime s s' j → Serves ρ s (finish n) (saved j.remaining) s'
      finish_done s' j done =
          taken_on ρ laws s (finish n) (saved j.remaining) s'
          (λ _. finish_exact ρ s n s' j named.0 there (subst (λ q. ReadyEnded ρ q InTime s s' j) first done))
          (finish_heard ρ s n named.0 there)

      pub finish_full : (r : Answer) (s' : State) → (p < length s.ready → 64 < population s) → Serves ρ s (finish n) r s'
      finish_full r s' full =
          taken_on ρ laws s (finish n) r s'
          (λ range. absurd (let few = range.few in omega (arith, full found.0)))
          (finish_heard ρ s n named.0 there)

  -- WITHDRAW

  pub withdraw_out : (e : Refusal) → NumberedSo n (Err e) → Serves ρ s (withdraw n) (refused e) s
  withdraw_out e h = turned_so (withdraw n) e Range h.1 (withdraw_range ρ s n h.0)

  module _ (m : ℕ) (named : NumberedSo n (Ok m)) where
    pub withdraw_none : some (has m) s.ready ≡ false → some (has m) s.parked ≡ false → Serves ρ s (withdraw n) (refused Unknown) s
    withdraw_none unready unparked =
        let same = named.1 in
        turned_down ρ laws s (withdraw n) Unknown (withdraw_unknown ρ s n named.0 (rw same at unready) (rw same at unparked))

    module _ (p : ℕ) (found : Found m s.ready p) where
      ready_there : Found n s.ready p
      ready_there = subst (λ x. Found x s.ready p) named.1 found

      pub withdraw_done : (s' : State) (j : Job) → ReadyEnded ρ p Withdrawn s s' j → Serves ρ s (withdraw n) gone s'
      withdraw_done s' j done =
          taken_on ρ laws s (withdraw n) gone s'
          (λ range. withdraw_ready_exact ρ s n p s' j named.0 (in_range_ready_once s range) ready_there done)
          (withdraw_heard ρ s n named.0 (pending_ready s n (found_some n s.ready p ready_there)))

      pub withdraw_full : (r : Answer) (s' : State) → (p < length s.ready → 64 < population s) → Serves ρ s (withdraw n) r s'
      withdraw_full r s' full =
          taken_on ρ laws s (withdraw n) r s'
          (λ range. absurd (let few = range.few in omega (arith, full found.0)))
          (withdraw_heard ρ s n named.0 (pending_ready s n (found_some n s.ready p ready_there)))

    module _ (unready : some (has m) s.ready ≡ false) (p : ℕ) (found : Found m s.parked p) where
      parked_there : Found n s.parked p
      parked_there = subst (λ x. Found x s.parked p) named.1 found

      pub withdraw_parked_done : (s' : State) (j : Job) → ParkedEnded p Withdrawn s s' j → Serves ρ s (withdraw n) gone s'
      withdraw_parked_done s' j done =
          let same = named.1 in
          taken_on ρ laws s (withdraw n) gone s'
          (λ range. withdraw_parked_exact ρ s n p s' j named.0 (rw same at unready) (in_range_parked_once s range) parked_there done)
          (withdraw_heard ρ s n named.0 (pending_parked s n (found_some n s.parked p parked_there)))

      pub withdraw_parked_full : (r : Answer) (s' : State) → (p < length s.parked → 64 ≤ length s.ended) → Serves ρ s (withdraw n) r s'
      withdraw_parked_full r s' full =
          taken_on ρ laws s (withdraw n) r s'
          (λ range. absurd (let few = range.few in omega (arith, full found.0, found.0)))
          (withdraw_heard ρ s n named.0 (pending_parked s n (found_some n s.parked p parked_there)))
