-- From what the steps did to the lists to what the rules say of the call.
use Rattle.std.proofs.Common.{◌≡◌, ℕ, ◌+◌, ◌≤◌, true, false, List, [], ◌∷◌, get_or, Ok, refl, sym, ap, ◌∙◌}
use Rattle.std.proofs.lemmas.Bool.{cond_both}
use Rattle.std.specs.List.{remove}
use Rattle.jobs.specs.Records.{blank}
use Rattle.jobs.specs.declared.ending.EndKind.{EndKind}
use Rattle.jobs.specs.declared.ending.EndKind.TheVariants.{InTime, Withdrawn}
use Rattle.jobs.specs.declared.job.Job.{Job}
use Rattle.jobs.specs.declared.refusal.Refusal.{Refusal}
use Rattle.rules.proofs.Distinct.{Distinct}
use Rattle.rules.specs.Calls.{between, make_way, give_way, admit, on_arrive, after_ticks, on_work, on_finish, on_withdraw}
use Rattle.rules.specs.Giving.{among, fits, place, swept, victims}
use Rattle.rules.specs.Lists.{some, count}
use Rattle.rules.specs.States.{Parts, State, Arrival, ready, parked, now_at, saved, gone, refused, answers, has, pending}
use Rattle.timing.specs.Timing.{exceeding, cause}
use Rattle.admission.specs.Steps.{with_ready, with_parked, with_line, ReadyEnded, ParkedEnded}
use Rattle.scheduler.specs.Serving.{checked}
use Rattle.scheduler.proofs.Answering.{ended_ready, finish_first_is, withdraw_ready, withdraw_parked, withdraw_gone, work_done}
use Rattle.scheduler.proofs.Checking.{checked_ok}
use Rattle.scheduler.proofs.Promising.{no_refusal}
use Rattle.scheduler.proofs.Picking.{Found}

-- ARRIVE

module _ (ρ : Parts) (s : State) where
  admit_heard : (j : Job) (e : Refusal) → (admit ρ s j).answer ≡ refused e → ⊥
  admit_heard j e =
      let x = exceeding s.clock (place ρ j s.ready) in
      let w = cause s.clock (place ρ j s.ready) in
      cond_both (fits ρ s.clock s.ready j) _ (give_way ρ s j x w (victims ρ s j)) (λ o. o.answer ≡ refused e → ⊥)
      (λ _. no_refusal (ready x w 0) e refl)
      (λ _. by_way x w (victims ρ s j))
    where
      by_way : (x w : ℕ) (vs : List Job) → (give_way ρ s j x w vs).answer ≡ refused e → ⊥
      by_way x w [] = no_refusal (parked x w 0) e refl
      by_way x w (v ∷ vs) = no_refusal (ready x w (count (among (v ∷ vs)) (make_way ρ s j (v ∷ vs)).parked)) e refl

  pub arrive_heard : (a : Arrival) (j : Job) → checked s a ≡ Ok j → (e : Refusal) → (on_arrive ρ s a).answer ≡ refused e → ⊥
  arrive_heard a j ok e h = admit_heard j e (sym (ap (λ o. o.answer) (checked_ok s a ρ j ok).2) ∙ h)

  -- WORK

  pub work_heard : (n : ℕ) → between 1 10000 n ≡ true → s.clock + n ≤ 1000000000 → (e : Refusal) → (on_work ρ s n).answer ≡ refused e → ⊥
  work_heard n within on e h = no_refusal (now_at (after_ticks ρ n s).clock) e refl (sym (ap (λ o. o.answer) (work_done ρ s n within on)) ∙ h)

  pub work_exact : (n t : ℕ) (s' : State) → between 1 10000 n ≡ true → s.clock + n ≤ 1000000000 → after_ticks ρ n s ≡ s' → s'.clock ≡ t → on_work ρ s n ≡ answers (now_at t) s'
  work_exact n t s' within on is at = work_done ρ s n within on ∙ ap (λ w. answers (now_at w.clock) w) is ∙ ap (λ u. answers (now_at u) s') at

  -- A JOB THAT ENDS

  swept_so : (p : ℕ) (k : EndKind) (s' : State) (j : Job) → ReadyEnded ρ p k s s' j → swept ρ (ended_ready s p k) ≡ s'
  swept_so p k s' j done = ap (λ x. swept ρ (with_ready (remove s.ready p) (with_line k x s))) (sym done.job) ∙ done.state

  pub finish_exact : (n : ℕ) (s' : State) (j : Job) → between 1 65535 n ≡ true → Found n s.ready 0 → ReadyEnded ρ 0 InTime s s' j → on_finish ρ s n ≡ answers (saved j.remaining) s'
  finish_exact n s' j within found done =
      finish_first_is ρ s n within found ∙ (λ i. answers (saved (sym done.job i).remaining) (swept_so 0 InTime s' j done i))

  pub finish_heard : (n : ℕ) → between 1 65535 n ≡ true → Found n s.ready 0 → (e : Refusal) → (on_finish ρ s n).answer ≡ refused e → ⊥
  finish_heard n within found e h = no_refusal (saved (get_or s.ready 0 blank).remaining) e refl (sym (ap (λ o. o.answer) (finish_first_is ρ s n within found)) ∙ h)

  pub withdraw_ready_exact : (n p : ℕ) (s' : State) (j : Job) → between 1 65535 n ≡ true → Distinct s.ready → Found n s.ready p → ReadyEnded ρ p Withdrawn s s' j → on_withdraw ρ s n ≡ answers gone s'
  withdraw_ready_exact n p s' j within apart found done =
      withdraw_ready ρ s n p within apart found ∙ ap (answers gone) (swept_so p Withdrawn s' j done)

  pub withdraw_parked_exact : (n p : ℕ) (s' : State) (j : Job) → between 1 65535 n ≡ true → some (has n) s.ready ≡ false → Distinct s.parked → Found n s.parked p → ParkedEnded p Withdrawn s s' j → on_withdraw ρ s n ≡ answers gone s'
  withdraw_parked_exact n p s' j within unready apart found done =
      withdraw_parked ρ s n p within unready apart found
      ∙ ap (λ x. answers gone (with_parked (remove s.parked p) (with_line Withdrawn x s))) (sym done.job)
      ∙ ap (answers gone) done.state

  pub withdraw_heard : (n : ℕ) → between 1 65535 n ≡ true → pending s n ≡ true → (e : Refusal) → (on_withdraw ρ s n).answer ≡ refused e → ⊥
  withdraw_heard n within here e h = no_refusal gone e refl (sym (withdraw_gone ρ s n within here) ∙ h)
