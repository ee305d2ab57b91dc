-- The decision on an arrival is that of the rules, and there is room for it where fewer than 64 jobs are known.
use Rattle.std.proofs.Common.{◌≡◌, ℕ, ◌+◌, ◌<◌, ◌≤◌, true, eqb, List, length, sym, ◌∙◌, arith}
use Rattle.std.proofs.ByRecursion.{All-weaker}
use Rattle.std.proofs.lemmas.Bool.{cond-true}
use Rattle.jobs.specs.declared.job.Job.{Job}
use Rattle.rules.specs.Calls.{admit}
use Rattle.rules.specs.Giving.{place, fits, gives_way, candidates, victims}
use Rattle.rules.specs.Lists.{count, Among}
use Rattle.rules.specs.States.{Parts, State, ready_order, policy_order, answers, ready, has}
use Rattle.rules.proofs.Candidates.{all_chosen, count_chosen}
use Rattle.rules.proofs.Enough.{all_enough, count_enough}
use Rattle.rules.proofs.Lengths.{room_among}
use Rattle.admission.specs.Steps.{with_ready, crowd}
use Rattle.timing.specs.Overruns.{exceeding_of, cause_of}
use Rattle.admission.specs.Trials.{Tried}
use Rattle.admission.specs.declared.trial.Trial.{Trial}

module _ (ρ : Parts) (j : Job) (s : State) where
  -- an arrival that fits becomes ready
  pub admitted : (rs' : List Job) (x : Trial) → Tried (ready_order ρ) s.clock j s.ready x → eqb (exceeding_of x.overrun) 0 ≡ true → rs' ≡ place ρ j s.ready → admit ρ s j ≡ answers (ready (exceeding_of x.overrun) (cause_of x.overrun) 0) (with_ready rs' s)
  admitted rs' x tried does put =
      cond-true (fits ρ s.clock s.ready j) _ _ (sym tried.fits ∙ does)
      ∙ (λ i. answers (ready (sym tried.exceeding i) (sym tried.cause i) 0) (with_ready (sym put i) s))

  -- who gives way to it leaves room for it
  pub room : length s.ready + length s.parked < 64 → ((n : ℕ) → count (has n) s.ready ≤ 1) → (length s.ready < 64 → 64 < crowd (victims ρ s j) s.ready s.parked) → ⊥
  room few distinct crowded =
      let first = policy_order ρ in
      let test = gives_way ρ s j j.mark.class in
      let cs = candidates ρ s j in
      let own = all_enough ρ s.clock j (λ v. Among (λ r. r ≡ v) s.ready) s.ready cs (All-weaker _ _ (λ v h. h.0) cs (all_chosen first test s.ready)) in
      let fewer : (n : ℕ) → count (has n) (victims ρ s j) ≤ count (has n) s.ready =
      λ n. let a = count_enough ρ s.clock j (has n) s.ready cs in let b = count_chosen first test s.ready (has n) in omega arith in
      let both = room_among s.ready distinct (victims ρ s j) own fewer in
      let many = crowded (omega arith) in
      omega arith
