-- What the checks of an arrival come to, and what the ranges of a state say of its lists.
use Rattle.std.proofs.Common.{◌≡◌, ℕ, ◌+◌, ◌<◌, ◌≤◌, Bool, true, false, cond, ltb, leb, Ok, Err, Result, sym, refl, ap, ◌∙◌, arith}
use Rattle.std.proofs.lemmas.Bool.{leb-false}
use Rattle.jobs.specs.declared.job.Job.{Job}
use Rattle.jobs.specs.declared.refusal.Refusal.{Refusal}
use Rattle.jobs.specs.declared.refusal.Refusal.TheVariants.{Range, Class as ClassRule, Known, Full, Hopeless}
use Rattle.jobs.specs.Ranges.{in_range}
use Rattle.rules.specs.Calls.{between, refusing, out_of_range, job_of, admit, on_arrive}
use Rattle.rules.specs.Lists.{count}
use Rattle.rules.specs.Ranges.{JobInRange, InRange, Fields}
use Rattle.rules.specs.States.{Parts, State, Arrival, refused, Outcome, answers, has, known, population}
use Rattle.rules.proofs.Keeping.{all_parts}
use Rattle.scheduler.specs.Serving.{checked}

-- A NUMBER IN ITS RANGE

let_in : (inside : Bool) (n m : ℕ) → Ok m ≡ cond inside (Ok n) (Err Range) → (inside ≡ true) × (m ≡ n)
let_in true n m is = (refl, cc)
let_in false n m is = (cc, cc)

kept_out : (inside : Bool) (n : ℕ) (e : Refusal) → Err e ≡ cond inside (Ok n) (Err Range) → (inside ≡ false) × (e ≡ Range)
kept_out true n e is = (cc, cc)
kept_out false n e is = (refl, cc)

module _ (low high n : ℕ) where
  pub in_bounds : (m : ℕ) → Ok m ≡ in_range low high n → (between low high n ≡ true) × (m ≡ n)
  in_bounds m = let_in (between low high n) n m

  pub out_of_bounds : (e : Refusal) → Err e ≡ in_range low high n → (between low high n ≡ false) × (e ≡ Range)
  out_of_bounds = kept_out (between low high n) n

-- THE CHECKS AND THE RULE

-- five tests in order, as the checks and as the rule
abbrev checks : Bool → Bool → Bool → Bool → Bool → Job → Result Job Refusal
checks range class is_Known full hopeless j =
    cond range (Err Range) (cond class (Err ClassRule) (cond is_Known (Err Known) (cond full (Err Full) (cond hopeless (Err Hopeless) (Ok j)))))

abbrev rule : Bool → Bool → Bool → Bool → Bool → State → Outcome → Outcome
rule range class is_Known full hopeless s o =
    refusing range Range s (refusing class ClassRule s (refusing is_Known Known s (refusing full Full s (refusing hopeless Hopeless s o))))

refused_alike : (a b c d h : Bool) (j : Job) (s : State) (o : Outcome) (e : Refusal) → checks a b c d h j ≡ Err e → rule a b c d h s o ≡ answers (refused e) s
refused_alike true b c d h j s o e is = cc
refused_alike false true c d h j s o e is = cc
refused_alike false false true d h j s o e is = cc
refused_alike false false false true h j s o e is = cc
refused_alike false false false false true j s o e is = cc
refused_alike false false false false false j s o e is = cc

passed_alike : (a b c d h : Bool) (i j : Job) (s : State) (o : Outcome) → checks a b c d h j ≡ Ok i → (i ≡ j) × (d ≡ false) × (rule a b c d h s o ≡ o)
passed_alike true b c d h i j s o is = (cc, cc, cc)
passed_alike false true c d h i j s o is = (cc, cc, cc)
passed_alike false false true d h i j s o is = (cc, cc, cc)
passed_alike false false false true h i j s o is = (cc, cc, cc)
passed_alike false false false false true i j s o is = (cc, cc, cc)
passed_alike false false false false false i j s o is = (cc, refl, refl)

abbrev hopeless : Arrival → Bool
hopeless a = ltb (a.deadline_in + a.tolerance) a.computation

module _ (s : State) (a : Arrival) where
  -- an arrival that fails a check is refused for it
  pub checked_err : (ρ : Parts) (e : Refusal) → checked s a ≡ Err e → on_arrive ρ s a ≡ answers (refused e) s
  checked_err ρ e is = refused_alike (out_of_range a) (ltb 1 a.class) (known s a.number) (leb 64 (population s)) (hopeless a) (job_of s a) s (admit ρ s (job_of s a)) e is

  -- one that passes them all is admitted, and there is room for it
  pub checked_ok : (ρ : Parts) (j : Job) → checked s a ≡ Ok j → (j ≡ job_of s a) × (population s < 64) × (on_arrive ρ s a ≡ admit ρ s j)
  checked_ok ρ j is =
      let all = passed_alike (out_of_range a) (ltb 1 a.class) (known s a.number) (leb 64 (population s)) (hopeless a) j (job_of s a) s (admit ρ s (job_of s a)) is in
      (all.0, leb-false 64 (population s) all.1, all.2 ∙ ap (admit ρ s) (sym all.0))

-- A STATE IN RANGE

module _ (s : State) (r : InRange s) where
  pub in_range_fields : Fields s
  in_range_fields =
      let both = all_parts (JobInRange s.clock) s.ready s.parked r.jobs in
      record { few = r.few; ready = both.0; parked = both.1; lines = r.lines }

  -- no number stands twice in a list
  pub in_range_ready_once : (n : ℕ) → count (has n) s.ready ≤ 1
  in_range_ready_once n = let all = r.once n in omega arith

  pub in_range_parked_once : (n : ℕ) → count (has n) s.parked ≤ 1
  in_range_parked_once n = let all = r.once n in omega arith
