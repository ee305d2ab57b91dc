-- Lists in which no number stands twice.
use Rattle.std.proofs.Common.{◌≡◌, ℕ, ◌≤◌, false, List, ◌∷◌, refl, arith}
use Rattle.std.proofs.lemmas.Bool.{cond-true, eq-eqb}
use Rattle.std.specs.List.{AllByRecursion as Every}
use Rattle.jobs.specs.declared.job.Job.{Job}
use Rattle.jobs.specs.Records.{number}
use Rattle.rules.specs.Lists.{count}
use Rattle.rules.specs.States.{has}
use Rattle.rules.proofs.Keeping.{none_counted}

abbrev pub Distinct : List Job → Type 0
Distinct js = (n : ℕ) → count (has n) js ≤ 1

-- no other job has the number of the first
pub others_differ : (j : Job) (js : List Job) → Distinct (j ∷ js) → Every (λ k. has (number j) k ≡ false) js
others_differ j js apart =
    let once = apart (number j) in
    let itself = cond-true {A = ℕ} (has (number j) j) 1 0 (eq-eqb (number j) (number j) refl) in
    none_counted (has (number j)) js (omega arith)

pub distinct_rest : (j : Job) (js : List Job) → Distinct (j ∷ js) → Distinct js
distinct_rest j js apart n = let all = apart n in omega arith
