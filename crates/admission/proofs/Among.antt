-- A job whose number is looked up in a table is among the table's jobs.
use Rattle.std.proofs.Common.{◌≡◌, ℕ, ◌||◌, eqb, List, [], ◌∷◌, refl, ap}
use Rattle.jobs.specs.Records.{number}
use Rattle.jobs.specs.declared.job.Job.{Job}
use Rattle.rules.specs.Lists.{some}
use Rattle.rules.specs.States.{has}
use Rattle.stores.specs.Tables.{known}

pub known_some : (n : ℕ) (js : List Job) → known (λ j. j.mark.number) n js ≡ some (has n) js
known_some n [] = refl
known_some n (j ∷ js) = ap (λ b. eqb (number j) n || b) (known_some n js)
