-- A list in the order of earlier limits follows the limits.
use Rattle.std.proofs.Common.{◌≡◌, ◌≤◌, false, List, [], ◌∷◌, arith}
use Rattle.std.proofs.ByRecursion.{All-weaker}
use Rattle.std.proofs.lemmas.Bool.Decides.{nat_tests}
use Rattle.jobs.specs.declared.job.Job.{Job}
use Rattle.jobs.specs.Records.{number, limit}
use Rattle.rankings.specs.Ranked.{before, Sorted}
use Rattle.rankings.specs.Rankings.{by_mark, earlier_limit}
use Rattle.rules.specs.Plans.{FollowsLimits}

limit_from_before : (x y : Job) → before (by_mark earlier_limit) number y x ≡ false → limit x ≤ limit y
unfolding before
limit_from_before x y h = grind (arith, nat_tests)

pub limits_followed : (js : List Job) → Sorted (before (by_mark earlier_limit) number) js → FollowsLimits js
limits_followed [] s = tt
limits_followed (j ∷ js) s =
    (All-weaker (λ k. before (by_mark earlier_limit) number k j ≡ false) (λ k. limit j ≤ limit k) (limit_from_before j) js s.0, limits_followed js s.1)
