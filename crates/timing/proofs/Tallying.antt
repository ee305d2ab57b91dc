-- What a walk counts is what the list's finishing times say.
use Rattle.std.proofs.Common.{◌≡◌, ℕ, ◌+◌, ◌≤◌, max, cond, eqb, ltb, leb, List, [], ◌∷◌, pos, ◌+ℤ◌, ◌≤ℤ◌, Decides, refl, ap, ◌∙◌, arith}
use Rattle.std.proofs.lemmas.Int.{ints}
use Rattle.std.proofs.lemmas.Bool.{leb-true, le-leb}
use Rattle.std.proofs.lemmas.Bool.Decides.{nat_tests, Decides-and, Decides-at}
use Rattle.jobs.specs.declared.job.Job.{Job}
use Rattle.jobs.specs.Records.{limit, residual, excess}
use Rattle.timing.specs.Tallies.{Tally, fresh, counted, counted_all, Walked}
use Rattle.timing.specs.Timing.{finish, holds, exceeding, first_by, AllInTime}

-- the tick at which the next job begins
abbrev from : Tally → ℕ
from w = w.start + w.sum

counted_from : (w : Tally) (j : Job) → from (counted w j) ≡ from w + j.remaining
counted_from w j = omega arith

counted_finish : (w : Tally) (js : List Job) → from (counted_all w js) ≡ finish (from w) js
counted_finish w [] = refl
counted_finish w (j ∷ js) = counted_finish (counted w j) js ∙ ap (λ t. finish t js) (counted_from w j)

counted_exceeding : (w : Tally) (js : List Job) → (counted_all w js).exceeding ≡ max w.exceeding (exceeding (from w) js)
counted_exceeding w [] = omega arith
counted_exceeding w (j ∷ js) =
    let ih = counted_exceeding (counted w j) js ∙ ap (λ t. max (counted w j).exceeding (exceeding t js)) (counted_from w j) in
    let here : excess (w.start + (w.sum + j.remaining)) j ≡ excess (from w + j.remaining) j = ap (λ t. excess t j) (counted_from w j) in
    grind (arith, nat_tests)

counted_cause : (w : Tally) (js : List Job) → (counted_all w js).cause ≡ cond (ltb w.exceeding (exceeding (from w) js)) (first_by (exceeding (from w) js) (from w) js) w.cause
counted_cause w [] = grind (arith, nat_tests)
counted_cause w (j ∷ js) =
    let ih = counted_cause (counted w j) js ∙ ap (λ t. cond (ltb (counted w j).exceeding (exceeding t js)) (first_by (exceeding t js) t js) (counted w j).cause) (counted_from w j) in
    let here : excess (w.start + (w.sum + j.remaining)) j ≡ excess (from w + j.remaining) j = ap (λ t. excess t j) (counted_from w j) in
    grind (arith, nat_tests)

holds_exceeding : (t : ℕ) (js : List Job) → eqb (exceeding t js) 0 ≡ holds t js
holds_exceeding t [] = refl
holds_exceeding t (j ∷ js) = let ih = holds_exceeding (t + j.remaining) js in grind (arith, nat_tests)

slack : (f : ℕ) (j : Job) → Decides (leb f (limit j)) (pos 0 ≤ℤ (residual f j +ℤ pos j.mark.tolerance))
slack f j = (
  λ yes'. let within : f ≤ limit j = leb-true f (limit j) yes' in omega (arith, ints),
  λ h. le-leb f (limit j) (omega (arith, ints)),
)

holds_in_time : (t : ℕ) (js : List Job) → Decides (holds t js) (AllInTime t js)
holds_in_time t [] = (λ _. tt, λ _. refl)
holds_in_time t (j ∷ js) = Decides-and _ _ (slack (t + j.remaining) j) (holds_in_time (t + j.remaining) js)

pub walked : (t : ℕ) (js : List Job) (w : Tally) → w ≡ counted_all (fresh t) js → Walked t js w
walked t js w is =
    let start : from (fresh t) ≡ t = omega arith in
    let e : w.exceeding ≡ exceeding t js = ap (λ v. v.exceeding) is ∙ counted_exceeding (fresh t) js ∙ ap (λ u. max 0 (exceeding u js)) start ∙ omega arith in
    let full : eqb w.exceeding 0 ≡ holds t js = ap (λ n. eqb n 0) e ∙ holds_exceeding t js in
    let first = ap (λ v. v.cause) is ∙ counted_cause (fresh t) js ∙ ap (λ u. cond (ltb 0 (exceeding u js)) (first_by (exceeding u js) u js) 0) start in
    record {
      whole = is;
      finish = ap from is ∙ counted_finish (fresh t) js ∙ ap (λ u. finish u js) start;
      exceeding = e;
      cause = first ∙ grind (arith, nat_tests);
      holds = full;
      in_time = Decides-at _ _ full (holds_in_time t js);
    }
