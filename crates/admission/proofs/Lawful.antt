-- A discipline whose order and policy keep the laws of a ranking gives lawful parts.
use Rattle.std.proofs.Common.{◌≡◌, Bool, true, false, refl}
use Rattle.jobs.specs.declared.job.Mark.{Mark}
use Rattle.rankings.specs.declared.ranking.Ranking.{Ghosts as RankingOf}
use Rattle.rules.proofs.Orders.{larger_first}
use Rattle.rules.specs.States.{LawfulParts}
use Rattle.admission.specs.Disciplines.{PolicyOf, parts}
use Rattle.admission.specs.declared.discipline.Discipline.{Discipline}

-- the two laws, as the trait of rankings has them: of each of its values

abbrev pub Total : {R A : Type 0} → (R → A → A → Bool) → Type 0
Total {R} {A} may = (r : R) (x y : A) → may r x y ≡ false → may r y x ≡ true

abbrev pub Transitive : {R A : Type 0} → (R → A → A → Bool) → Type 0
Transitive {R} {A} may = (r : R) (x y z : A) → may r x y ≡ true → may r y z ≡ true → may r x z ≡ true

pub lawful_parts : {O P : Type 0} (order : RankingOf O Mark) (policy : PolicyOf P)
    → Total order.may → Transitive order.may → Total policy.may → Transitive policy.may → (d : Discipline O P) → LawfulParts (parts order policy d)
lawful_parts order policy total transitive policy_total policy_transitive d =
    record {
      order = record { total = total d.order.0; transitive = transitive d.order.0 };
      policy = record { total = policy_total d.policy; transitive = policy_transitive d.policy };
      parking = larger_first (λ j. j.mark.value);
      parking_steady = λ _ _ _ _. refl;
    }
