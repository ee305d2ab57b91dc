use Rattle.std.proofs.Common.{refl}
use Rattle.jobs.specs.Records.{mark_limit}
use Rattle.rules.proofs.Orders.{smaller_first, larger_first}
use Rattle.rules.proofs.built_parts_are_lawful.Goals as goal

pub returns : goal.returns
returns c = λ spared. (
  record { order = smaller_first (λ m. m.deadline); policy = smaller_first (λ j. j.mark.value); parking = larger_first (λ j. j.mark.value); parking_steady = λ _ _ _ _. refl },
  record { order = smaller_first mark_limit; policy = smaller_first (λ j. j.mark.value); parking = larger_first (λ j. j.mark.value); parking_steady = λ _ _ _ _. refl },
)
