use Rattle.rules.proofs.Sounding.{no_plan_by_limit}
use Rattle.rules.proofs.no_plan_by_limit.Goals as goal

pub returns : goal.returns
returns c = no_plan_by_limit
