use Rattle.rules.proofs.Ranging.{every_run_in_range}
use Rattle.rules.proofs.every_run_in_range.Goals as goal

pub returns : goal.returns
returns c = every_run_in_range
