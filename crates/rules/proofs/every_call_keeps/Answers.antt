use Rattle.rules.proofs.Sounding.{every_call_keeps}
use Rattle.rules.proofs.every_call_keeps.Goals as goal

pub returns : goal.returns
returns c = every_call_keeps
