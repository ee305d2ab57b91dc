use Rattle.rules.proofs.Sounding.{every_run_is_sound}
use Rattle.rules.proofs.every_run_is_sound.Goals as goal

pub returns : goal.returns
returns c = every_run_is_sound
