use Rattle.lines.proofs.Turns.{in_turn, lines_sound}
use Rattle.lines.proofs.reply.reply.Goals as goal

-- both hold of every input, also where memory is wanting

pub returns-in_err-writeln-clause-turn : goal.returns-in_err-writeln-clause-turn
returns-in_err-writeln-clause-turn c = in_turn _

pub returns-in_err-writeln-clause-sound : goal.returns-in_err-writeln-clause-sound
returns-in_err-writeln-clause-sound c = lines_sound c.args.input.now

pub returns-clause-turn : goal.returns-clause-turn
returns-clause-turn c = in_turn _

pub returns-clause-sound : goal.returns-clause-sound
returns-clause-sound c = lines_sound c.args.input.now
