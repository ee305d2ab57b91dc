use Rattle.std.proofs.Common.{rules}
use Rattle.answering.proofs.Taking.{first_bytes}
use Rattle.answering.proofs.answer_input.Goals as goal

pub returns : goal.returns
returns g c = (c.as_slice.result, c.in_ok-text.text, search rules, search (rules, first_bytes), search rules)
