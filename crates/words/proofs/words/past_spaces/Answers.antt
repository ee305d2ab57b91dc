use Rattle.std.proofs.Common.{rules, Some, None}
use Rattle.std.proofs.lemmas.List.{take_rest}
use Rattle.words.proofs.Spacing.{spaces_found}
use Rattle.words.proofs.words.past_spaces.Goals as goal

pub returns-in_err-spaces-clause-left : goal.returns-in_err-spaces-clause-left
returns-in_err-spaces-clause-left c =
    rw c.from_residual-in_err-spaces.ensures
    (spaces_found c.args.line.now c.in_ok-get.field-0.now c.args.start None (search rules) (search (rules, take_rest)) (search rules))

pub returns-clause-left : goal.returns-clause-left
returns-clause-left c =
    spaces_found c.args.line.now c.in_ok-get.field-0.now c.args.start (Some c.in_ok-spaces.spaces) (search rules) (search (rules, take_rest)) (search rules)
