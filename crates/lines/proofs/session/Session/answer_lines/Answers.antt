use Rattle.std.proofs.Common.{◌≡◌, ◌++◌, string_bytes, ap, ◌∙◌, arith}
use Rattle.rules.specs.Runs.{after}
use Rattle.rules.specs.Worked.{plain}
use Rattle.words.specs.Bytes.{lines}
use Rattle.words.specs.Readers.{lines_left}
use Rattle.lines.specs.Load.{lines_calls, printed_from}
use Rattle.words.proofs.Lining.{lines_few}
use Rattle.lines.proofs.session.Session.answer_lines.Goals as goal

pub loop-line-init : goal.loop-line-init
loop-line-init c =
    let all : lines_left c.into_iter-line-iterator.result ≡ lines c.args.input.now = ap lines_left c.into_iter-line-iterator.ensures.into_iter_gives ∙ c.new-line-items.ensures in
    record {
      can_next = tt;
      is_finite = tt;
      few = rw all (omega (arith, lines_few c.args.input.now));
      state = ap (λ ls. after plain c.args.self.now (lines_calls ls)) all;
      text = ap (λ ls. string_bytes c.args.text.now ++ printed_from 1 c.args.self.now ls) all;
    }
