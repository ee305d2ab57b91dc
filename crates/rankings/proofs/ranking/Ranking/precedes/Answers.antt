use Rattle.std.proofs.Common.{rules}
use Rattle.rankings.specs.Ranked.{before}
use Rattle.rankings.proofs.ranking.Ranking.precedes.Goals as goal

pub returns-then-forth-back : goal.returns-then-forth-back
unfolding before
returns-then-forth-back g c = search rules

pub returns-else-forth-back : goal.returns-else-forth-back
unfolding before
returns-else-forth-back g c = search rules
