-- The rankings that are built here.
use Rattle.std.specs.Prelude.{Bool, nat_le}
use Rattle.jobs.specs.declared.ending.Ending.{Ending}
use Rattle.jobs.specs.declared.job.Job.{Job}
use Rattle.jobs.specs.declared.job.Mark.{Mark}
use Rattle.jobs.specs.Records.{mark_limit}

abbrev pub earlier_deadline : Mark → Mark → Bool
earlier_deadline x y = nat_le x.deadline y.deadline

abbrev pub earlier_limit : Mark → Mark → Bool
earlier_limit x y = nat_le (mark_limit x) (mark_limit y)

abbrev pub smaller_value : Job → Job → Bool
smaller_value x y = nat_le x.mark.value y.mark.value

abbrev pub larger_value : Job → Job → Bool
larger_value x y = nat_le y.mark.value x.mark.value

abbrev pub earlier_tick : Ending → Ending → Bool
earlier_tick x y = nat_le x.tick y.tick

-- jobs ranked as their marks are
abbrev pub by_mark : (Mark → Mark → Bool) → Job → Job → Bool
by_mark order x y = order x.mark y.mark
