use Rattle.asg_rank.proofs.Common.{◌-◌, length}
use Rattle.asg_rank.proofs.GivenAll.{Gave}
use Rattle.asg_rank.proofs.rankings.give_all.Given as goal

-- so many answers were given
abbrev pub invariant-answers : goal.invariant-answers
invariant-answers g l = Gave l.fn.ranker l.ranker l.given

abbrev pub decreases-answers : goal.decreases-answers
decreases-answers g l = l.ranker.count - length l.ranker.given
