use Rattle.asg_brief.proofs.Common.{◌-◌, length}
use Rattle.asg_brief.proofs.GivenBest.{GaveBest}
use Rattle.asg_brief.proofs.rankings.give_all.Given as goal

-- so many answers were given, each best of those that were left
abbrev pub invariant-answers : goal.invariant-answers
invariant-answers g l = GaveBest (g.K.Kind.objective l.fn.ranker.kind) l.fn.ranker l.ranker l.given

abbrev pub decreases-answers : goal.decreases-answers
decreases-answers g l = l.ranker.count - length l.ranker.given
