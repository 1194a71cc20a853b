use Rattle.asg_proof.proofs.LesserTops.{AreAdmittedPhases-by_lesser, index_by_lesser, ProvesFold-by_lesser}
use Rattle.asg_proof.proofs.laws.sums.lesser_tops_law.Goals as goal

pub returns-clause-admitted : goal.returns-clause-admitted
returns-clause-admitted c low high side phases square lt = AreAdmittedPhases-by_lesser low high lt side phases square

pub returns-clause-index : goal.returns-clause-index
returns-clause-index c low high phases lt = index_by_lesser low high lt 0 phases

pub returns-clause-folds : goal.returns-clause-folds
returns-clause-folds c = ProvesFold-by_lesser
