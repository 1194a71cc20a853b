use Rattle.asg_proof.proofs.LowerBound.{index_le_choice}
use Rattle.asg_proof.proofs.laws.index_law.Goals as goal

pub returns : goal.returns
returns g c M difference enter X phases z f laws has =
    index_le_choice M laws difference has c.square_law.ensures.choices c.square_law.ensures.folds enter X phases z f
