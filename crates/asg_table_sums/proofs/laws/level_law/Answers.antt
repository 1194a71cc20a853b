use Rattle.asg_table_sums.proofs.LevelLaw.{level_is_best}
use Rattle.asg_table_sums.proofs.laws.level_law.Goals as goal

pub returns : goal.returns
returns c = level_is_best
