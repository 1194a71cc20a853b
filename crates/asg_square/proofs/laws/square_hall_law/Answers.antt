use Rattle.asg_square.specs.laws.HallColumns.{hall_by_square}
use Rattle.asg_square.proofs.laws.square_hall_law.Goals as goal

pub returns : goal.returns
returns c = λ X has ids all tells. hall_by_square X all has tells ids
