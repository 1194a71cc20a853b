use Rattle.asg_text.proofs.PlainLaw.{square_is_plain, rect_is_plain}
use Rattle.asg_text.proofs.laws.plain_law.Goals as goal

pub returns-clause-square : goal.returns-clause-square
returns-clause-square c = square_is_plain

pub returns-clause-rect : goal.returns-clause-rect
returns-clause-rect c = rect_is_plain
