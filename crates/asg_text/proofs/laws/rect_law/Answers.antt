use Rattle.asg_text.proofs.RectLaw.{rect_reads_back, rect_is_short}
use Rattle.asg_text.proofs.laws.rect_law.Goals as goal

pub returns-clause-read : goal.returns-clause-read
returns-clause-read c = rect_reads_back

pub returns-clause-short : goal.returns-clause-short
returns-clause-short c = rect_is_short
