use Rattle.asg_answers.proofs.Common.{ap, text_of}
use Rattle.asg_answers.proofs.tellings.whole_best.Goals as goal

pub returns : goal.returns
returns c = (c.in_ok-document.document, c.in_ok-document.ensures, ap text_of c.in_ok-sheet.ensures)
