use Rattle.asg_answers.proofs.Common.{ap, text_of}
use Rattle.asg_answers.proofs.tellings.whole_none.Goals as goal

pub returns : goal.returns
returns c = (c.none_document-document.result, c.none_document-document.ensures, ap text_of c.in_ok-sheet.ensures)
