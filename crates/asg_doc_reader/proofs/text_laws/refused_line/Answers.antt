use Rattle.asg_doc_reader.proofs.RefusedLines.{longest_tells}
use Rattle.asg_doc_reader.proofs.TextLaws.{refused_once}
use Rattle.asg_doc_reader.proofs.text_laws.refused_line.Goals as goal

pub returns-clause-one : goal.returns-clause-one
returns-clause-one c = refused_once

pub returns-clause-longest : goal.returns-clause-longest
returns-clause-longest c = longest_tells
