use Rattle.asg_doc_reader.proofs.TextLaws.{texts_unique, text_unique}
use Rattle.asg_doc_reader.proofs.text_laws.unique_reading.Goals as goal

pub returns-clause-lists : goal.returns-clause-lists
returns-clause-lists c = texts_unique

pub returns-clause-no_prefix : goal.returns-clause-no_prefix
returns-clause-no_prefix c = text_unique
