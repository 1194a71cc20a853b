use Rattle.asg_doc_reader.proofs.Common.{◌≡◌, ◌++◌, length, flat_map, AllHaveText, lines_of}
use Rattle.asg_doc_reader.proofs.document_reader.documents.Given as goal

abbrev pub invariant-lines : goal.invariant-lines
invariant-lines l = record {
  read : l.fn.lines ≡ flat_map lines_of l.documents.items ++ l.lines;
  have : AllHaveText l.documents.items;
}

abbrev pub decreases-lines : goal.decreases-lines
decreases-lines l = length l.lines
