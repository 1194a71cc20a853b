use Rattle.asg_nodes.proofs.Common.{LosesCells}
use Rattle.asg_nodes.proofs.CutWords.{cut_upto}
use Rattle.asg_nodes.proofs.cuts.cut_between.Given as goal

-- the words so far were cut
abbrev pub invariant-words : goal.invariant-words
invariant-words g l = LosesCells (cut_upto l.row l.number l.from l.to) l.fn.square l.square
