use Rattle.asg_cell_tables.proofs.Common.{not, get_or, is_some, None, AreBitsOf}
use Rattle.asg_cell_tables.proofs.piece_words.unlabelled_bits.Given as goal

-- the bits so far
abbrev pub invariant-loop-k : goal.invariant-loop-k
invariant-loop-k l = AreBitsOf l.k (λ k. not (is_some (get_or l.columns k None))) l.word
