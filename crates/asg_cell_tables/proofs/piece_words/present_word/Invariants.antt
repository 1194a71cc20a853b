use Rattle.asg_cell_tables.proofs.Common.{get_or, AreBitsOf, is_there, absent}
use Rattle.asg_cell_tables.proofs.piece_words.present_word.Given as goal

-- the bits so far
abbrev pub invariant-loop-k : goal.invariant-loop-k
invariant-loop-k l = AreBitsOf l.k (λ k. is_there (get_or l.firsts k absent)) l.word
