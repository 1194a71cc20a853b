use Rattle.asg_cell_tables.proofs.Common.{ℕ, ◌<◌, get_or, pos, FitsSigned, w64}
use Rattle.asg_cell_tables.proofs.piece_words.all_fit.Given as goal

-- the numbers so far fit
abbrev pub invariant-loop-k : goal.invariant-loop-k
invariant-loop-k l = (k : ℕ) → k < l.k → FitsSigned w64 (get_or l.numbers k (pos 0))
