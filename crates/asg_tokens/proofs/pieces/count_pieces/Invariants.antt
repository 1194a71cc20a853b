use Rattle.asg_tokens.proofs.Common.{◌≡◌, ◌+◌, length, pieces, separates}
use Rattle.asg_tokens.proofs.pieces.count_pieces.Given as goal

abbrev pub invariant-loop-piece : goal.invariant-loop-piece
invariant-loop-piece l =
    l.count + length (pieces (separates l.separators) l.rest) ≡ length (pieces (separates l.separators) l.text)

abbrev pub decreases-loop-piece : goal.decreases-loop-piece
decreases-loop-piece l = length (pieces (separates l.separators) l.rest)
