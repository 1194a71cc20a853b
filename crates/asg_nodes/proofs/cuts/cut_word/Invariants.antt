use Rattle.asg_nodes.proofs.Common.{◌≡◌, ℕ, ◌+◌, ◌*◌, true, is_from_to, HasBit, LosesCells}
use Rattle.asg_nodes.proofs.CutWords.{cut_but}
use Rattle.asg_nodes.proofs.cuts.cut_word.Given as goal

-- the bits that are left are of columns to be cut, and all other such columns were cut
abbrev pub invariant-bits : goal.invariant-bits
invariant-bits g l =
    record {
      inside : (j : ℕ) → HasBit l.rest j → is_from_to l.from l.to (64 * l.number + j) ≡ true;
      cut : LosesCells (cut_but l.row l.number l.from l.to l.rest) l.fn.square l.square;
    }

abbrev pub decreases-bits : goal.decreases-bits
decreases-bits g l = l.rest
