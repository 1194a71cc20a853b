use Rattle.asg_kept_cells.proofs.Common.{◌≡◌, ℕ, ◌+◌, ◌<◌, ◌≢◌, ◌⊎◌, None, KeepsLabels, HasBit, cell_at}
use Rattle.asg_kept_cells.proofs.taking_out.take_out_bits.Given as goal

-- the bits that are left are the word's, the cells of those that are left no more are taken out,
-- and the others stay
abbrev pub invariant-bits : goal.invariant-bits
invariant-bits g l = record {
  labels : KeepsLabels l.fn.square l.square;
  left : (k : ℕ) → HasBit l.rest k → HasBit l.word k;
  taken : (k : ℕ) → HasBit l.word k → (HasBit l.rest k → ⊥) → cell_at l.square l.row (l.first + k) ≡ None;
  others : (r k : ℕ) → (r ≢ l.row) ⊎ ((j : ℕ) → j < 64 → HasBit l.word j → k ≢ l.first + j) → cell_at l.square r k ≡ cell_at l.fn.square r k;
}

abbrev pub decreases-bits : goal.decreases-bits
decreases-bits g l = l.rest
