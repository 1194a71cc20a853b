use Rattle.asg_duals.proofs.Common.{ℕ, ◌+◌, ◌*◌, ◌<◌, length, slice_index, HasBit, Reaches}
use Rattle.asg_duals.proofs.tightness.words_are_above.Given as goal

-- the cells of the words so far are at least the fall, where their bits are set
abbrev pub invariant-words : goal.invariant-words
invariant-words l =
    (n k : ℕ) → n < l.number → HasBit (slice_index l.words n) k → 64 * n + k < length l.values
    → Reaches l.values l.rises l.fall (64 * n + k)
