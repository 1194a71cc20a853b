-- Cells of a table that were read, where more places are made for others.
use Rattle.asg_tokens.proofs.Common.{◌≡◌, ℕ, ◌<◌, ◌≤◌, List, [], length, ℤ, pos, sym, ◌∙◌, subst, arith, AreRead, AreSeconds, cell_of}
use Rattle.std.specs.Prelude.{slice_index_or}
use Rattle.asg_tokens.specs.Slots.{IsSlot}

pub more_read : (place i : ℕ) (all left : List (List ℕ)) (firsts seconds more_firsts more_seconds : List ℤ) {upto : ℕ}
    → i ≤ length firsts
    → length more_firsts ≡ upto
    → ((k : ℕ) → k < length firsts → slice_index_or more_firsts k (pos 0) ≡ slice_index_or firsts k (pos 0))
    → ((k : ℕ) → slice_index_or more_seconds k (pos 0) ≡ slice_index_or seconds k (pos 0))
    → AreSeconds upto more_seconds
    → AreRead place all left i firsts seconds → AreRead place all left i more_firsts more_seconds
more_read place i all left firsts seconds more_firsts more_seconds within count same_firsts same_seconds are read = record {
  within = read.within;
  left_are = read.left_are;
  right = read.right;
  slots = λ k below.
      let there : k < length firsts = omega (arith, below, within) in
      subst (λ (first : ℤ). IsSlot (cell_of (slice_index_or all k [])) first (slice_index_or more_seconds k (pos 0))) (sym (same_firsts k there))
      (subst (λ (second : ℤ). IsSlot (cell_of (slice_index_or all k [])) (slice_index_or firsts k (pos 0)) second) (sym (same_seconds k))
      (read.slots k below));
  seconds_are = subst (λ n. AreSeconds n more_seconds) (sym count) are;
  rest_is_zero = λ k from. same_seconds k ∙ read.rest_is_zero k from;
}
