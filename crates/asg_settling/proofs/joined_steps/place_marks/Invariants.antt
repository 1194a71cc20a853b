use Rattle.asg_settling.proofs.Common.{◌≡◌, ℕ, ◌<◌, ◌≤◌, length, slice_index}
use Rattle.asg_settling.proofs.joined_steps.place_marks.Given as goal

-- the marks so far have their places, and those of the others stand
abbrev pub invariant-loop-i : goal.invariant-loop-i
invariant-loop-i l =
    record {
      count : length l.places ≡ length l.fn.places;
      here : (i : ℕ) → i < l.i → l.from ≤ slice_index l.marks i → slice_index l.places i ≡ l.place;
      others : (i : ℕ) → i < l.i → slice_index l.marks i < l.from → slice_index l.places i ≡ slice_index l.fn.places i;
      rest : (i : ℕ) → l.i ≤ i → slice_index l.places i ≡ slice_index l.fn.places i;
    }
