use Rattle.asg_cell_tables.proofs.Common.{◌≡◌, ℕ, ◌<◌, length, get_or, slice_get, Some, None, Entering, entered_value}
use Rattle.asg_cell_tables.proofs.entered_pieces.enter_present.Given as goal

-- the values so far
abbrev pub invariant-loop-k : goal.invariant-loop-k
invariant-loop-k g l =
    record {
      count : length l.values ≡ length l.fn.values;
      values : Entering l.inst (goal.E-post g l.enter) (λ entered. (k : ℕ) → k < l.k → slice_get l.values k ≡ Some (entered_value l.inst l.fn.free entered l.r (get_or l.columns k None)));
    }
