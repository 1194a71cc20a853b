-- Instances that are made.
use Rattle.std.proofs.Common.{ℕ, map, refl, sym, ap}
use Rattle.std.specs.List.{range_with_len}
use Rattle.std.proofs.lemmas.List.FromFn.{length-map-range_with_len}
use Rattle.asg_text.specs.Formula.{generated_problem, row_of, column_of}
use Rattle.asg_text.specs.RectTexts.{IsPlain}

-- the instance of the formula is plain
pub generated_is_plain : (seed side : ℕ) → IsPlain (generated_problem seed side)
generated_is_plain seed side = record {
  rows = ap (λ n. map row_of (range_with_len 1 n)) (sym (length-map-range_with_len row_of 1 side));
  columns = ap (λ n. map column_of (range_with_len 1 n)) (sym (length-map-range_with_len column_of 1 side));
  place = refl;
}
