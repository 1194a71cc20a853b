-- The present cells of a row.
use Rattle.asg_duals.proofs.Common.{◌≡◌, ℕ, ◌+◌, ◌/◌, ◌%◌, ◌<◌, ◌≤◌, List, length, get_or, is_some, IsTrue, Some, Option, ap, ◌∙◌, arith, get_or_from_slice_get, slice_get_within}
use Rattle.asg_bit_rows.specs.BitTable.{is_bit_set, AreWordsOf}
use Rattle.asg_cell_tables.specs.CellTable.{AreValuesOf}

-- what holds of each value whose bit is set holds of each present cell
pub above_present : (row : ℕ → Option ℕ) (side : ℕ) (values words rises : List ℕ) (fall : ℕ) → AreValuesOf row side values → AreWordsOf (λ k. is_some (row k)) side words → ((c : ℕ) → c < length values → IsTrue (is_bit_set (get_or words (c / 64) 0) (c % 64)) → fall ≤ get_or values c 0 + get_or rises c 0) → (c x : ℕ) → row c ≡ Some x → fall ≤ x + get_or rises c 0
above_present row side values words rises fall are_values are_words all c x cell =
    let at = are_values.each c (ap is_some cell) ∙ cell in
    let within = slice_get_within values c x at in
    let bit = are_words.each c (omega (arith, within, are_values.count, are_words.count)) ∙ ap is_some cell in
    omega (arith, all c within bit, get_or_from_slice_get values c x 0 at)
