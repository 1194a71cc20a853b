-- The rect text of a plain instance is read as the instance.
use Rattle.asg_text.proofs.Common.{◌≡◌, ℕ, zero, suc, ◌+◌, ◌*◌, ◌/◌, ◌%◌, ◌<◌, ◌≤◌, not, ◌||◌, eqb, List, [], ◌∷◌, ◌++◌, map, length, get_or, take, Some, None, decimal, All, Option, flat_map, sym, ap, ◌∙◌, mul_comm, div-add-mod', arith, length-append, take_all, le-ltb, eq-eqb, ne_eqb, All-cons, All-head, All-map, All-nil, All-tail, All-weaker, cond_both, count_by-le-length, div_below, length-map, length-map-range_with_len, length-range_with_len, mod_below, mul-add-lt, range_with_len, IsInstance, IsCostInRange, most_rows, most_columns, longest_file, cost_at, Problem, problem_of, Cost, IsPlain, cell_text, costs_of_row, row_line, size_line, Rect, tokens, Spells, reading_with, cells_of_rows, cell_of, cell_faults, size_faults, reading_of_table, reading_of_rect}
use Rattle.asg_tokens.specs.Faults.{NoRows, TooLarge, TokenCount, fault_where}
use Rattle.asg_tokens.specs.Readings.{table_of}
use Rattle.asg_text.specs.RectTexts.{rect_text}
use Rattle.asg_text.specs.Texts.{reading_of}
use Rattle.asg_text.proofs.AscendingCells.{index_of, ascend, same_table, cost_of_index}
use Rattle.asg_text.proofs.RectLengths.{IsShort, cells_are_short, size_is_short, length-line, length-lines, few_bytes}
use Rattle.asg_text.proofs.TableRows.{map-flat_map, All-flat_map, length-rows, get_or-rows}
use Rattle.asg_text.proofs.TokenLines.{tokens_of_line, tokens_of_lines}
use Rattle.asg_text.proofs.WrittenCells.{IsCellInRange, cells_are_tokens, cells_right, cells_read_back}
use Rattle.asg_text.proofs.WrittenNumbers.{IsToken, size_token, size_spells}

-- a cost among those of cells that are in range
cost_in_range : (cells : List ((ℕ × ℕ) × Cost)) (r c : ℕ) → All (λ cell. IsCostInRange cell.1) cells → IsCellInRange (cost_at cells r c)
cost_in_range [] r c within = tt
cost_in_range (cell ∷ cells) r c within =
    cond_both _ (Some cell.1) (cost_at cells r c) IsCellInRange
    (λ yes. All-head (λ cell. IsCostInRange cell.1) cell cells within)
    (λ no. cost_in_range cells r c (All-tail (λ cell. IsCostInRange cell.1) cell cells within))

module _ (X : Problem) (instance : IsInstance X) (plain : IsPlain X) where
  abbrev n : ℕ
  n = length X.rows

  abbrev m : ℕ
  m = length X.columns

  -- the costs of all cells, row by row
  abbrev costs : List (Option Cost)
  costs = flat_map (costs_of_row X) (range_with_len 0 n)

  some_rows : 0 < n
  some_rows =
      let active = instance.well_formed.some_active in
      omega (arith, count_by-le-length (λ row. row.active) X.rows)

  few_rows : n ≤ 1000
  few_rows = instance.well_formed.few_rows

  few_columns : m ≤ 1000
  few_columns = instance.well_formed.few_columns

  row_in_range : (r : ℕ) → All IsCellInRange (costs_of_row X r)
  row_in_range r =
      All-map IsCellInRange (cost_at X.cells r) (range_with_len 0 m) (λ k d within. cost_in_range X.cells r _ instance.well_formed.costs)

  costs_in_range : All IsCellInRange costs
  costs_in_range = All-flat_map IsCellInRange (costs_of_row X) (range_with_len 0 n) row_in_range

  count_is : length costs ≡ n * m
  count_is = length-rows (cost_at X.cells) m 0 n

  -- the tokens of the text
  sizes_are_tokens : All IsToken (decimal n ∷ decimal m ∷ [])
  sizes_are_tokens =
      All-cons IsToken (decimal n) (decimal m ∷ []) (size_token n few_rows) (All-cons IsToken (decimal m) [] (size_token m few_columns) (All-nil IsToken))

  tokens_are : tokens (rect_text X) ≡ decimal n ∷ decimal m ∷ map cell_text costs
  unfolding rect_text
  tokens_are =
      tokens_of_line (decimal n ∷ decimal m ∷ []) (flat_map (row_line X) (range_with_len 0 n)) sizes_are_tokens
      ∙ ap (λ cells. decimal n ∷ decimal m ∷ cells)
      (tokens_of_lines (λ r. map cell_text (costs_of_row X r)) (range_with_len 0 n) (λ r. cells_are_tokens (costs_of_row X r) (row_in_range r))
      ∙ sym (map-flat_map cell_text (costs_of_row X) (range_with_len 0 n)))

  -- none of them is at fault
  sizes_right : size_faults n m ≡ []
  sizes_right =
      (λ i. fault_where (ne_eqb n 0 (λ e. omega (arith, some_rows, e)) i) NoRows ++ fault_where (le-ltb most_rows n few_rows i || le-ltb most_columns m few_columns i) (TooLarge n m))

  cell_count : length (map cell_text costs) ≡ n * m
  cell_count = length-map costs cell_text ∙ count_is

  none_at_fault : cell_faults 3 (take (n * m) (map cell_text costs)) ++ fault_where (not (eqb (length (map cell_text costs)) (n * m))) (TokenCount (n * m) (length (map cell_text costs))) ≡ []
  none_at_fault =
      let all = take_all (n * m) (map cell_text costs) (omega (arith, cell_count)) in
      let right : cell_faults 3 (take (n * m) (map cell_text costs)) ≡ [] = ap (cell_faults 3) all ∙ cells_right 3 costs costs_in_range in
      (λ i. right i ++ fault_where (not (eq-eqb (length (map cell_text costs)) (n * m) cell_count i)) (TokenCount (n * m) (length (map cell_text costs))))

  -- the table has the instance's cells
  index_within : (r c : ℕ) → r < n → c < m → r * m + c < length costs
  index_within r c row column = omega (arith, mul-add-lt r m c n row column, mul_comm n m, count_is)

  abbrev IsWithin : (ℕ × ℕ) × Cost → Type 0
  IsWithin cell = (cell.0.0 < n) × (cell.0.1 < m)

  at_index : (k : ℕ) → k < length costs → get_or costs k None ≡ cost_of_index m X.cells k
  at_index k within =
      let below : k < n * m = omega (arith, count_is) in
      let some : 0 < m = some_columns n m below in
      ap (λ k. get_or costs k None) (sym (div-add-mod' k m))
      ∙ get_or-rows (cost_at X.cells) m 0 n (k / m) (k % m) None (div_below k m n some below) (mod_below k m some)
      ∙ ap (λ r. cost_at X.cells r (k % m)) (let none : 0 + k / m ≡ k / m = omega arith in none)
    where
      some_columns : (rows columns : ℕ) → k < rows * columns → 0 < columns
      some_columns rows zero below = absurd (omega (arith, below))
      some_columns rows (suc columns) below = omega arith

  cells_are : cells_of_rows m costs ≡ X.cells
  cells_are =
      same_table m costs X.cells
      (ascend m 0 X.cells instance.cells_ascend (All-weaker IsWithin (λ cell. cell.0.1 < m) (λ cell within. within.1) X.cells instance.well_formed.cells_within) (λ d some. omega arith))
      (All-weaker IsWithin (λ cell. index_of m cell < length costs) (λ cell within. index_within cell.0.0 cell.0.1 within.0 within.1) X.cells instance.well_formed.cells_within)
      at_index

  table_is : table_of (range_with_len 1 n) (range_with_len 1 m) (map cell_of (map cell_text costs)) ≡ X
  unfolding table_of
  table_is =
      let cells : cells_of_rows (length (range_with_len 1 m)) (map cell_of (map cell_text costs)) ≡ X.cells =
      (λ i. cells_of_rows (length-range_with_len 1 m i) (cells_read_back costs costs_in_range i)) ∙ cells_are in
      (λ i. problem_of (sym plain.rows i) (sym plain.columns i) (cells i) (sym plain.place i))

  pub rect_reads_back : reading_of Rect (rect_text X) ≡ Spells X
  unfolding reading_of
  rect_reads_back =
      ap reading_of_rect tokens_are
      ∙ (λ i. reading_of_table 2 (size_spells n few_rows i) (size_spells m few_columns i) (map cell_text costs))
      ∙ (λ i. reading_with (sizes_right i ++ none_at_fault i) (table_of (range_with_len 1 n) (range_with_len 1 m) (map cell_of (map cell_text costs))))
      ∙ ap Spells table_is

  pub rect_is_short : length (rect_text X) ≤ longest_file
  unfolding rect_text
  rect_is_short =
      let sizes = length-line (decimal n ∷ decimal m ∷ [])
      (All-cons IsShort (decimal n) (decimal m ∷ []) (size_is_short n few_rows) (All-cons IsShort (decimal m) [] (size_is_short m few_columns) (All-nil IsShort))) in
      let line : (r : ℕ) → length (row_line X r) ≤ 24 * m + 1 =
      λ r. omega (arith, length-line (map cell_text (costs_of_row X r)) (cells_are_short (costs_of_row X r) (row_in_range r)), length-map (costs_of_row X r) cell_text, length-map-range_with_len (cost_at X.cells r) 0 m) in
      let rows = length-lines (row_line X) (24 * m + 1) (range_with_len 0 n) line in
      let count : length (range_with_len 0 n) * (24 * m + 1) ≡ n * (24 * m + 1) = ap (λ k. k * (24 * m + 1)) (length-range_with_len 0 n) in
      let all = few_bytes (length (size_line X)) (length (flat_map (row_line X) (range_with_len 0 n))) n m few_rows few_columns (omega (arith, sizes)) (omega (arith, rows, count)) in
      omega (arith, all, length-append (size_line X) (flat_map (row_line X) (range_with_len 0 n)))
