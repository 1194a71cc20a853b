-- The square that dual variables make.
use Rattle.asg_kept.proofs.Common.{◌≡◌, ℕ, zero, ◌+◌, ◌-◌, ◌*◌, ◌/◌, ◌%◌, ◌<◌, ◌≤◌, cond, List, length, get_or, slice_index, Some, None, Option, option_map, sym, refl, ap, ◌∙◌, subst, ⊎_elim, mod-lt, mod-eq_of_lt, div-lt_iff_lt-mul, div-add-mod', arith, lt-ltb, add-mod_left, cases_lt, div-mul-add, get_or-map-range_with_len, get_or_default, length-map-range_with_len, mod-mul-add, mul-add-lt, none-some, same_lists, KeepsLabels, everywhere, dual_value, dual_bits, dual_values, dual_cell, dual_grid, Grid, IsGrid, cell_at}

-- the cell at a place
pub at_place : {V : Type 0} (Q : Grid V) (r k : ℕ) → k < Q.side → cell_at Q r k ≡ get_or Q.cells (r * Q.side + k) None
at_place Q r k h = ap (λ b. cond b (get_or Q.cells (r * Q.side + k) None) None) (lt-ltb k Q.side h)

-- squares of one side with the same cells have the same lists of cells
pub same_cells : {V : Type 0} (A B : Grid V) → IsGrid A → IsGrid B → B.side ≡ A.side → ((r k : ℕ) → r < A.side → k < A.side → cell_at B r k ≡ cell_at A r k) → B.cells ≡ A.cells
same_cells {V} A B grid_A grid_B side same = same_lists B.cells A.cells count each
  where
    n : ℕ
    n = A.side

    count : length B.cells ≡ length A.cells
    count = grid_B.table.count ∙ ap (λ s. s * s) side ∙ sym grid_A.table.count

    each : (p : ℕ) (d : Option V) → p < length B.cells → get_or B.cells p d ≡ get_or A.cells p d
    each p d below =
        let within : p < A.side * A.side = subst (λ m. p < m) (count ∙ grid_A.table.count) below in
        let some : zero < A.side = ⊎_elim (λ (h : zero < A.side). h) (λ (h : A.side ≤ zero). let e : A.side ≡ zero = omega (arith, h) in absurd (let none : p < zero * zero = subst (λ s. p < s * s) e within in omega (arith, none))) (cases_lt zero A.side) in
        let row : p / A.side < A.side = (div-lt_iff_lt-mul {k = A.side} {x = p} {y = A.side} some).1 within in
        let column : p % A.side < A.side = mod-lt p some in
        let here : p / A.side * A.side + p % A.side ≡ p = div-add-mod' p A.side in
        get_or_default B.cells p d None below
        ∙ ap (λ i. get_or B.cells i None) (sym here)
        ∙ ap (λ s. get_or B.cells (p / A.side * s + p % A.side) None) (sym side)
        ∙ sym (at_place B (p / A.side) (p % A.side) (subst (λ s. p % A.side < s) (sym side) column))
        ∙ same (p / A.side) (p % A.side) row column
        ∙ at_place A (p / A.side) (p % A.side) column
        ∙ ap (λ i. get_or A.cells i None) here
        ∙ get_or_default A.cells p None d (subst (λ m. p < m) count below)

module _ (Q : Grid ℕ) (grid : IsGrid Q) (rows columns : List ℕ) where
  pub dual_is_grid : IsGrid (dual_grid Q rows columns)
  dual_is_grid = record {
    row_count = grid.row_count;
    column_count = grid.column_count;
    rows_within = grid.rows_within;
    table = record { few = grid.table.few; count = length-map-range_with_len (dual_cell Q rows columns) 0 (Q.side * Q.side) };
  }

  abbrev now : ℕ → ℕ → ℕ → ℕ
  now r k = dual_value (slice_index rows r) (slice_index columns k)

  dual_within : (r k : ℕ) → r < Q.side → k < Q.side → cell_at (dual_grid Q rows columns) r k ≡ option_map (now r k) (cell_at Q r k)
  dual_within r k h l =
      let place = r * Q.side + k in
      at_place (dual_grid Q rows columns) r k l
      ∙ get_or-map-range_with_len (dual_cell Q rows columns) 0 (Q.side * Q.side) place place None (mul-add-lt r Q.side k Q.side h l) (omega arith)
      ∙ ap (λ i. option_map (dual_value (slice_index rows i) (slice_index columns (place % Q.side))) (get_or Q.cells place None)) (div-mul-add r Q.side k l)
      ∙ ap (λ i. option_map (dual_value (slice_index rows r) (slice_index columns i)) (get_or Q.cells place None)) (mod-mul-add r Q.side k l)
      ∙ ap (option_map (now r k)) (sym (at_place Q r k l))

  pub dual_cell_at : (r k : ℕ) → cell_at (dual_grid Q rows columns) r k ≡ option_map (now r k) (cell_at Q r k)
  dual_cell_at = everywhere Q (dual_grid Q rows columns) grid dual_is_grid refl now dual_within

-- a mapped cell that is present comes from a present one
pub mapped_from : (f : ℕ → ℕ) (o : Option ℕ) (y : ℕ) → option_map f o ≡ Some y → (x : ℕ) × (o ≡ Some x) × (f x ≡ y)
mapped_from f None y h = absurd (none-some y h)
mapped_from f (Some x) y h = (x, refl, same h)
  where
    same : Some (f x) ≡ Some y → f x ≡ y
    same = λ h. grind (arith, h)

pub mapped_twice : (f g h : ℕ → ℕ) (o : Option ℕ) → ((x : ℕ) → o ≡ Some x → h x ≡ g (f x)) → option_map h o ≡ option_map g (option_map f o)
mapped_twice f g h None same = refl
mapped_twice f g h (Some x) same = ap Some (same x refl)

-- ---- values of a row

kept_within : (n a c : ℕ) → a < n → c ≤ a → (a % n + (n - c)) % n ≡ a - c
kept_within n a c h k =
    let turned : a + (n - c) ≡ n + (a - c) = omega (arith, h, k) in
    ap (λ b. (b + (n - c)) % n) (mod-eq_of_lt h)
    ∙ ap (λ b. b % n) turned
    ∙ add-mod_left n (a - c)
    ∙ mod-eq_of_lt (let few : a - c < n = omega (arith, h) in few)

-- where nothing passes the width, the number is what is left below it
pub bits_kept : (width row column x : ℕ) → column ≤ x + row → x + row < width → dual_bits width row column x ≡ dual_value row column x
bits_kept width row column x h k = kept_within width (x + row) column k h

pub length_of_values : (width : ℕ) (values columns : List ℕ) (row : ℕ) → length (dual_values width values columns row) ≡ length values
length_of_values width values columns row = length-map-range_with_len (λ k. dual_bits width row (slice_index columns k) (slice_index values k)) 0 (length values)

pub dual_values_at : (width : ℕ) (values columns : List ℕ) (row k : ℕ) → k < length values → slice_index (dual_values width values columns row) k ≡ dual_bits width row (slice_index columns k) (slice_index values k)
dual_values_at width values columns row k h = get_or-map-range_with_len (λ i. dual_bits width row (slice_index columns i) (slice_index values i)) 0 (length values) k k 0 h (omega arith)

-- ---- equal squares

abbrev grid_from : {V : Type 0} → ℕ → ℕ → List (Option ℕ) → List (Option ℕ) → List (Option V) → Grid V
grid_from side rows row_labels column_labels cells = record { side = side; rows = rows; row_labels = row_labels; column_labels = column_labels; cells = cells }

-- squares with the same labels and the same cells
pub same_grids : {V : Type 0} (A B : Grid V) → IsGrid A → IsGrid B → KeepsLabels A B → ((r k : ℕ) → r < A.side → k < A.side → cell_at B r k ≡ cell_at A r k) → B ≡ A
same_grids A B grid_A grid_B labels same =
    ap (λ s. grid_from s B.rows B.row_labels B.column_labels B.cells) labels.side
    ∙ ap (λ n. grid_from A.side n B.row_labels B.column_labels B.cells) labels.rows
    ∙ ap (λ l. grid_from A.side A.rows l B.column_labels B.cells) labels.row_labels
    ∙ ap (λ l. grid_from A.side A.rows A.row_labels l B.cells) labels.column_labels
    ∙ ap (λ l. grid_from A.side A.rows A.row_labels A.column_labels l) (same_cells A B grid_A grid_B labels.side same)
