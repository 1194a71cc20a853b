-- Cells that end well by amounts at a grade.
use Rattle.asg_grade_lists.proofs.Common.{◌≡◌, ℕ, ◌+◌, ◌<◌, ◌≤◌, false, List, is_some, slice_index, Some, None, Option, sym, refl, ◌∙◌, subst, ⊎_elim, arith, cases_lt, false≢true, none-some, same_Some, EndsWellAt, RowEndsWell, RowsEndWell, narrow_top, amount_at}

-- a value ends well whose amount does, if it has one
pub none_ends : (g row column : ℕ) (value : ℕ × ℕ) → amount_at g value ≡ None → EndsWellAt g row column (Some value)
none_ends g row column value none y is = absurd (none-some y (sym none ∙ is))

pub some_ends : (g row column : ℕ) (value : ℕ × ℕ) (amount : ℕ) → amount_at g value ≡ Some amount → amount ≤ narrow_top → column ≤ amount + row → EndsWellAt g row column (Some value)
some_ends g row column value amount some few ends y is =
    let same : amount ≡ y = same_Some amount y (sym some ∙ is) in
    (omega (arith, same, few), omega (arith, same, ends))

-- a cell ends well where it is absent, or has a value that does
pub cell_ends : (g row column : ℕ) (value : ℕ × ℕ) (cell : Option (ℕ × ℕ)) → ((x : ℕ × ℕ) → cell ≡ Some x → value ≡ x) → EndsWellAt g row column (Some value) → EndsWellAt g row column cell
cell_ends g row column value None is well y here = absurd (none-some y here)
cell_ends g row column value (Some x) is well y here = subst (λ (v : ℕ × ℕ). EndsWellAt g row column (Some v)) (is x refl) well y here

pub absent_ends : (g row column : ℕ) (found cell : Option (ℕ × ℕ)) → found ≡ cell → is_some found ≡ false → EndsWellAt g row column cell
absent_ends g row column None cell same none = subst (EndsWellAt g row column) same (λ y here. absurd (none-some y here))
absent_ends g row column (Some x) cell same none = absurd (false≢true (sym none))

-- one more cell of a row
pub columns_more : (g row : ℕ) (columns : List ℕ) (cells : ℕ → Option (ℕ × ℕ)) (k : ℕ) → RowEndsWell g k row columns cells → EndsWellAt g row (slice_index columns k) (cells k) → RowEndsWell g (k + 1) row columns cells
columns_more g row columns cells k all here i h =
    ⊎_elim
    (λ (early : i < k). all i early)
    (λ (last : k ≤ i).
    let same : k ≡ i = omega (arith, last, h) in
    subst (λ j. EndsWellAt g row (slice_index columns j) (cells j)) same here)
    (cases_lt i k)

-- one more row
pub rows_more : (g side : ℕ) (rows columns : List ℕ) (square : ℕ → ℕ → Option (ℕ × ℕ)) (r : ℕ) → RowsEndWell g side r rows columns square → RowEndsWell g side (slice_index rows r) columns (square r) → RowsEndWell g side (r + 1) rows columns square
rows_more g side rows columns square r all here i h =
    ⊎_elim
    (λ (early : i < r). all i early)
    (λ (last : r ≤ i).
    let same : r ≡ i = omega (arith, last, h) in
    subst (λ j. RowEndsWell g side (slice_index rows j) columns (square j)) same here)
    (cases_lt i r)
