-- The square that a filled table makes.
use Rattle.asg_square.proofs.Common.{◌≡◌, ℕ, ◌+◌, ◌*◌, ◌<◌, ◌≤◌, Bool, true, false, cond, ◌&&◌, ltb, get_or, is_some, None, Option, sym, refl, ap, ◌∙◌, ⊎_elim, arith, le-ltb, lt-ltb, cases_lt, get_or-map-range_with_len, get_or_past, IsCellTable, entry_at, AreFilled, labelled_cell, is_labelled_within, Problem, square_side, Whole, Cost, Grid, cell_at, HasLabelsOf, HasCellsOf, HasPresenceOf, row_label, column_label}

-- what is told of each cell, where it is told of the cells by their labels
module _ {V A : Type 0} (X : Problem) (Q : Grid V) (labels : HasLabelsOf X Q) (table : IsCellTable (record { side = Q.side; cells = Q.cells })) (told : Option V → A) (cell : Option ℕ → Option ℕ → A) (filled : AreFilled Q.side (λ r c. told (entry_at Q.side Q.cells r c)) Q.row_labels Q.column_labels cell) where
  row_at : (r : ℕ) → r < square_side X → get_or Q.row_labels r None ≡ row_label X r
  row_at r h = ap (λ xs. get_or xs r None) labels.row_labels ∙ get_or-map-range_with_len (row_label X) 0 (square_side X) r r None h (omega arith)

  column_at : (c : ℕ) → c < square_side X → get_or Q.column_labels c None ≡ column_label X c
  column_at c h = ap (λ xs. get_or xs c None) labels.column_labels ∙ get_or-map-range_with_len (column_label X) 0 (square_side X) c c None h (omega arith)

  abbrev inner : ℕ → ℕ → A
  inner r c = cell (row_label X r) (column_label X c)

  inside_cell : (r c : ℕ) → r < Q.side → c < Q.side → told (entry_at Q.side Q.cells r c) ≡ inner r c
  inside_cell r c h k =
      let side = labels.side in
      filled r c h k
      ∙ ap (λ o. cell o (get_or Q.column_labels c None)) (row_at r (omega (arith, side, h)))
      ∙ ap (cell (row_label X r)) (column_at c (omega (arith, side, k)))

  and_false : (b : Bool) → (b && false) ≡ false
  and_false true = refl
  and_false false = refl

  cell_is : (r c : ℕ) → told (entry_at Q.side Q.cells r c) ≡ cond (ltb r Q.side && ltb c Q.side) (inner r c) (told None)
  cell_is r c =
      ⊎_elim
      (λ (column : c < Q.side).
      ⊎_elim
      (λ (row : r < Q.side). inside_cell r c row column ∙ sym (rw (lt-ltb c Q.side column, lt-ltb r Q.side row) refl))
      (λ (past : Q.side ≤ r).
      let count = table.count in
      ap (λ b. told (cond b (get_or Q.cells (r * Q.side + c) None) None)) (lt-ltb c Q.side column)
      ∙ ap told (get_or_past Q.cells (r * Q.side + c) None (grind (arith, count, past)))
      ∙ sym (rw (le-ltb r Q.side past) refl))
      (cases_lt r Q.side))
      (λ (past : Q.side ≤ c).
      ap (λ b. told (cond b (get_or Q.cells (r * Q.side + c) None) None)) (le-ltb c Q.side past)
      ∙ sym (rw (le-ltb c Q.side past, and_false (ltb r Q.side)) refl))
      (cases_lt c Q.side)

  pub told_cells : (r c : ℕ) → told (cell_at Q r c) ≡ cond (ltb r (square_side X) && ltb c (square_side X)) (cell (row_label X r) (column_label X c)) (told None)
  told_cells r c = cell_is r c ∙ ap (λ n. cond (ltb r n && ltb c n) (inner r c) (told None)) labels.side

-- the square has the cells of the instance's
pub has_cells : {V : Type 0} (X : Problem) (free : V) (enter : Cost → V) (Q : Grid V) → HasLabelsOf X Q → IsCellTable (record { side = Q.side; cells = Q.cells }) → AreFilled Q.side (entry_at Q.side Q.cells) Q.row_labels Q.column_labels (labelled_cell X free enter) → HasCellsOf X free enter Q
has_cells X free enter Q labels table filled = told_cells X Q labels table (λ o. o) (labelled_cell X free enter) filled

-- and it has them where the instance's has some
pub has_presence : {V : Type 0} (X : Problem) (Q : Grid V) → HasLabelsOf X Q → IsCellTable (record { side = Q.side; cells = Q.cells }) → AreFilled Q.side (λ r c. is_some (entry_at Q.side Q.cells r c)) Q.row_labels Q.column_labels (is_labelled_within X Whole) → HasPresenceOf X Q
has_presence X Q labels table filled r c =
    told_cells X Q labels table is_some (is_labelled_within X Whole) filled r c
    ∙ all_of (ltb r (square_side X)) (ltb c (square_side X)) (is_labelled_within X Whole (row_label X r) (column_label X c))
  where
    all_of : (a b x : Bool) → cond (a && b) x false ≡ (a && b && x)
    all_of true true x = refl
    all_of true false x = refl
    all_of false b x = refl
