-- The cells of a choice are by ids.
use Rattle.asg_answers.proofs.Common.{ℕ, zero, suc, ◌^◌, ◌<◌, List, [], ◌∷◌, IfSome, slice_get, Some, None, All, Option, option_map, zip, filter_map, arith, All-cons, All-nil, cons_option, AreCellIds, IsCellOfIds, cell_by_id, cells_by_id, IsInstance, Problem, Row}
use Rattle.asg_model.specs.declared.parts.Column.{Column}

-- the column at a place is one of those that have an id
at_place : (columns : List Column) (c : ℕ) → All (λ column. column.id < 2 ^ 32) columns → IfSome (slice_get columns c) (λ column. column.id < 2 ^ 32)
at_place [] c ids = tt
at_place (column ∷ columns) zero ids = ids 0 column (omega arith)
at_place (column ∷ columns) (suc c) ids = at_place columns c (λ i d within. ids (suc i) d (omega arith))

-- the cell of a row
cell_id : (X : Problem) (row : Row) (chosen : Option ℕ) → row.id < 2 ^ 32 → All (λ column. column.id < 2 ^ 32) X.columns → IfSome (cell_by_id X (row, chosen)) IsCellOfIds
cell_id X row None of_row columns = tt
cell_id X row (Some c) of_row columns = by_column (slice_get X.columns c) (at_place X.columns c columns)
  where
    by_column : (found : Option Column) → IfSome found (λ column. column.id < 2 ^ 32)
        → IfSome (option_map (λ id. (row.id, id)) (option_map (λ column. column.id) found)) IsCellOfIds
    by_column None of_column = tt
    by_column (Some column) of_column = (of_row, of_column)

-- one more cell, where there is one
more : (found : Option (ℕ × ℕ)) (cells : List (ℕ × ℕ)) → IfSome found IsCellOfIds → AreCellIds cells → AreCellIds (cons_option found cells)
more None cells one ids = ids
more (Some cell) cells one ids = All-cons IsCellOfIds cell cells one ids

ids_of : (X : Problem) (rows : List Row) (f : List (Option ℕ)) → All (λ row. row.id < 2 ^ 32) rows → All (λ column. column.id < 2 ^ 32) X.columns → AreCellIds (filter_map (cell_by_id X) (zip rows f))
ids_of X [] f of_rows columns = All-nil IsCellOfIds
ids_of X (row ∷ rows) [] of_rows columns = All-nil IsCellOfIds
ids_of X (row ∷ rows) (chosen ∷ f) of_rows columns =
    more (cell_by_id X (row, chosen)) (filter_map (cell_by_id X) (zip rows f))
    (cell_id X row chosen (of_rows 0 row (omega arith)) columns)
    (ids_of X rows f (λ i d within. of_rows (suc i) d (omega arith)) columns)

pub cell_ids : (X : Problem) (f : List (Option ℕ)) → IsInstance X → AreCellIds (cells_by_id X f)
cell_ids X f i = ids_of X X.rows f i.row_ids i.column_ids
