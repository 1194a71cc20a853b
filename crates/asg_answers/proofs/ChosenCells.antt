-- The cells of a choice, row by row.
use Rattle.asg_answers.proofs.Common.{◌≡◌, ℕ, zero, suc, ◌+◌, ◌<◌, List, [], ◌∷◌, ◌++◌, length, drop, slice_get, Some, None, Option, option_to_list, zip, filter_map, option_and_then, sym, refl, ap, ◌∙◌, append_assoc, append-nil, add-one, arith, cons_option, cell_at, cell_by_id, Problem, Row}

-- the cells of the rows from a place on
abbrev pub cells_from : Problem → List (Option ℕ) → ℕ → List (ℕ × ℕ)
cells_from X f r = filter_map (cell_by_id X) (zip (drop r X.rows) (drop r f))

-- the cells from a place on are the cell of the row there, if it chooses, and then those of the
-- rest
pub cells_from-step : (X : Problem) (f : List (Option ℕ)) (r : ℕ) → r < length X.rows → r < length f → cells_from X f r ≡ cons_option (cell_at X f r) (cells_from X f (r + 1))
cells_from-step X f r in_rows in_choice = rw add-one (step X.rows f r in_rows in_choice)
  where
    step : (rows : List Row) (f : List (Option ℕ)) (r : ℕ) → r < length rows → r < length f → filter_map (cell_by_id X) (zip (drop r rows) (drop r f))
        ≡ cons_option (option_and_then (λ row. option_and_then (λ chosen. cell_by_id X (row, chosen)) (slice_get f r)) (slice_get rows r)) (filter_map (cell_by_id X) (zip (drop (suc r) rows) (drop (suc r) f)))
    step [] f r in_rows in_choice = absurd (omega arith)
    step (row ∷ rows) [] r in_rows in_choice = absurd (omega arith)
    step (row ∷ rows) (chosen ∷ f) zero in_rows in_choice = refl
    step (row ∷ rows) (chosen ∷ f) (suc r) in_rows in_choice = step rows f r (omega arith) (omega arith)

-- the cells so far and those from a place on stay the same together when the cell there, if any, is
-- moved
pub cells_from-moved : (cells rest total : List (ℕ × ℕ)) (from : List (ℕ × ℕ)) (found : Option (ℕ × ℕ)) → cells ++ from ≡ total → from ≡ cons_option found rest → (cells ++ option_to_list found) ++ rest ≡ total
cells_from-moved cells rest total from None told e = ap (λ xs. xs ++ rest) (append-nil cells) ∙ ap (λ xs. cells ++ xs) (sym e) ∙ told
cells_from-moved cells rest total from (Some cell) told e = append_assoc cells (cell ∷ []) rest ∙ ap (λ xs. cells ++ xs) (sym e) ∙ told
