-- Square and rect files with the same cells.
use Rattle.asg_text.proofs.Common.{◌≡◌, ℕ, ◌+◌, ◌*◌, Bool, true, false, cond, not, ◌↔◌, List, [], ◌∷◌, ◌++◌, map, take, Some, None, Option, sym, refl, ap, ◌∙◌, range_with_len, Problem, Cost, Square, Rect, size_of, Spells, reading_with, table_of, is_absent, is_in_range, cost_of, cost_faults, cell_faults, cell_of, faults_of_cells, size_faults, table_faults, reading_of_table, reading_of_square, reading_of_rect, none_in_front, spelled}
use Rattle.asg_tokens.specs.Faults.{CostRange}
use Rattle.asg_tokens.specs.Tables.{token_faults}
use Rattle.asg_text.specs.SameCells.{HaveSameCells}
use Rattle.asg_text.specs.Texts.{reading_of}

-- whether a cell has a fault doesn't hang on its place
cost_right : (p q : ℕ) (cost : Option Cost) → cost_faults p cost ≡ [] → cost_faults q cost ≡ []
cost_right p q None right = cc
cost_right p q (Some cost) right = by (is_in_range cost) right
  where
    by : (v : Bool) → cond (not v) (CostRange p ∷ []) [] ≡ [] → cond (not v) (CostRange q ∷ []) [] ≡ []
    by true e = refl
    by false e = cc

token_right : (p q : ℕ) (token : List ℕ) → token_faults p token ≡ [] → token_faults q token ≡ []
unfolding token_faults
token_right p q token right = by (is_absent token) right
  where
    by : (v : Bool) → cond v [] (cost_faults p (cost_of token)) ≡ [] → cond v [] (cost_faults q (cost_of token)) ≡ []
    by true e = refl
    by false e = cost_right p q (cost_of token) e

cells_right : (p q : ℕ) (cells : List (List ℕ)) → cell_faults p cells ≡ [] → cell_faults q cells ≡ []
cells_right p q [] right = refl
cells_right p q (token ∷ cells) right =
    let parts = none_in_front (token_faults p token) (cell_faults (p + 1) cells) right in
    (λ i. token_right p q token parts.0 i ++ cells_right (p + 1) (q + 1) cells parts.1 i)

table_spells : (p q : ℕ) (n m : Option ℕ) (cells : List (List ℕ)) (X : Problem) → reading_of_table p n m cells ≡ Spells X → reading_of_table q n m cells ≡ Spells X
table_spells p q None m cells X e = cc
table_spells p q (Some n) None cells X e = cc
table_spells p q (Some n) (Some m) cells X e =
    let table : Problem = table_of (range_with_len 1 n) (range_with_len 1 m) (map cell_of cells) in
    let parts = none_in_front (size_faults n m) (faults_of_cells p (n * m) cells) (spelled (table_faults p n m cells) table X e).0 in
    let more = none_in_front (cell_faults (p + 1) (take (n * m) cells)) _ parts.1 in
    (λ i. reading_with (parts.0 i ++ (cells_right (p + 1) (q + 1) (take (n * m) cells) more.0 i ++ more.1 i)) table)
    ∙ sym (λ i. reading_with (parts.0 i ++ (more.0 i ++ more.1 i)) table) ∙ e

module _ (square rect : List ℕ) (same : HaveSameCells square rect) where
  square_is : reading_of Square square ≡ reading_of_table 1 (size_of same.size) (size_of same.size) same.cells
  unfolding reading_of
  square_is = ap reading_of_square same.square_tokens

  rect_is : reading_of Rect rect ≡ reading_of_table 2 (size_of same.size) (size_of same.size) same.cells
  unfolding reading_of
  rect_is = ap reading_of_rect same.rect_tokens ∙ (λ i. reading_of_table 2 (same.same_rows i) (same.same_columns i) same.cells)

  pub same_instance : (X : Problem) → (reading_of Square square ≡ Spells X) ↔ (reading_of Rect rect ≡ Spells X)
  same_instance X =
      (λ e. rect_is ∙ table_spells 1 2 (size_of same.size) (size_of same.size) same.cells X (sym square_is ∙ e), λ e. square_is ∙ table_spells 2 1 (size_of same.size) (size_of same.size) same.cells X (sym rect_is ∙ e))
