-- Rows of a square whose values change.
use Rattle.std.specs.Prelude.{◌≡◌, ◌≢◌, ℕ}
use Rattle.asg_cell_tables.specs.Changes.{Becomes}
use Rattle.asg_square.specs.Grid.{Grid, cell_at}

-- each cell of the row at place r becomes another by its column, and all other cells and the labels
-- are as before
pub record MapsRow {V : Type 0} (Q after : Grid V) (r : ℕ) (changes : ℕ → V → V → Type 0) : Type 0 where
  pub side : after.side ≡ Q.side
  pub rows : after.rows ≡ Q.rows
  pub row_labels : after.row_labels ≡ Q.row_labels
  pub column_labels : after.column_labels ≡ Q.column_labels
  pub cells : (k : ℕ) → Becomes (changes k) (cell_at Q r k) (cell_at after r k)
  pub others : (s k : ℕ) → s ≢ r → cell_at after s k ≡ cell_at Q s k
