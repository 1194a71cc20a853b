-- Where the square of an instance has cells, their values aside.
use Rattle.std.specs.Prelude.{ℕ, ◌&&◌, nat_lt, Bool}
use Rattle.asg_model.specs.declared.bands.Band.{Band}
use Rattle.asg_model.specs.Problem.{Problem}
use Rattle.asg_model.specs.Shapes.{square_side}
use Rattle.asg_cell_tables.specs.LabelledCells.{is_labelled_within}
use Rattle.asg_square.specs.Labels.{row_label, column_label}

-- the square has a cell at a row and a column, where of the live cells those of the band count
abbrev pub has_cell : Problem → Band → ℕ → ℕ → Bool
has_cell X band r c =
    nat_lt r (square_side X) && nat_lt c (square_side X) && is_labelled_within X band (row_label X r) (column_label X c)
