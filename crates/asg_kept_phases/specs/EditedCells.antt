-- The cells of the square that an edit changes, as they are after it.
use Rattle.std.specs.Prelude.{ℕ, Bool, Option, Some, None, if◌then◌else◌}
use Rattle.asg_model.specs.declared.parts.Place.{Place}
use Rattle.asg_model.specs.declared.parts.Place.TheVariants.{All, Exactly}

-- the cell of a dropped row in a column that is a copy of this one, if it is a copy
abbrev pub dropped_cell : {V : Type 0} → Place → Option ℕ → V → Option V
dropped_cell All label free = Some free
dropped_cell (Exactly k) (Some d) free = None
dropped_cell (Exactly k) None free = Some free

-- the cell of a row that is counted, or isn't, in a copy of a closed column
abbrev pub closed_cell : {V : Type 0} → Bool → V → Option V
closed_cell counted free = if counted then None else Some free
