-- Cells by what their rows and columns stand for, and the values as which costs enter.
use Rattle.std.specs.Prelude.{◌≡◌, ℕ, Bool, true, false, Option, Some, None, IfSome}
use Rattle.std.specs.Option.{option_map}
use Rattle.asg_model.specs.declared.bands.Band.{Band}
use Rattle.asg_model.specs.declared.parts.Cost.{Cost}
use Rattle.asg_model.specs.declared.parts.Place.{Place}
use Rattle.asg_model.specs.declared.parts.Place.TheVariants.{All, Exactly}
use Rattle.asg_model.specs.HallSet.{is_live_within}
use Rattle.asg_model.specs.Live.{live_at}
use Rattle.asg_model.specs.Problem.{Problem}

-- the cell of a counted row in an extra column
abbrev pub extra_column_cell : {V : Type 0} → Place → V → Option V
extra_column_cell All free = None
extra_column_cell (Exactly k) free = Some free

-- the cell of a row that isn't counted in an extra column
abbrev pub corner_cell : {V : Type 0} → Place → V → Option V
corner_cell All free = Some free
corner_cell (Exactly k) free = None

-- a cell, by the row that its square row stands for and the column that its square column is a copy
-- of
abbrev pub labelled_cell : {V : Type 0} → Problem → V → (Cost → V) → Option ℕ → Option ℕ → Option V
labelled_cell X free enter (Some r) (Some d) = option_map enter (live_at X r d)
labelled_cell X free enter (Some r) None = extra_column_cell X.place free
labelled_cell X free enter None (Some d) = Some free
labelled_cell X free enter None None = corner_cell X.place free

-- counted rows have cells in extra columns
abbrev pub leaves_rows : Place → Bool
leaves_rows All = false
leaves_rows (Exactly k) = true

-- rows that aren't counted have cells in extra columns
abbrev pub has_corner : Place → Bool
has_corner All = true
has_corner (Exactly k) = false

-- a cell is there, where of the live cells those of the band count: by the row that its square row
-- stands for and the column that its square column is a copy of
abbrev pub is_labelled_within : Problem → Band → Option ℕ → Option ℕ → Bool
is_labelled_within X band (Some r) (Some d) = is_live_within X band r d
is_labelled_within X band (Some r) None = leaves_rows X.place
is_labelled_within X band None (Some d) = true
is_labelled_within X band None None = has_corner X.place

-- each live cost may enter
abbrev pub MayEnterEach : Problem → (Cost → Type 0) → Type 0
MayEnterEach X may = (r c : ℕ) → IfSome (live_at X r c) may

-- live costs enter as their values
abbrev pub EntersAs : {V : Type 0} → Problem → (Cost → V → Type 0) → (Cost → V) → Type 0
EntersAs {V} X enters entered = (r c : ℕ) (cost : Cost) (v : V) → live_at X r c ≡ Some cost → enters cost v → v ≡ entered cost

-- the fact holds, whatever values the live costs enter as
abbrev pub Entering : {V : Type 0} → Problem → (Cost → V → Type 0) → ((Cost → V) → Type 0) → Type 0
Entering {V} X enters Fact = (entered : Cost → V) → EntersAs X enters entered → Fact entered
