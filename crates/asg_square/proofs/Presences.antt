-- A cell of the square is present where its labels say so.
use Rattle.asg_square.proofs.Common.{◌≡◌, ℕ, true, false, is_some, Some, None, Option, option_map, refl, option_map_or, extra_column_cell, corner_cell, labelled_cell, leaves_rows, has_corner, is_labelled_within, live_at, Problem, Whole, Cost, Place}
use Rattle.asg_model.specs.declared.parts.Place.TheVariants.{All as PlaceAll, Exactly}

extra_some : {V : Type 0} (place : Place) (free : V) → is_some (extra_column_cell place free) ≡ leaves_rows place
extra_some PlaceAll free = refl
extra_some (Exactly k) free = refl

corner_some : {V : Type 0} (place : Place) (free : V) → is_some (corner_cell place free) ≡ has_corner place
corner_some PlaceAll free = refl
corner_some (Exactly k) free = refl

live_some : {V : Type 0} (enter : Cost → V) (o : Option Cost) → is_some (option_map enter o) ≡ option_map_or (λ cost. true) o false
live_some enter None = refl
live_some enter (Some cost) = refl

-- a cell is present exactly where the labels say so
pub present_is : {V : Type 0} (X : Problem) (free : V) (enter : Cost → V) (a o : Option ℕ) → is_some (labelled_cell X free enter a o) ≡ is_labelled_within X Whole a o
present_is X free enter (Some r) (Some d) = live_some enter (live_at X r d)
present_is X free enter (Some r) None = extra_some X.place free
present_is X free enter None (Some d) = refl
present_is X free enter None None = corner_some X.place free
