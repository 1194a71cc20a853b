-- The perfect assignment that is made of a valid choice.
use Rattle.std.specs.Prelude.{ℕ, ◌+◌, Option, None, List, map, slice_index_or}
use Rattle.std.specs.List.{range_with_len}
use Rattle.std.specs.Option.{option_map}
use Rattle.asg_model.specs.Problem.{Problem}
use Rattle.asg_model.specs.ValidChoice.{takes}
use Rattle.asg_model.specs.Shapes.{square_side}
use Rattle.asg_square.specs.Labels.{first_copy}
use Rattle.asg_model.specs.Sums.{count_below}
use Rattle.asg_square.specs.Completion.{completed}

-- what the row at place r chooses, nothing past the last row
abbrev pub chosen : List (Option ℕ) → ℕ → Option ℕ
chosen f r = slice_index_or f r None

-- how many of the rows before r choose the column at place d
abbrev pub takers_before : List (Option ℕ) → ℕ → ℕ → ℕ
takers_before f d r = count_below (λ s. takes d (chosen f s)) r

-- the copy that a row takes, if it chooses a column
abbrev pub own_copy : Problem → List (Option ℕ) → ℕ → Option ℕ
own_copy X f r = option_map (λ d. first_copy X d + takers_before f d r) (chosen f r)

-- the square column of each row
abbrev pub perm_column : Problem → List (Option ℕ) → ℕ → ℕ
perm_column X f r = completed (own_copy X f) (square_side X) r

abbrev pub perm_list : Problem → List (Option ℕ) → List ℕ
perm_list X f = map (perm_column X f) (range_with_len 0 (square_side X))
