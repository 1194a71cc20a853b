use Rattle.std.specs.Prelude.{◌≡◌, ◌⊎◌, ℕ, ◌<◌, ℤ, pos, ◌≤ℤ◌, Bool, false, int_lt, IsTrue, Some, slice_get, IfSome}
use Rattle.std.specs.Option.{option_map, option_map_or}
use Rattle.asg_model.specs.declared.parts.Cost.{Cost}
use Rattle.asg_model.specs.declared.objectives.Objective.{Objective}
use Rattle.asg_model.specs.declared.objectives.Objective.TheVariants.{Capped, TimeCost}
use Rattle.asg_model.specs.Problem.{Problem}
use Rattle.asg_model.specs.Live.{live_at}

-- an objective refuses a cost: `capped` a negative first part, `time-cost` a negative second part
abbrev pub is_refused : Objective → Cost → Bool
is_refused (Capped cap) cost = int_lt cost.a (pos 0)
is_refused TimeCost cost = int_lt cost.b (pos 0)
is_refused _ cost = false

-- a part is one that is passed over, or isn't negative
abbrev pub IsPassed : ℤ → ℤ → Type 0
IsPassed passed part = (part ≡ passed) ⊎ (pos 0 ≤ℤ part)

-- the objective refuses no live cost of an instance
abbrev pub PassesNegative : Objective → Problem → Type 0
PassesNegative objective X =
    (r c : ℕ) → IfSome (live_at X r c) (λ cost. is_refused objective cost ≡ false)

-- the cell at the places r and c is live, and the objective refuses its cost
abbrev pub is_refused_at : Objective → Problem → ℕ → ℕ → Bool
is_refused_at objective X r c = option_map_or (is_refused objective) (live_at X r c) false

-- the id of the column of the first refused live cell of the row at place r
pub record IsFirstRefusedOf (objective : Objective) (X : Problem) (r : ℕ) (id : ℕ) : Type 0 where
  pub column : ℕ
  pub refused : IsTrue (is_refused_at objective X r column)
  pub has_id : option_map (λ column. column.id) (slice_get X.columns column) ≡ Some id
  pub none_left : (c : ℕ) → c < column → is_refused_at objective X r c ≡ false

-- the ids of the row and the column of the first refused live cell, row by row
pub record IsFirstRefused (objective : Objective) (X : Problem) (ids : ℕ × ℕ) : Type 0 where
  pub row : ℕ
  pub in_row : IsFirstRefusedOf objective X row ids.1
  pub has_id : option_map (λ row. row.id) (slice_get X.rows row) ≡ Some ids.0
  pub none_above : (r c : ℕ) → r < row → is_refused_at objective X r c ≡ false
