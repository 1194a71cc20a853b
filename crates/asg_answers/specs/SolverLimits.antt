-- How large an instance the solver of an objective takes.
use Rattle.std.specs.Prelude.{◌≡◌, ℕ, ◌<◌, length}
use Rattle.asg_model.specs.declared.objectives.Objective.{Objective}
use Rattle.asg_model.specs.declared.objectives.Objective.TheVariants.{Balanced, Lex}
use Rattle.asg_model.specs.Problem.{Problem}
use Rattle.asg_model.specs.DifferentCosts.{HasCosts, HasFewCosts, most_costs}
use Rattle.asg_proof.specs.LevelRows.{HasFewRows, most_level_rows}

-- the solver takes the instance: for `balanced` the live cells have at most 20,000 different costs,
-- for `lex` there are at most 200 rows; the other objectives take any instance
abbrev pub SolverTakes : Objective → Problem → Type 0
SolverTakes Balanced X = HasFewCosts X
SolverTakes Lex X = HasFewRows X
SolverTakes _ X = Unit {0}

-- the solver refuses the instance: for `balanced`, whose live cells have so many different costs,
-- more than 20,000; for `lex`, of so many rows, more than 200
abbrev pub SolverRefuses : Objective → Problem → ℕ → Type 0
SolverRefuses Balanced X count = HasCosts X count × (most_costs < count)
SolverRefuses Lex X count = (length X.rows ≡ count) × (most_level_rows < count)
SolverRefuses _ X count = ⊥

-- the number of the refusal
abbrev pub limit_number : Objective → ℕ
limit_number Lex = 17
limit_number _ = 16
