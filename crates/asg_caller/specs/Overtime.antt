-- Crews and duties as rows and columns.
use Rattle.std.specs.Prelude.{ℕ, true}
use Rattle.asg_model.specs.declared.parts.Column.{Column}
use Rattle.asg_model.specs.declared.parts.Row.{Row}

-- a crew, which is to take a duty
abbrev pub crew : ℕ → Row
crew id = record { id = id; active = true }

-- a duty, which one crew may take
abbrev pub duty : ℕ → Column
duty id = record { id = id; cap = 1; usable = true }
