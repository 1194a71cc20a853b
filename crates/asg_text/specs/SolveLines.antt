-- The `solve` lines of a script.
use Rattle.std.specs.Prelude.{ℕ, ◌+◌, List, [], ◌∷◌}
use Rattle.asg_text.specs.declared.script_lines.Line.{Line}
use Rattle.asg_text.specs.declared.script_lines.Line.TheVariants.{Edit, Solve}

-- 1 for a line that asks for an answer, else 0
abbrev pub solves : Line → ℕ
solves (Edit edit) = 0
solves Solve = 1

-- how many lines ask for an answer
abbrev pub solve_count : List (ℕ × Line) → ℕ
solve_count [] = 0
solve_count (line ∷ lines) = solves line.1 + solve_count lines
