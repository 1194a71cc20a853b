-- How many lines ask for an answer.
use Rattle.std.proofs.Common.{◌≡◌, ℕ, ◌+◌, ◌<◌, ◌≤◌, List, [], ◌∷◌, length, drop, get_or, ap, arith}
use Rattle.asg_text.specs.SpelledLines.{rest_at}
use Rattle.asg_text.specs.SolveLines.{solve_count, solves}
use Rattle.asg_text.specs.declared.script_lines.Line.{Line}
use Rattle.asg_text.specs.declared.script_lines.Line.TheVariants.{Edit, Solve}

-- one line more
pub counted_more : (lines : List (ℕ × Line)) (place : ℕ) (d : ℕ × Line) (one : ℕ) → place < length lines → one ≡ solves (get_or lines place d).1 → solve_count (drop place lines) ≡ one + solve_count (drop (place + 1) lines)
counted_more lines place d one within is =
    let rest = ap solve_count (rest_at lines place d within) in
    omega (arith, rest, is)

-- no more than all
solves-le : (line : Line) → solves line ≤ 1
solves-le (Edit edit) = omega arith
solves-le Solve = omega arith

pub solve_count-le : (lines : List (ℕ × Line)) → solve_count lines ≤ length lines
solve_count-le [] = omega arith
solve_count-le (line ∷ lines) = omega (arith, solves-le line.1, solve_count-le lines)
