-- Grades and their costs.
use Rattle.std.proofs.Common.{◌≡◌, ◌<◌, ◌≤◌, arith}
use Rattle.std.specs.Prelude.{unsigned_abs}
use Rattle.std.proofs.lemmas.Int.{ints}
use Rattle.asg_model.specs.declared.parts.Cost.{Cost}
use Rattle.asg_model.specs.Limits.{most_cost}
use Rattle.asg_live_cells.specs.Grades.{grade_of, cost_of, most_grade}

-- all costs have a grade above that of a free cell, up to that of the greatest
pub grade_above : (cost : Cost) → unsigned_abs cost.a ≤ most_cost → 0 < grade_of cost
grade_above cost h = grind (arith, ints)

pub grade_upto : (cost : Cost) → unsigned_abs cost.a ≤ most_cost → grade_of cost ≤ most_grade
grade_upto cost h = grind (arith, ints)

-- the cost of a cost's grade is the cost
pub cost_back : (cost : Cost) → unsigned_abs cost.a ≤ most_cost → cost_of (grade_of cost) ≡ cost.a
cost_back cost h = grind (arith, ints)
