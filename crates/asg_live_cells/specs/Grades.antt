-- Grades: whole numbers in place of costs, which ascend as they do.
use Rattle.std.specs.Prelude.{ℕ, ℤ, pos, ◌+ℤ◌, ◌-ℤ◌, ◌+◌, ◌*◌, unsigned_abs}
use Rattle.asg_model.specs.declared.parts.Cost.{Cost}
use Rattle.asg_model.specs.Limits.{most_cost}

-- the grade of a cost: its distance from one below the least cost that there may be, from 1 on
abbrev pub grade_of : Cost → ℕ
grade_of cost = unsigned_abs (cost.a +ℤ pos (most_cost + 1))

-- the grade of a free cell, under those of all costs
abbrev pub free_grade : ℕ
free_grade = 0

-- the grade of the greatest cost that there may be
abbrev pub most_grade : ℕ
most_grade = 2 * most_cost + 1

-- the cost that a grade stands for
abbrev pub cost_of : ℕ → ℤ
cost_of grade = pos grade -ℤ pos (most_cost + 1)
