-- The state of the solver, after the costs from a bound on were gone through.
use Rattle.std.specs.Prelude.{◌≡◌, ◌↔◌, ℕ, ℤ, ◌≤ℤ◌, Bool, true, int_le, ◌&&◌, Option, Some, None, List}
use Rattle.asg_model.specs.declared.bands.Band.TheVariants.{Whole}
use Rattle.asg_model.specs.Problem.{Problem}
use Rattle.asg_square.specs.Presence.{has_cell}
use Rattle.asg_proof.specs.declared.levels.Level.{Level}
use Rattle.asg_proof.specs.Levels.{AreProvedLevels, without, is_after}
use Rattle.asg_bit_rows.specs.BitTable.{BitTable}
use Rattle.asg_live_cells.specs.Grades.{cost_of}
use Rattle.asg_live_cells.specs.Marks.{IsMarked}
use Rattle.asg_proof.specs.Levels.{last_cost, left_so_far}

-- the costs from a bound on that come after the last level's
abbrev pub is_gone : Option ℤ → ℕ → ℤ → Bool
is_gone before bound z = is_after before z && int_le (cost_of bound) z

-- the cost of the last of the levels, and what is left after it
abbrev pub before_of : List Level → Option ℤ
before_of levels = last_cost None levels

abbrev pub left_of : Problem → List Level → ℕ → ℕ → Bool
left_of X levels = left_so_far X None (has_cell X Whole) levels

-- the levels so far are proved; what is marked is what is left after them without the costs from
-- the bound on that come after the last one's
pub record AreMarksOf (X : Problem) (side bound : ℕ) (levels : List Level) (marks : BitTable) : Type 0 where
  pub proved : AreProvedLevels X levels
  pub present : (r c : ℕ) → left_of X levels r c ≡ true → has_cell X Whole r c ≡ true
  pub marked : (r c : ℕ) → IsMarked marks side r c ↔ (without X (is_gone (before_of levels) bound) (left_of X levels) r c ≡ true)
  pub order : (v : ℤ) → before_of levels ≡ Some v → cost_of bound ≤ℤ v
