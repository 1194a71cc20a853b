-- A square that was solved, without the values of its reduced cells.
use Rattle.std.specs.Prelude.{ℕ, None, List, Option}
use Rattle.asg_admit.specs.declared.reduced.Reduced.{Reduced}
use Rattle.asg_admit.specs.Reduced.{KeepsPresence}
use Rattle.asg_order.specs.Monoid.{Monoid}
use Rattle.asg_pool.specs.Forest.{Forest}
use Rattle.asg_algebra.specs.declared.square_solvers.AssignedSquare.{AssignedSquare}
use Rattle.asg_algebra.specs.Ended.{EndsIn, last_of}
use Rattle.asg_algebra.specs.Solved.{HasSolved}

-- phases without an earlier trail lead to a reduced square, which has the labels and the present
-- cells of the square that is left, and it ended so
pub record IsAssigned {V : Type 0} (M : Monoid V) (difference : V → V → V) (before : Reduced V)
    (matching matching_after : List (Option ℕ)) (forest forest_after : Forest V)
    (assigned : AssignedSquare V) : Type 0 where
  pub after : Reduced V
  pub solved : HasSolved M difference before after matching matching_after forest forest_after None
      (last_of assigned.ended)
  pub ends : (rows : List ℕ) → EndsIn M after matching_after rows assigned.ended
  pub presence : KeepsPresence after.now assigned.square
