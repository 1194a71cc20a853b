-- What solving a square came to.
use Rattle.std.specs.Prelude.{◌≡◌, ℕ, None, List, length, Option}
use Rattle.asg_admit.specs.declared.reduced.Reduced.{Reduced}
use Rattle.asg_admit.specs.Reduced.{KeepsPresence}
use Rattle.asg_algebra.specs.declared.square_solvers.AssignedSquare.{AssignedSquare}
use Rattle.asg_algebra.specs.declared.square_solvers.SolvedSquare.{SolvedSquare}
use Rattle.asg_algebra.specs.Ended.{EndsIn, last_of}
use Rattle.asg_algebra.specs.Solved.{HasSolved}
use Rattle.asg_order.specs.Monoid.{Monoid}
use Rattle.asg_pool.specs.Forest.{Forest}
use Rattle.asg_square.specs.Grid.{Grid}
use Rattle.asg_algebra.specs.declared.workplaces.Workplace.{Workplace}

-- a square was solved in a workplace, from the unit on and without an earlier trail
pub record IsSolvedFrom {V : Type 0} (M : Monoid V) (difference : V → V → V) (Q : Grid V)
    (found : SolvedSquare V) (memory : Workplace V) : Type 0 where
  pub before : Reduced V
  pub start : before.now ≡ Q
  pub at_unit : before.index ≡ M.unit
  pub matching : List (Option ℕ)
  pub over : length matching ≡ before.now.side
  pub forest : Forest V
  pub solved : HasSolved M difference before found.reduced matching memory.matching forest
      memory.region None (last_of found.ended)
  pub ends : EndsIn M found.reduced memory.matching memory.bench.rows found.ended

-- the same where a square with the labels and the present cells of the reduced one is left
pub record IsAssignedFrom {V : Type 0} (M : Monoid V) (difference : V → V → V) (Q : Grid V)
    (found : AssignedSquare V) (memory : Workplace V) : Type 0 where
  pub after : Reduced V
  pub from : IsSolvedFrom M difference Q (record { reduced = after; ended = found.ended }) memory
  pub presence : KeepsPresence after.now found.square
