-- Squares after trails.
use Rattle.std.specs.Prelude.{◌≡◌, ℕ, List}
use Rattle.asg_model.specs.Problem.{Problem}
use Rattle.asg_order.specs.declared.words.Word.{Word}
use Rattle.asg_order.specs.Monoid.{IsValue}
use Rattle.asg_square.specs.Cells.{square_cell}
use Rattle.asg_square.specs.Grid.{Grid, HasLabelsOf, cell_at}
use Rattle.asg_square.specs.Masked.{masked_grid}
use Rattle.asg_bit_rows.specs.BitTable.{BitTable}
use Rattle.asg_proof.specs.Phases.{PhaseOf, after_phases, index_of}
use Rattle.asg_rankings.specs.SearchTrees.{AreAdmittedWords}
use Rattle.asg_proof.specs.Steps.{HasValues}
use Rattle.asg_rankings.specs.Nodes.{node_at, node_trail}
use Rattle.asg_admit.specs.declared.reduced.Reduced.{Reduced}
use Rattle.asg_kept_cells.specs.Kept.{KeepsOtherRows}
use Rattle.asg_trees.specs.Trees.{IsSound, TreeOf, instance_at}

-- a square is that of an instance after a trail, and the index is that of the trail
pub record IsTrailSquare {V : Type 0} (T : TreeOf V) (Y : Problem) (trail : List (PhaseOf Word)) (Q : Grid V)
    (index : V) : Type 0 where
  pub admitted : AreAdmittedWords T.monoid T.difference T.word_of T.enter Y trail
  pub labels : HasLabelsOf Y Q
  pub cells : cell_at Q ≡ after_phases T.monoid T.difference admitted.phases (square_cell Y T.monoid.unit T.enter)
  pub product : index ≡ index_of T.monoid admitted.phases
  pub values : HasValues T.monoid Q.side (cell_at Q)
  pub is_value : IsValue T.monoid index

-- a square is that of node number n after its trail
abbrev pub StandsAt : {V : Type 0} → TreeOf V → ℕ → Grid V → V → Type 0
StandsAt T n Q index = IsTrailSquare T (instance_at T n) (node_trail T.nodes n) Q index

-- a node is as it must be, a reduced square is its own after its trail, and bits keep all cells of
-- the rows that don't stand for an active row
pub record IsAt {V : Type 0} (T : TreeOf V) (n : ℕ) (reduced : Reduced V) (bits : BitTable) : Type 0 where
  pub sound : IsSound T n
  pub stands : StandsAt T n reduced.now reduced.index
  pub kept : KeepsOtherRows T.problem bits

-- with the cells that bits keep a square is that of node number n after its parent's trail
abbrev pub StandsAbove : {V : Type 0} → TreeOf V → ℕ → Grid V → BitTable → V → Type 0
StandsAbove T n Q kept index =
    IsTrailSquare T (instance_at T n) (node_trail T.nodes (node_at T.nodes n).parent) (masked_grid Q kept.words) index
