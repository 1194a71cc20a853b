-- The parts of a search are for one side.
use Rattle.std.specs.Prelude.{◌≡◌, ℕ, length}
use Rattle.asg_thresh.specs.declared.seeker.Seeker.{Seeker}

-- the marked cells, the matching, the tree and the list of columns are of this side
pub record HaveSide (side : ℕ) (seeker : Seeker) : Type 0 where
  pub cells_side : seeker.cells.side ≡ side
  pub matching_side : length seeker.matching ≡ side
  pub tree_side : seeker.tree.side ≡ side
  pub columns_side : length seeker.perm.items ≡ side
