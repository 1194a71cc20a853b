-- The state of a search through bands.
use Rattle.std.specs.Prelude.{◌≡◌, ℕ, List, length}
use Rattle.asg_square.specs.Grid.{Grid}
use Rattle.asg_live_cells.specs.declared.live_cells.Entry.{Entry}
use Rattle.asg_window.specs.declared.seeker.Seeker.{Seeker}
use Rattle.asg_window.specs.Bands.{MarksBand}
use Rattle.asg_window.specs.Reaching.{HasRoom}

-- the matching, the tree, the marks and the list of columns are of this side
pub record HaveSide (side : ℕ) (seeker : Seeker) : Type 0 where
  pub band_side : seeker.band.marks.side ≡ side
  pub matching_side : length seeker.matching ≡ side
  pub tree_side : seeker.tree.side ≡ side
  pub room : HasRoom side seeker.reached
  pub columns_side : length seeker.perm.items ≡ side

-- all of the square's side, and the cells of the band are marked
pub record IsSeeker (Q : Grid ℕ) (entries : List Entry) (seeker : Seeker) : Type 0 where
  pub sides : HaveSide Q.side seeker
  pub band : MarksBand Q entries seeker.band
