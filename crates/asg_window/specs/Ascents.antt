-- A band that moves up over the grades.
use Rattle.std.specs.Prelude.{◌≡◌, ℕ, ◌<◌, ◌≤◌, List}
use Rattle.asg_match.specs.Deficient.{IsDeficient}
use Rattle.asg_square.specs.Grid.{Grid}
use Rattle.asg_window.specs.declared.gaps.Ascent.{Ascent}
use Rattle.asg_live_cells.specs.declared.live_cells.Entry.{Entry}
use Rattle.asg_window.specs.declared.seeker.Seeker.{Seeker}
use Rattle.asg_window.specs.Assignments.{IsSpread}
use Rattle.asg_window.specs.Bands.{IsWithin}
use Rattle.asg_window.specs.Gaps.{ShowLeast}
use Rattle.asg_window.specs.Grades.{no_bound}
use Rattle.asg_window.specs.Seekers.{IsSeeker}

-- the seeker's assignment has the least spread so far, and the gaps show that no grade below the
-- lower end of the band begins a shorter one
pub record IsAscent (Q : Grid ℕ) (entries : List Entry) (state : Seeker) (ascent : Ascent) : Type 0 where
  pub seeker : IsSeeker Q entries state
  pub low : state.band.low ≤ ascent.low
  pub spread : IsSpread Q state.perm.items ascent.spread
  pub gaps : ShowLeast Q ascent.gaps.items ascent.low ascent.spread
  pub low_fits : ascent.low ≤ no_bound
  pub spread_fits : ascent.spread ≤ no_bound

-- the lower end has moved up over one gap more: rows that are deficient from it on and below a
-- grade
pub record AddsGap (before after : Ascent) (next : ℕ) (rows : List ℕ) : Type 0 where
  pub spread : after.spread ≡ before.spread
  pub up : before.low < after.low
  pub fits : after.low ≤ no_bound
  pub gaps : (Q : Grid ℕ) → IsDeficient (IsWithin Q before.low next) Q.side rows
      → ShowLeast Q before.gaps.items before.low before.spread
      → ShowLeast Q after.gaps.items after.low after.spread
