-- Windows of costs that stand for bands of grades.
use Rattle.std.specs.Prelude.{◌≡◌, ℕ, ◌+◌, ◌<◌, ◌≤◌, pos, ◌-ℤ◌, List, [], ◌∷◌, ◌++◌, length, slice_index_or}
use Rattle.asg_match.specs.HallSets.{GivesHallSets}
use Rattle.asg_model.specs.Problem.{Problem}
use Rattle.asg_proof.specs.declared.windows.Window.{Window}
use Rattle.asg_proof.specs.Windows.{IsWindow}
use Rattle.asg_square.specs.Grid.{Grid}
use Rattle.asg_window.specs.Bands.{IsWithin}
use Rattle.asg_window.specs.declared.gaps.Gap.{Gap}
use Rattle.asg_window.specs.Gaps.{low_at}
use Rattle.asg_live_cells.specs.Grades.{cost_of}

-- the window has the costs of the grades from `low` on and below `high`, and rows that give a Hall
-- set
pub record IsWindowBy (X : Problem) (Q : Grid ℕ) (low high : ℕ) (window : Window) : Type 0 where
  pub lo : window.lo ≡ cost_of low
  pub hi : window.hi ≡ cost_of high -ℤ pos 1
  pub rows : GivesHallSets X (IsWithin Q low high) window.rows
  pub kept : IsWindow window

-- the same of some band
pub record IsBandWindow (X : Problem) (Q : Grid ℕ) (window : Window) : Type 0 where
  pub low : ℕ
  pub high : ℕ
  pub is : IsWindowBy X Q low high window

-- one window more, that of the gap at a place, which begins at the grade or below it and is the
-- last one that does
pub record AddsWindow (X : Problem) (Q : Grid ℕ) (gaps : List Gap) (grade : ℕ)
    (before after : List Window) (place : ℕ) : Type 0 where
  pub within : place < length gaps
  pub begun : (d : Gap) → (slice_index_or gaps place d).low ≤ grade
  pub last : (low : ℕ) → grade < low → grade < low_at gaps low (place + 1)
  pub window : Window
  pub pushed : after ≡ before ++ window ∷ []
  pub is : (d : Gap) → IsWindowBy X Q (slice_index_or gaps place d).low
      (slice_index_or gaps place d).high window
