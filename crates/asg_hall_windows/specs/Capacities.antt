use Rattle.std.specs.Prelude.{ℕ, ◌<◌, List, IsTrue, length}
use Rattle.asg_model.specs.declared.bands.Band.{Band}
use Rattle.asg_model.specs.HallSet.{is_reached}
use Rattle.asg_model.specs.Live.{is_open}
use Rattle.asg_model.specs.Problem.{Problem}
use Rattle.asg_hall_windows.specs.declared.marks.Marks.{Marks}
use Rattle.asg_hall_windows.specs.Marks.{IsMarked}

-- each column that the rows reach by live cells of the band is open, and marked for the window
abbrev pub ReachesMarked : Problem → Band → List ℕ → Marks → ℕ → Type 0
ReachesMarked X band ids reached window = (c : ℕ) → c < length X.columns →
    IsTrue (is_reached X band ids c) → IsTrue (is_open X c) × IsMarked reached c window
