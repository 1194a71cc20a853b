-- The rows that windows name, and the columns that these reach.
use Rattle.std.specs.Prelude.{◌≡◌, ◌≢◌, ℕ, ◌<◌, ◌≤◌, ℤ, IsTrue, Some, List, length, All, AllPairs, slice_index_or}
use Rattle.asg_model.specs.declared.parts.Cost.{Cost}
use Rattle.asg_model.specs.HallSet.{is_counted_id, row_place_of}
use Rattle.asg_model.specs.Live.{live_at}
use Rattle.asg_model.specs.Problem.{Problem}
use Rattle.asg_proof.specs.declared.windows.Window.{Window}
use Rattle.asg_hall_windows.specs.declared.marks.Marks.{Marks}
use Rattle.asg_hall_windows.specs.declared.stretches.Stretch.{Stretch}
use Rattle.asg_hall_windows.specs.Marks.{IsMarked}
use Rattle.asg_hall_windows.specs.Stretches.{IsIn}

-- the id names a counted row, which wasn't marked for the window before and is after
pub record Names (X : Problem) (id window : ℕ) (before after : Marks) : Type 0 where
  pub counted : IsTrue (is_counted_id X id)
  pub fresh : (r : ℕ) → row_place_of X id ≡ Some r → IsMarked before r window → ⊥
  pub marked : (r : ℕ) → row_place_of X id ≡ Some r → IsMarked after r window

-- the ids name different counted rows, which are marked for the window
pub record AreNamed (X : Problem) (ids : List ℕ) (window : ℕ) (named : Marks) : Type 0 where
  pub different : AllPairs ◌≢◌ ids
  pub counted : All (λ id. IsTrue (is_counted_id X id)) ids
  pub marked : All (λ id. (r : ℕ) → row_place_of X id ≡ Some r → IsMarked named r window) ids

-- so do the ids of each of the first so many windows
abbrev pub AreAllNamed : Problem → List Window → ℕ → Marks → Type 0
AreAllNamed X windows count named = (w : ℕ) (d : Window) → w < count →
    AreNamed X (slice_index_or windows w d).rows w named

-- a cost of a row in a column lies in a stretch, and for each of its windows for which the row is
-- marked the column is too
pub record IsPassed (stretches : List Stretch) (named : Marks) (r : ℕ) (reached : Marks) (c : ℕ) (a : ℤ)
    : Type 0 where
  pub place : ℕ
  pub lies : IsIn stretches place a
  pub marked : (w : ℕ) (d : Stretch) → (slice_index_or stretches place d).from ≤ w
      → w < (slice_index_or stretches place d).to → IsMarked named r w → IsMarked reached c w

-- so it is with the cost of each live cell of the row
abbrev pub IsRowPassed : Problem → List Stretch → Marks → Marks → ℕ → Type 0
IsRowPassed X stretches named reached r = (c : ℕ) (cost : Cost) →
    live_at X r c ≡ Some cost → IsPassed stretches named r reached c cost.a
