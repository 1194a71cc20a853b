-- The costs of a table by amounts at a grade, where the square of the instance is its table.
use Rattle.std.specs.Prelude.{◌≡◌, ℕ, ℤ, pos, ◌+◌, ◌<◌, ◌≤◌, ◌≤ℤ◌, ◌+ℤ◌, true, List, length, Some, slice_index, slice_index_or, unsigned_abs}
use Rattle.asg_model.specs.declared.parts.Cost.{Cost}
use Rattle.asg_model.specs.declared.parts.Place.TheVariants.{All as PlaceAll}
use Rattle.asg_model.specs.Counts.{is_counted}
use Rattle.asg_model.specs.Limits.{most_cost}
use Rattle.asg_model.specs.Live.{live_at}
use Rattle.asg_model.specs.Problem.{Problem}
use Rattle.asg_model.specs.Table.{absent}
use Rattle.asg_monoids.specs.BoundedSums.{narrow_top}
use Rattle.asg_square.specs.Labels.{column_label}

-- each number is at most where sums in 64 bits stop
abbrev pub AreShort : List ℕ → Type 0
AreShort numbers = (k : ℕ) → k < length numbers → slice_index numbers k ≤ narrow_top

-- each column of the square that is a copy is one of the column at its place
abbrev pub AreSingle : Problem → Type 0
AreSingle X = (k d : ℕ) → column_label X k ≡ Some d → d ≡ k

-- all rows are placed, and each column of the square that is a copy is one of the column at its place
pub record IsPlain (X : Problem) : Type 0 where
  pub all : X.place ≡ PlaceAll
  pub single : AreSingle X

-- the first part that enters as a grade
pub record IsLimitOf (grade : ℕ) (limit : ℤ) : Type 0 where
  pub enters : limit +ℤ pos most_cost ≡ pos grade
  pub few : unsigned_abs limit ≤ most_cost

-- a cost with this number of its row is at least that of its column by its amount at a grade, if its
-- first part enters as that grade or a lower one, which has the amount 0
pub record PartsEndWell (first second limit : ℤ) (number raise : ℕ) : Type 0 where
  pub at : first ≡ limit → number ≤ unsigned_abs second + raise
  pub below : (first +ℤ pos 1) ≤ℤ limit → number ≤ raise

-- the first so many costs of a row do so where their first part enters as the grade
abbrev pub CostsReach : List ℤ → List ℤ → List ℕ → ℤ → ℕ → ℕ → Type 0
CostsReach firsts seconds columns limit raise count = (k : ℕ) → k < count
    → slice_index_or firsts k absent ≡ limit
    → slice_index columns k ≤ unsigned_abs (slice_index_or seconds k (pos 0)) + raise

-- the first so many costs of a row do so where their first part enters as a lower grade
abbrev pub CostsBelow : List ℤ → List ℕ → ℤ → ℕ → ℕ → Type 0
CostsBelow firsts columns limit raise count = (k : ℕ) → k < count
    → (slice_index_or firsts k absent +ℤ pos 1) ≤ℤ limit → slice_index columns k ≤ raise

-- a row is counted, and each of its live cells does so
pub record LiveEndWell (X : Problem) (columns : List ℕ) (limit : ℤ) (raise r : ℕ) : Type 0 where
  pub counted : is_counted X r ≡ true
  pub each : (k : ℕ) (x : Cost) → live_at X r k ≡ Some x
      → PartsEndWell x.a x.b limit (slice_index columns k) raise

-- no cost of the first so many of a row has a lower first part in a column that stays at once
abbrev pub FirstsRise : List ℤ → List ℕ → ℤ → ℕ → Type 0
FirstsRise firsts leaves limit count = (k : ℕ) → k < count → 0 < slice_index leaves k
    → limit ≤ℤ slice_index_or firsts k absent

-- a row is counted, and no live cell of it has a lower first part in a column that stays at once
pub record LiveRise (X : Problem) (leaves : List ℕ) (limit : ℤ) (r : ℕ) : Type 0 where
  pub counted : is_counted X r ≡ true
  pub each : (k : ℕ) (x : Cost) → live_at X r k ≡ Some x → 0 < slice_index leaves k → limit ≤ℤ x.a

-- this is so of each of the first so many rows that enters at once
abbrev pub RowsRise : Problem → List ℕ → List ℕ → ℤ → ℕ → Type 0
RowsRise X enters leaves limit count =
    (r : ℕ) → r < count → slice_index enters r ≤ 0 → LiveRise X leaves limit r

-- the live cells of the first so many rows end well
abbrev pub RowsEnd : Problem → List ℕ → List ℕ → ℤ → ℕ → Type 0
RowsEnd X rows columns limit count =
    (r : ℕ) → r < count → LiveEndWell X columns limit (slice_index rows r) r
