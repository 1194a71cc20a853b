-- The two lists of a matching, by rows and by columns, and the columns that no row has.
use Rattle.std.specs.Prelude.{◌≡◌, ◌↔◌, ℕ, ◌<◌, List, length, Option, None}
use Rattle.asg_match.specs.ColumnSet.{HasColumn, IsColumnSet}
use Rattle.asg_match.specs.Matching.{column_at, Matches}

-- each list is the other one turned round
pub record IsPaired (side : ℕ) (columns rows : List (Option ℕ)) : Type 0 where
  pub columns_len : length columns ≡ side
  pub rows_len : length rows ≡ side
  pub forth : (r c : ℕ) → Matches columns r c → Matches rows c r
  pub back : (r c : ℕ) → Matches rows c r → Matches columns r c

-- the set has exactly the columns below the side that no row has
pub record AreFree (side : ℕ) (rows : List (Option ℕ)) (free : List ℕ) : Type 0 where
  pub set : IsColumnSet side free
  pub exact : (c : ℕ) → c < side → HasColumn free c ↔ (column_at rows c ≡ None)
