-- An alternating tree over a matching: rows in the order of reaching, and for each column the place
-- of the row that it was reached from, its parent.
use Rattle.std.specs.Prelude.{◌≡◌, ◌≢◌, ℕ, ◌/◌, ◌%◌, ◌<◌, ◌&&◌, ◌==◌, nat_lt, if◌then◌else◌, List, length, Option, Some, None, IsSome, All, AllPairs, slice_index}
use Rattle.std.specs.Int.{bit_at}
use Rattle.asg_match.specs.Matching.{column_at, Matches}

-- the parents of the columns, by a list of places and the set of the columns that weren't reached
abbrev pub parent_of : List ℕ → List ℕ → ℕ → Option ℕ
parent_of places unseen c =
    if (bit_at (slice_index unseen (c / 64)) (c % 64) == 0) && nat_lt c (length places) then Some (slice_index places c) else None

-- column c was reached from the row at place p
abbrev pub HasParent : (ℕ → Option ℕ) → ℕ → ℕ → Type 0
HasParent parents c p = parents c ≡ Some p

-- column c was reached
abbrev pub IsReached : (ℕ → Option ℕ) → ℕ → Type 0
IsReached parents c = IsSome (parents c)

-- the row that has column c stands in the tree after place p
pub record IsFollowed (matching : List (Option ℕ)) (rows : List ℕ) (c p : ℕ) : Type 0 where
  pub place : ℕ
  pub later : p < place
  pub within : place < length rows
  pub has : Matches matching (slice_index rows place) c

-- the row at place k was reached by its column, from an earlier place
pub record IsJoined (matching : List (Option ℕ)) (rows : List ℕ) (parents : ℕ → Option ℕ) (k : ℕ) : Type 0 where
  pub column : ℕ
  pub parent : ℕ
  pub earlier : parent < k
  pub reached : HasParent parents column parent
  pub has : Matches matching (slice_index rows k) column

-- different rows below the side, the first of which has no column: an alternating tree
pub record IsTree (matching : List (Option ℕ)) (rows : List ℕ) (parents : ℕ → Option ℕ) : Type 0 where
  pub rooted : 0 < length rows
  pub root_free : column_at matching (slice_index rows 0) ≡ None
  pub below : All (λ r. r < length matching) rows
  pub apart : AllPairs ◌≢◌ rows
  pub followed : (c p : ℕ) → HasParent parents c p → IsFollowed matching rows c p
  pub joined : (k : ℕ) → 0 < k → k < length rows → IsJoined matching rows parents k

-- each column was reached by an allowed cell
abbrev pub AllParentsAllowed : (ℕ → ℕ → Type 0) → List ℕ → (ℕ → Option ℕ) → Type 0
AllParentsAllowed allows rows parents =
    (c p : ℕ) → HasParent parents c p → allows (slice_index rows p) c

-- each column that is allowed to row r was reached
abbrev pub IsClosed : (ℕ → ℕ → Type 0) → (ℕ → Option ℕ) → ℕ → Type 0
IsClosed allows parents r = (c : ℕ) → allows r c → IsReached parents c

-- row r may have column c, which no row has
pub record IsOpen (allows : ℕ → ℕ → Type 0) (matching : List (Option ℕ)) (r c : ℕ) : Type 0 where
  pub cell : allows r c
  pub free : (s : ℕ) → Matches matching s c → ⊥
