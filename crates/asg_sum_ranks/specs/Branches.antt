-- Branches: answers that were given in turn, each with the part that it was taken from.
use Rattle.std.specs.Prelude.{◌≡◌, ℕ, ◌+◌, ◌<◌, ◌≤◌, ◌⊎◌, List, [], length, map, slice_index, slice_index_or}
use Rattle.asg_model.specs.declared.objectives.Objective.{Objective}
use Rattle.asg_model.specs.Problem.{Problem}
use Rattle.asg_dual_bounds.specs.Bounds.{Duals, AreAbove, IsDualBound}
use Rattle.asg_dual_bounds.specs.Numbers.{sum_at, IsAnswer}
use Rattle.asg_dual_bounds.specs.Parts.{Part, IsIn, child_part}

-- an answer that was given: the columns of its rows, the branch before it whose child its part is,
-- the row of that child, what the part bans for the row, and dual variables; for each row the
-- branch whose part is its own child by that row, 0 where none is, and the place of what shows a
-- bound of that child, counted from 1, 0 where nothing does
pub record Branch : Type 0 where
  pub columns : List ℕ
  pub parent : ℕ
  pub row : ℕ
  pub banned : List ℕ
  pub duals : Duals
  pub children : List ℕ
  pub shown : List ℕ

-- the branch without an answer
abbrev pub blank_branch : Branch
blank_branch = record {
  columns = [];
  parent = 0;
  row = 0;
  banned = [];
  duals = record { falls = []; rises = []; floor = 0 };
  children = [];
  shown = [];
}

-- the branch at place a
abbrev pub branch_at : List Branch → ℕ → Branch
branch_at branches a = slice_index_or branches a blank_branch

-- the answer of a branch
abbrev pub columns_of : Branch → List ℕ
columns_of branch = branch.columns

-- the answers of branches
abbrev pub answers_of : List Branch → List (List ℕ)
answers_of branches = map columns_of branches

-- the answer of the branch at place a
abbrev pub answer_at : List Branch → ℕ → List ℕ
answer_at branches a = (branch_at branches a).columns

-- the part of the branch at place a: before its row its parent's columns, for its row none of the
-- banned ones
abbrev pub part_at : List Branch → ℕ → Part
part_at branches a = record {
  columns = answer_at branches (branch_at branches a).parent;
  row = (branch_at branches a).row;
  banned = (branch_at branches a).banned;
}

-- the child by row r of the branch at place a
abbrev pub child_at : List Branch → ℕ → ℕ → Part
child_at branches a r = child_part (part_at branches a) (answer_at branches a) r

-- the branch at place a has an answer in its part, and dual variables that are above it
pub record IsSound (objective : Objective) (X : Problem) (branches : List Branch) (a : ℕ)
    : Type 0 where
  pub answer : IsAnswer objective X (answer_at branches a)
  pub within : IsIn (part_at branches a) (answer_at branches a)
  pub above : AreAbove objective X (part_at branches a) (branch_at branches a).duals

-- the part of the branch at place a is a child of a branch before it, which names it
pub record IsChild (X : Problem) (branches : List Branch) (a : ℕ) : Type 0 where
  pub before : (branch_at branches a).parent < a
  pub from : (branch_at branches (branch_at branches a).parent).row ≤ (branch_at branches a).row
  pub upto : (branch_at branches a).row < length X.rows
  pub named : slice_index (branch_at branches (branch_at branches a).parent).children
      (branch_at branches a).row ≡ a
  pub part : (branch_at branches a).banned
      ≡ (child_at branches (branch_at branches a).parent (branch_at branches a).row).banned

-- the branches below the place `end`, from that of the whole on: the first one's part is that of
-- all answers, every other one's is a child of one before it
pub record AreBranches (objective : Objective) (X : Problem) (branches : List Branch) (end : ℕ)
    : Type 0 where
  pub row : (branch_at branches 0).row ≡ 0
  pub banned : (branch_at branches 0).banned ≡ []
  pub sound : (a : ℕ) → a < end → IsSound objective X branches a
  pub child : (a : ℕ) → 1 ≤ a → a < end → IsChild X branches a

-- the child by row r of the branch at place a is the part of a branch below the place `end`
abbrev pub IsGiven : List Branch → ℕ → ℕ → ℕ → Type 0
IsGiven branches end a r = (b : ℕ) × (1 ≤ b) × (b < end) × ((branch_at branches b).parent ≡ a)
    × ((branch_at branches b).row ≡ r)

-- each answer in a part has at least this sum
abbrev pub IsAtLeast : Objective → Problem → Part → ℕ → Type 0
IsAtLeast objective X part least = (f : List ℕ) → IsAnswer objective X f → IsIn part f
    → least ≤ sum_at objective X f

-- the child by row r of the branch at place a is a branch's part, or has answers of at least this
-- sum alone
abbrev pub IsShut : Objective → Problem → List Branch → ℕ → ℕ → ℕ → Type 0
IsShut objective X branches least a r =
    IsGiven branches (length branches) a r ⊎ IsAtLeast objective X (child_at branches a r) least

-- so are all children of the branch at place a
abbrev pub AreShut : Objective → Problem → List Branch → ℕ → ℕ → Type 0
AreShut objective X branches least a = (r : ℕ) → (branch_at branches a).row ≤ r
    → r < length X.rows → IsShut objective X branches least a r

-- the gaps of the children of the branch at place a: by so much each one's answers are above any
-- bound of its part by its dual variables
abbrev pub HaveGaps : Objective → Problem → List Branch → ℕ → List ℕ → Type 0
HaveGaps objective X branches a gaps = (r b : ℕ) → (branch_at branches a).row ≤ r
    → r < length X.rows
    → IsDualBound (length X.columns) (length X.rows) (branch_at branches a).duals b
    → IsAtLeast objective X (child_at branches a r) (b + slice_index gaps r)

-- the sums of the answers of the branches below the place `end` ascend, and the last of them is this
pub record SumsTo (objective : Objective) (X : Problem) (branches : List Branch) (end last : ℕ)
    : Type 0 where
  pub last_one : (a : ℕ) → a + 1 ≡ end → last ≡ sum_at objective X (answer_at branches a)
  pub ascends : (a : ℕ) → a + 1 < end
      → sum_at objective X (answer_at branches a) ≤ sum_at objective X (answer_at branches (a + 1))
