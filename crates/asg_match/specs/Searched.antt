-- The state of a search.
use Rattle.std.specs.Prelude.{◌≡◌, ℕ, ◌<◌, ◌≤◌, List, length, Option, vec_len, vec_capacity, slice_index}
use Rattle.asg_match.specs.declared.alternating_tree.Branches.{Branches}
use Rattle.asg_match.specs.declared.search.Exit.{Exit}
use Rattle.asg_match.specs.Alternating.{parent_of, IsTree, AllParentsAllowed, HasParent, IsOpen}
use Rattle.asg_match.specs.ColumnSet.{IsColumnSet}

-- the parents of the columns in a tree
abbrev pub parents_in : Branches → ℕ → Option ℕ
parents_in tree = parent_of tree.parents.items tree.unseen.items

-- an alternating tree over the columns that were reached, in memory that has room for all rows
pub record IsGrown (matching : List (Option ℕ)) (tree : Branches) : Type 0 where
  pub side : length tree.parents.items ≡ length matching
  pub room : length matching ≤ vec_capacity tree.rows
  pub unseen : IsColumnSet (length matching) tree.unseen.items
  pub grown : IsTree matching tree.rows.items (parents_in tree)

-- such a tree that grew by allowed cells
pub record IsSearch (allows : ℕ → ℕ → Type 0) (matching : List (Option ℕ)) (tree : Branches) : Type 0 where
  pub tree_grown : IsGrown matching tree
  pub cells : AllParentsAllowed allows tree.rows.items (parents_in tree)

-- the tree has all that it had, at the same places
pub record Extends (before after : Branches) : Type 0 where
  pub rows : (k : ℕ) → k < length before.rows.items → slice_index after.rows.items k ≡ slice_index before.rows.items k
  pub longer : length before.rows.items ≤ length after.rows.items
  pub parents : (c p : ℕ) → HasParent (parents_in before) c p → HasParent (parents_in after) c p
  pub room : vec_capacity after.rows ≡ vec_capacity before.rows
  pub side : vec_len after.parents ≡ vec_len before.parents
  pub words : vec_len after.unseen ≡ vec_len before.unseen

-- the exit's column is free, and the row at its place may have it
pub record IsExit (allows : ℕ → ℕ → Type 0) (matching : List (Option ℕ)) (tree : Branches) (exit : Exit) : Type 0 where
  pub within : exit.place < length tree.rows.items
  pub open_cell : IsOpen allows matching (slice_index tree.rows.items exit.place) exit.column
