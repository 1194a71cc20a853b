-- A tree that grows while the square isn't touched, with the keys of the columns and the phase so
-- far.
use Rattle.std.specs.Prelude.{◌≡◌, ◌≢◌, ◌↔◌, ℕ, ◌+◌, ◌/◌, ◌<◌, ◌≤◌, ◌++◌, ◌∷◌, [], List, length, Option, Some, None, vec_len, vec_capacity, slice_set, slice_index, slice_index_or, replicate}
use Rattle.asg_model.specs.Limits.{most_side}
use Rattle.asg_admit.specs.declared.reduced.Reduced.{Reduced}
use Rattle.asg_match.specs.ColumnSet.{HasColumn, IsColumnSet, word_count}
use Rattle.asg_match.specs.Matching.{IsFree}
use Rattle.asg_match.specs.Searched.{parents_in}
use Rattle.asg_order.specs.Monoid.{Monoid, IsLe}
use Rattle.asg_proof.specs.Phases.{PhaseOf, phase_of}
use Rattle.asg_square.specs.Grid.{Grid, cell_at}
use Rattle.asg_growth.specs.declared.growth.Growth.{Growth}
use Rattle.asg_growth.specs.declared.growth.Round.{Round}
use Rattle.asg_growth.specs.declared.growth.Round.TheVariants.{Stuck, Exit, More}
use Rattle.asg_growth.specs.Leads.{Leads, leads_of, lead_at, place_at, IsLeast, Picks}
use Rattle.asg_growth.specs.Nearest.{IsWithin, AreNearest}
use Rattle.asg_growth.specs.Rest.{cut}
use Rattle.asg_growth.specs.Scanned.{AreValued}
use Rattle.asg_growth.specs.Underway.{IsUnderway, Advances}

-- a mark of a row that hasn't entered, or of a column that hasn't left
abbrev pub never : ℕ
never = 4294967295

-- the leads of the columns
abbrev pub leads_in : {V : Type 0} → Growth V → Leads V
leads_in growth = leads_of growth.keys.items growth.keyed.items growth.tree.parents.items

-- the memory for a side
pub record IsRoomy {V : Type 0} (side : ℕ) (growth : Growth V) : Type 0 where
  pub rows_room : side ≤ vec_capacity growth.tree.rows
  pub parents_side : vec_len growth.tree.parents ≡ side
  pub unseen_side : vec_len growth.tree.unseen ≡ word_count side
  pub sums_room : side ≤ vec_capacity growth.sums
  pub keys_room : side ≤ vec_capacity growth.keys
  pub keyed_side : vec_len growth.keyed ≡ word_count side
  pub nearest_side : vec_len growth.nearest ≡ word_count side
  pub enters_side : vec_len growth.enters ≡ side
  pub leaves_side : vec_len growth.leaves ≡ side
  pub steps_room : side ≤ vec_capacity growth.steps
  pub room_room : side + 1 ≤ vec_capacity growth.room

-- the search that is under way, by the rows at the places that were seen
pub record IsSearch {V : Type 0} (M : Monoid V) (difference : V → V → V) (Q : Grid V) (index : V)
    (matching : List (Option ℕ)) (growth : Growth V) (sum : V) (seen : ℕ) : Type 0 where
  pub small : Q.side ≤ most_side
  pub roomy : IsRoomy Q.side growth
  pub keys_side : vec_len growth.keys ≡ Q.side
  pub unseen : IsColumnSet Q.side growth.tree.unseen.items
  pub underway : IsUnderway M difference never Q.side (cell_at Q) index matching
      growth.tree.rows.items (parents_in growth.tree) growth.sums.items
      (lead_at M (leads_in growth)) (place_at (leads_in growth))
      growth.enters.items growth.leaves.items growth.steps.items sum seen
  pub few_steps : vec_len growth.steps ≤ seen
  pub nearest : AreNearest M (leads_in growth) growth.tree.unseen.items growth.nearest.items

-- the phase that a search made so far, its marks cut to the number of steps
abbrev pub phase_in : {V : Type 0} → Growth V → PhaseOf V
phase_in growth =
    phase_of growth.steps.items (cut (length growth.steps.items) growth.enters.items)
    (cut (length growth.steps.items) growth.leaves.items)

-- the marks of the phase were cut to its steps, and there is room for a value for each step and one
-- more
pub record Closes {V : Type 0} (before after : Growth V) : Type 0 where
  pub tree : after.tree ≡ before.tree
  pub sums : after.sums ≡ before.sums
  pub keys : after.keys ≡ before.keys
  pub keyed : after.keyed ≡ before.keyed
  pub nearest : after.nearest ≡ before.nearest
  pub steps : after.steps ≡ before.steps
  pub enters : after.enters.items ≡ cut (length before.steps.items) before.enters.items
  pub leaves : after.leaves.items ≡ cut (length before.steps.items) before.leaves.items
  pub enters_len : vec_len after.enters ≡ vec_len before.enters
  pub leaves_len : vec_len after.leaves ≡ vec_len before.leaves
  pub room : vec_len after.room ≡ vec_len before.steps + 1
  pub room_room : vec_capacity after.room ≡ vec_capacity before.room

-- the search on a reduced square
abbrev pub Searches : {V : Type 0} → Monoid V → (V → V → V) → Reduced V → List (Option ℕ) → Growth V
    → V → ℕ → Type 0
Searches M difference reduced matching growth sum seen =
    IsSearch M difference reduced.now reduced.index matching growth sum seen

-- all but the rows, their sums, the columns that weren't reached and the marks is as it was
pub record KeepsLeads {V : Type 0} (before after : Growth V) : Type 0 where
  pub parents : after.tree.parents ≡ before.tree.parents
  pub keys : after.keys ≡ before.keys
  pub keyed : after.keyed ≡ before.keyed
  pub nearest : after.nearest ≡ before.nearest
  pub steps : after.steps ≡ before.steps
  pub room : after.room ≡ before.room

-- a row entered at a sum, by a column
pub record Enters {V : Type 0} (before after : Growth V) (next column : ℕ) (sum : V) : Type 0 where
  pub kept : KeepsLeads before after
  pub rows : after.tree.rows.items ≡ before.tree.rows.items ++ next ∷ []
  pub sums : after.sums.items ≡ before.sums.items ++ sum ∷ []
  pub unseen : IsColumnSet (vec_len before.tree.parents) after.tree.unseen.items
  pub unseen_len : vec_len after.tree.unseen ≡ vec_len before.tree.unseen
  pub reached : (k : ℕ) → HasColumn after.tree.unseen.items k
      ↔ (HasColumn before.tree.unseen.items k × (k ≢ column))
  pub here : parents_in after.tree column ≡ Some (slice_index before.tree.parents.items column)
  pub others : (k : ℕ) → k ≢ column → parents_in after.tree k ≡ parents_in before.tree k
  pub enters : after.enters.items ≡ slice_set before.enters.items next (vec_len before.steps)
  pub leaves : after.leaves.items ≡ slice_set before.leaves.items column (vec_len before.steps)
  pub enters_len : vec_len after.enters ≡ vec_len before.enters
  pub leaves_len : vec_len after.leaves ≡ vec_len before.leaves
  pub rows_room : vec_capacity after.tree.rows ≡ vec_capacity before.tree.rows
  pub sums_room : vec_capacity after.sums ≡ vec_capacity before.sums

-- what the nearest column of the word of a column is found anew by: keys that are values, in lists
-- of one side
pub record CanRenew {V : Type 0} (M : Monoid V) (matching : List (Option ℕ)) (growth : Growth V)
    (column : ℕ) : Type 0 where
  pub valued : AreValued M (leads_in growth) growth.tree.unseen.items
  pub unseen : IsColumnSet (vec_len growth.keys) growth.tree.unseen.items
  pub small : vec_len growth.keys ≤ most_side
  pub below : column < vec_len growth.keys
  pub matching_side : length matching ≡ vec_len growth.keys
  pub keyed_side : vec_len growth.keyed ≡ vec_len growth.tree.unseen
  pub nearest_side : vec_len growth.nearest ≡ vec_len growth.tree.unseen

-- the nearest column of the word of a column was found anew
pub record Renews {V : Type 0} (M : Monoid V) (before after : Growth V)
    (column : ℕ) : Type 0 where
  pub kept : after ≡ record before { nearest = after.nearest }
  pub found : Option ℕ
  pub nearest : after.nearest.items ≡ slice_set before.nearest.items (column / 64) found
  pub picks : Picks M (lead_at M (leads_in before))
      (IsWithin (column / 64) before.tree.unseen.items) found

-- the sum went up to the key of a column
pub record Climbs {V : Type 0} (M : Monoid V) (difference : V → V → V) (before after : Growth V)
    (sum_before sum_after : V) (column : ℕ) : Type 0 where
  pub tree : after.tree ≡ before.tree
  pub sums : after.sums ≡ before.sums
  pub keys : after.keys ≡ before.keys
  pub keyed : after.keyed ≡ before.keyed
  pub nearest : after.nearest ≡ before.nearest
  pub enters : after.enters ≡ before.enters
  pub leaves : after.leaves ≡ before.leaves
  pub room : after.room ≡ before.room
  pub steps_room : vec_capacity after.steps ≡ vec_capacity before.steps
  pub advances : Advances M difference (slice_index_or before.keys.items column M.unit)
      before.steps.items sum_before after.steps.items sum_after

-- a column that a step or none makes reachable
pub record IsReady {V : Type 0} (M : Monoid V) (growth : Growth V) (sum : V)
    (column : ℕ) : Type 0 where
  pub least : IsLeast M (lead_at M (leads_in growth)) (HasColumn growth.tree.unseen.items) column
  pub low : IsLe M least.key sum

-- no column that wasn't reached has a key
abbrev pub HasNoLead : {V : Type 0} → Monoid V → Growth V → Type 0
HasNoLead M growth =
    (k : ℕ) → HasColumn growth.tree.unseen.items k → lead_at M (leads_in growth) k ≡ None

-- no column has a key, or a free column is ready, or one more row entered
abbrev pub Ends : {V : Type 0} → Monoid V → List (Option ℕ) → Growth V → V → ℕ → Round → Type 0
Ends M matching growth sum place Stuck = HasNoLead M growth × (vec_len growth.tree.rows ≡ place + 1)
Ends M matching growth sum place (Exit column) =
    IsReady M growth sum column × IsFree matching column × (vec_len growth.tree.rows ≡ place + 1)
Ends M matching growth sum place More = vec_len growth.tree.rows ≡ place + 2

-- the growth at the begin of a search from a root
pub record IsPlanted {V : Type 0} (M : Monoid V) (side : ℕ) (after : Growth V) (sum : V)
    (root : ℕ) : Type 0 where
  pub roomy : IsRoomy side after
  pub keys_side : vec_len after.keys ≡ side
  pub unseen : IsColumnSet side after.tree.unseen.items
  pub rows : after.tree.rows.items ≡ root ∷ []
  pub none_reached : (k : ℕ) → parents_in after.tree k ≡ None
  pub sums : after.sums.items ≡ M.unit ∷ []
  pub no_lead : (k : ℕ) → lead_at M (leads_in after) k ≡ None
  pub nearest : after.nearest.items ≡ replicate (word_count side) None
  pub enters : after.enters.items ≡ slice_set (replicate side never) root 0
  pub leaves : after.leaves.items ≡ replicate side never
  pub steps : after.steps.items ≡ []
  pub at_unit : sum ≡ M.unit
