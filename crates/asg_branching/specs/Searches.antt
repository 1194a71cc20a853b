-- What a ranker keeps from one answer to the next.
use Rattle.std.specs.Prelude.{◌≡◌, ◌⊎◌, ◌≢◌, ℕ, ◌+◌, ◌-◌, ◌*◌, ◌^◌, ◌<◌, ◌≤◌, true, List, length, take, All, AllPairs, Option, Some, None, vec_len, slice_index_or}
use Rattle.asg_model.specs.declared.parts.Place.TheVariants.{All as PlaceAll}
use Rattle.asg_model.specs.Counts.{placed}
use Rattle.asg_match.specs.Matching.{Matches}
use Rattle.asg_model.specs.Live.{is_active}
use Rattle.asg_square.specs.Labels.{column_label}
use Rattle.asg_model.specs.Limits.{most_side}
use Rattle.asg_model.specs.Problem.{Problem}
use Rattle.asg_model.specs.Shapes.{square_side}
use Rattle.asg_model.specs.ValidChoice.{IsValid}
use Rattle.asg_order.specs.Bridge.{choice_fold}
use Rattle.asg_order.specs.Monoid.{Monoid}
use Rattle.asg_proof.specs.PhaseProofs.{EntersValues}
use Rattle.asg_admit.specs.declared.reduced.Reduced.{Reduced}
use Rattle.asg_branching.specs.declared.desks.Desk.{Desk}
use Rattle.asg_pool.specs.Forest.{Forest}
use Rattle.asg_nodes.specs.declared.entries.Entry.{Entry}
use Rattle.asg_nodes.specs.declared.entries.State.TheVariants.{Open}
use Rattle.asg_branching.specs.declared.searches.Search.{Search}
use Rattle.asg_nodes.specs.declared.slots.Slot.{Slot}
use Rattle.asg_nodes.specs.declared.trees.Tree.{Tree}
use Rattle.asg_nodes.specs.Entries.{entry_at, child_number}
use Rattle.asg_nodes.specs.Rules.{Rules, IsSolved, IsReducedTo}
use Rattle.asg_nodes.specs.Settled.{IsStanding}
use Rattle.asg_nodes.specs.Slots.{SlotList, slot_at, Ascends, HaveValues, AreUpTo}
use Rattle.asg_nodes.specs.Trees.{given_at, IsTree, HasRoomFor}

-- the number of the node with the answer at a place
abbrev pub winner_in : {V : Type 0} → V → List (Slot V) → ℕ → ℕ
winner_in unit used a = (slot_at unit used a).node

-- a slot has one of so many nodes, with its index and its best choice
pub record IsSlot {V : Type 0} (R : Rules V) (F : Forest V) (count : ℕ) (Y : Problem) (e : Entry V) (slot : Slot V)
    : Type 0 where
  pub from : 1 ≤ slot.node
  pub upto : slot.node ≤ count
  pub index_is : slot.index ≡ e.index
  pub solved : IsSolved R F Y e.trail slot.index slot.matching

-- all slots are in use, and no index there is greater than this one
pub record IsBehind {V : Type 0} (M : Monoid V) (slots : SlotList V) (index : V) : Type 0 where
  pub full : length slots.used ≡ slots.room
  pub upto : AreUpTo M index slots.used

-- node number n is in a slot behind those of the answers
pub record IsKept {V : Type 0} (unit : V) (given : ℕ) (used : List (Slot V)) (n : ℕ) : Type 0 where
  pub place : ℕ
  pub from : given ≤ place
  pub upto : place < length used
  pub node : (slot_at unit used place).node ≡ n

-- the slots: first those of the answers, then those of open nodes; each open node is in one, or
-- behind all
pub record AreSlots {V : Type 0} (R : Rules V) (given : ℕ) (T : Tree V) (part : ℕ → Problem) (slots : SlotList V)
    : Type 0 where
  pub few : given ≤ length slots.used
  pub ascends : Ascends R.monoid slots.used
  pub values : HaveValues R.monoid slots.used
  pub each : (j : ℕ) → j < length slots.used → let slot = slot_at R.monoid.unit slots.used j in
      IsSlot R T.region (length T.entries.items) (part slot.node)
      (entry_at R.monoid.unit T.entries.items slot.node) slot
  pub open_nodes : (j : ℕ) → given ≤ j → j < length slots.used
      → (entry_at R.monoid.unit T.entries.items (winner_in R.monoid.unit slots.used j)).state ≡ Open
  pub apart : (i j : ℕ) → i < j → j < length slots.used
      → winner_in R.monoid.unit slots.used i ≢ winner_in R.monoid.unit slots.used j
  pub left : (n : ℕ) → 1 ≤ n → n ≤ length T.entries.items
      → (entry_at R.monoid.unit T.entries.items n).state ≡ Open
      → IsKept R.monoid.unit given slots.used n
      ⊎ IsBehind R.monoid slots (entry_at R.monoid.unit T.entries.items n).index

-- an answer is valid for the part of its node, worth the index there, and that of the matching in
-- its slot
pub record IsAnswer {V : Type 0} (R : Rules V) (X Y : Problem) (slot : Slot V) (f : List (Option ℕ)) : Type 0 where
  pub valid : IsValid Y f
  pub worth : choice_fold R.monoid R.enter X f ≡ slot.index
  pub by : (r k d : ℕ) → Matches slot.matching r k → is_active X r ≡ true → column_label X k ≡ Some d
      → slice_index_or f r None ≡ Some d

-- the answers that were given
abbrev pub given_of : {V : Type 0} → Search V → List (List (Option ℕ))
given_of S = take S.given S.choices.items

-- the tree of the answers, the nodes that have their best choice, and the answers in order, all
-- different
pub record IsSearch {V : Type 0} (R : Rules V) (X : Problem) (upto : ℕ) (given : List (List (Option ℕ))) (slots : SlotList V)
    (T : Tree V) : Type 0 where
  pub part : ℕ → Problem
  pub tree : IsTree R X given (winner_in R.monoid.unit slots.used) upto T part
  pub kept : AreSlots R (length given) T part slots
  pub answers : (a : ℕ) → a < length given → IsAnswer R X (part (winner_in R.monoid.unit slots.used a))
      (slot_at R.monoid.unit slots.used a) (given_at given a)
  pub different : AllPairs ◌≢◌ given

-- the square of the instance after the phases of the root
abbrev pub IsBase : {V : Type 0} → Rules V → Problem → Tree V → Reduced V → Type 0
IsBase R X T base =
    let root = entry_at R.monoid.unit T.entries.items 1 in IsReducedTo R T.region X root.trail root.index base

-- the instance is as rankings ask: all rows are placed, the side is within the limit, and each live
-- cost enters as a value
pub record IsRankable {V : Type 0} (R : Rules V) (X : Problem) : Type 0 where
  pub place : X.place ≡ PlaceAll
  pub small : square_side X ≤ most_side
  pub enters : EntersValues R.monoid R.enter X

-- what children are grown on, for a side
pub record IsDesk {V : Type 0} (side : ℕ) (desk : Desk V) : Type 0 where
  pub work : desk.work.now.side ≡ side
  pub bit_rows : desk.bits.rows ≡ side
  pub bit_columns : desk.bits.columns ≡ side
  pub bench : desk.bench.side ≡ side
  pub trial : length desk.trial ≡ side
  pub steps : side < vec_len desk.room
  pub columns : vec_len desk.columns ≡ side
  pub ids : 1001 ≤ vec_len desk.ids

-- the memory of a search: for how many answers there is room, for their choices, and for the
-- children of all but the last, with a phase or a Hall set each
pub record HasMemory {V : Type 0} (X : Problem) (S : Search V) : Type 0 where
  pub given_fit : S.given ≤ S.slots.room
  pub used_fit : length S.slots.used ≤ S.slots.room
  pub small : S.slots.room * placed X + 1 < 2 ^ 32
  pub choices_fit : vec_len S.choices ≡ S.slots.room
  pub choices_over : All (λ f. length f ≡ length X.rows) S.choices.items
  pub slots_side : S.slots.side ≡ square_side X
  pub region_side : S.tree.region.side ≡ square_side X
  pub base_side : S.base.now.side ≡ square_side X
  pub halls_width : length X.rows ≤ S.tree.halls.width
  pub desk : IsDesk (square_side X) S.desk

-- between two answers, of which there is room for so many: each node has been made, the base stands
-- where the root has a choice, and the square of the desk for the node that it names, there is
-- memory for what is to come, and where there is room for no more answers the children of the last
-- one's node are open
pub record IsReady {V : Type 0} (R : Rules V) (X : Problem) (room : ℕ) (S : Search V) : Type 0 where
  pub rankable : IsRankable R X
  pub search : IsSearch R X (length S.tree.entries.items) (given_of S) S.slots S.tree
  pub base : 1 ≤ length S.slots.used → IsBase R X S.tree S.base
  pub standing : IsStanding R S.tree search.part S.desk.node S.desk.work
  pub memory : HasMemory X S
  pub room_is : S.slots.room ≡ room
  pub nodes_fit : HasRoomFor S.tree ((S.slots.room - S.given) * placed X)
      ((S.slots.room - 1 - S.given) * placed X)
  pub last : S.given ≡ S.slots.room → (i : ℕ) → 1 ≤ i → i ≤ placed X
      → (entry_at R.monoid.unit S.tree.entries.items (child_number (placed X) (S.given - 1) i)).state ≡ Open
