-- The children of the node that gave the last answer, as they are made.
use Rattle.std.specs.Prelude.{◌≡◌, ℕ, ◌+◌, ◌-◌, ◌*◌, ◌<◌, ◌≤◌, Bool, List, [], ◌∷◌, ◌++◌, length, Option, Contains}
use Rattle.asg_model.specs.Counts.{placed}
use Rattle.asg_model.specs.Problem.{Problem}
use Rattle.asg_model.specs.Shapes.{square_side}
use Rattle.asg_model.specs.ValidChoice.{IsValid}
use Rattle.asg_order.specs.Bridge.{choice_fold}
use Rattle.asg_order.specs.Monoid.{Monoid, IsLe}
use Rattle.asg_branching.specs.declared.searches.Search.{Search}
use Rattle.asg_rankings.specs.Masks.{keeps_cell}
use Rattle.asg_nodes.specs.Cuts.{AreBitsFor, fixes_cell}
use Rattle.asg_nodes.specs.Entries.{entry_at}
use Rattle.asg_nodes.specs.Rules.{Rules, IsReducedTo}
use Rattle.asg_branching.specs.Searches.{winner_in, given_of, IsBehind, IsSearch, IsRankable, IsBase, HasMemory}
use Rattle.asg_nodes.specs.Settled.{IsStanding}
use Rattle.asg_nodes.specs.Trees.{given_at, HasRoomFor}

-- the node that gave the last answer
abbrev pub last_winner : {V : Type 0} → V → Search V → ℕ
last_winner unit S = winner_in unit S.slots.used (S.given - 1)

-- no child of that node can be kept: all slots are in use, and no index there is greater than the
-- node's
abbrev pub IsLastBehind : {V : Type 0} → Monoid V → Search V → Type 0
IsLastBehind M S = IsBehind M S.slots (entry_at M.unit S.tree.entries.items (last_winner M.unit S)).index

-- an answer was given, where there is room for so many, and so many children of its node were made
pub record IsGrowing {V : Type 0} (R : Rules V) (X : Problem) (room made : ℕ) (S : Search V) : Type 0 where
  pub rankable : IsRankable R X
  pub some : 1 ≤ S.given
  pub search : IsSearch R X (1 + length (given_of S) * placed X) (given_of S) S.slots S.tree
  pub base : IsBase R X S.tree S.base
  pub standing : IsStanding R S.tree search.part S.desk.node S.desk.work
  pub memory : HasMemory X S
  pub room_is : S.slots.room ≡ room
  pub made_upto : made ≤ placed X
  pub made_are : length S.tree.entries.items ≡ 1 + (S.given - 1) * placed X + made
  pub nodes_fit : HasRoomFor S.tree ((S.slots.room - S.given) * placed X + (placed X - made))
      ((S.slots.room - S.given) * placed X - made)

-- the same, where children may grow: the square is that of the node's part after its trail, and the
-- bits tell which cells of it are kept
pub record IsExpanding {V : Type 0} (R : Rules V) (X : Problem) (room made : ℕ) (keep : ℕ → ℕ → Bool) (S : Search V)
    : Type 0 where
  pub growing : IsGrowing R X room made S
  pub less : S.given < S.slots.room
  pub work : let node = last_winner R.monoid.unit S in
      let e = entry_at R.monoid.unit S.tree.entries.items node in
      IsReducedTo R S.tree.region (growing.search.part node) e.trail e.index S.desk.work
  pub bits : AreBitsFor (square_side X) keep S.desk.bits

-- the cells that are kept before the next child is made, and while it is
abbrev pub fixed_for : {V : Type 0} → Problem → ℕ → Search V → ℕ → ℕ → Bool
fixed_for X made S = fixes_cell X (given_at (given_of S) (S.given - 1)) (made + 1)

abbrev pub kept_for : {V : Type 0} → Problem → ℕ → Search V → ℕ → ℕ → Bool
kept_for X made S = keeps_cell X (given_at (given_of S) (S.given - 1)) (made + 1)

-- a choice is valid and new, and none of those that weren't given is worth less
pub record IsLeastNew {V : Type 0} (R : Rules V) (X : Problem) (before : List (List (Option ℕ)))
    (f : List (Option ℕ)) : Type 0 where
  pub valid : IsValid X f
  pub new : ¬ Contains before f
  pub least : (g : List (Option ℕ)) → IsValid X g → ¬ Contains before g
      → IsLe R.monoid (choice_fold R.monoid R.enter X f) (choice_fold R.monoid R.enter X g)

-- one more answer was given
pub record IsOneMore {V : Type 0} (R : Rules V) (X : Problem) (before after : List (List (Option ℕ)))
    : Type 0 where
  pub choice : List (Option ℕ)
  pub appended : after ≡ before ++ choice ∷ []
  pub least : IsLeastNew R X before choice
