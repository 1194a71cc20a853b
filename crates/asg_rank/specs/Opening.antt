-- A search before its root is made.
use Rattle.std.specs.Prelude.{◌≡◌, ℕ, ◌+◌, ◌-◌, ◌*◌, ◌^◌, ◌<◌, ◌≤◌, true, List, [], length, All, Option, vec_len, vec_capacity}
use Rattle.asg_algebra.specs.declared.solving.Solved.{Solved}
use Rattle.asg_algebra.specs.declared.solving.Solved.TheVariants.{Perfect, Short}
use Rattle.asg_match.specs.Deficient.{IsDeficient}
use Rattle.asg_match.specs.HallSets.{AllowsCells}
use Rattle.asg_model.specs.declared.bands.Band.TheVariants.{Whole}
use Rattle.asg_model.specs.Counts.{placed}
use Rattle.asg_model.specs.Problem.{Problem}
use Rattle.asg_model.specs.Shapes.{square_side}
use Rattle.asg_square.specs.Cells.{IsPresent}
use Rattle.asg_square.specs.Grid.{Grid, cell_at, HasLabelsOf}
use Rattle.asg_square.specs.Masked.{masked_grid}
use Rattle.asg_branching.specs.declared.searches.Search.{Search}
use Rattle.asg_rank.specs.declared.opening.Memory.{Memory}
use Rattle.asg_nodes.specs.Cuts.{AreBitsFor}
use Rattle.asg_nodes.specs.Rules.{Rules, Leads, IsSolved, IsReducedTo}
use Rattle.asg_rank.specs.Desks.{IsDeskMemory}
use Rattle.asg_branching.specs.Searches.{IsRankable, HasMemory}
use Rattle.asg_roots.specs.declared.roots.Root.{Root}

-- nothing was given and there is no node, with the memory for so many answers
pub record IsBlank {V : Type 0} (X : Problem) (room : ℕ) (S : Search V) : Type 0 where
  pub none_given : S.given ≡ 0
  pub no_slot : S.slots.used ≡ []
  pub room_is : S.slots.room ≡ room
  pub no_node : S.tree.entries.items ≡ []
  pub no_hall : S.tree.halls.sets ≡ []
  pub entries_fit : room * placed X + 1 ≤ vec_capacity S.tree.entries
  pub halls_fit : S.tree.halls.most ≡ room * placed X + 1
  pub halls_width : S.tree.halls.width ≡ length X.rows
  pub choices_fit : vec_len S.choices ≡ room
  pub choices_over : All (λ f. length f ≡ length X.rows) S.choices.items
  pub work : S.desk.work.now ≡ S.base.now
  pub no_square : S.desk.node ≡ 0
  pub bits : AreBitsFor S.base.now.side (λ _ _. true) S.desk.bits

-- the memory of a search for so many answers: no node yet, free slots and choices, and a desk but
-- for a bench, over a copy of a square
pub record IsMemory {V : Type 0} (X : Problem) (room : ℕ) (Q : Grid V) (memory : Memory V) : Type 0 where
  pub small : room * placed X + 1 < 2 ^ 32
  pub no_node : memory.tree.0.items ≡ []
  pub entries_fit : room * placed X + 1 ≤ vec_capacity memory.tree.0
  pub halls_are : memory.tree.1 ≡ record { most = room * placed X + 1; width = length X.rows; sets = [] }
  pub slots_are : memory.answers.1 ≡ record { side = square_side X; room = room; used = [] }
  pub choices_fit : vec_len memory.answers.0 ≡ room
  pub choices_over : All (λ f. length f ≡ length X.rows) memory.answers.0.items
  pub desk : IsDeskMemory Q memory.desk

-- the solved root that a search is over, with what solving it came to
abbrev pub root_in : {V : Type 0} → Search V → Solved → List (Option ℕ) → Root V
root_in S ended matching = record {
  reduced = S.base;
  ended = ended;
  matching = matching;
  bench = S.desk.bench;
  region = S.tree.region;
}

-- what solving the square of the instance came to: a best choice, or rows with too few columns
abbrev pub IsRootOf : {V : Type 0} → Rules V → Problem → Search V → List (Option ℕ) → Solved → Type 0
IsRootOf R X S matching (Perfect last) =
    IsReducedTo R S.tree.region X last S.base.index S.base × Leads R S.tree.region X last S.base.index
    × IsSolved R S.tree.region X last S.base.index matching
IsRootOf R X S matching (Short last) =
    let cells = IsPresent (cell_at (masked_grid S.desk.work.now S.desk.bits.words)) in
    HasLabelsOf X S.desk.work.now × IsDeficient cells S.desk.work.now.side S.desk.bench.rows
    × AllowsCells cells X Whole

-- a search whose root can be made, with room for so many answers
pub record IsPlantable {V : Type 0} (R : Rules V) (X : Problem) (room : ℕ) (S : Search V) (ended : Solved)
    (matching : List (Option ℕ)) : Type 0 where
  pub some : 1 ≤ room
  pub rankable : IsRankable R X
  pub blank : IsBlank X room S
  pub memory : HasMemory X S
  pub root : IsRootOf R X S matching ended
  pub phases_fit : (room - 1) * placed X ≤ S.tree.region.spare
