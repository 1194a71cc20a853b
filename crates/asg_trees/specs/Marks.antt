-- What is judged of a node by its mark, on the square of its parent and the cells that its branch
-- keeps.
use Rattle.std.specs.Prelude.{◌≡◌, ◌≢◌, ℕ, ◌<◌, ◌≤◌, Option, Some, List, [], length}
use Rattle.asg_model.specs.Counts.{placed}
use Rattle.asg_model.specs.Problem.{Problem}
use Rattle.asg_order.specs.declared.words.Word.{Word}
use Rattle.asg_order.specs.Monoid.{Monoid, IsLe}
use Rattle.asg_bit_rows.specs.BitTable.{BitTable}
use Rattle.asg_square.specs.Grid.{Grid}
use Rattle.asg_square.specs.HallColumns.{OutnumberColumns}
use Rattle.asg_rankings.specs.declared.nodes.Mark.{Mark}
use Rattle.asg_rankings.specs.declared.nodes.Mark.TheVariants.{Answered, Open, Empty}
use Rattle.asg_rankings.specs.declared.nodes.Node.{Node}
use Rattle.asg_rankings.specs.Nodes.{answer_at, answer_number, node_at}
use Rattle.asg_proof.specs.Phases.{PhaseOf}
use Rattle.asg_rankings.specs.SearchTrees.{child_count}
use Rattle.asg_trees.specs.declared.judged_trees.Tree.{Tree}
use Rattle.asg_trees.specs.declared.verdicts.Judgement.{Judgement}
use Rattle.asg_trees.specs.declared.verdicts.Judgement.TheVariants.{AtFault, LeftOpen, Fine}
use Rattle.asg_kept_cells.specs.Kept.{ChoosesKept, kept_cells}
use Rattle.asg_kept_cells.specs.MaskedPhases.{AreAdmittedWithin, HaveIndexAfter}

-- node number n has an answer of its own, one of so many, that no node before it has, and each of
-- so many branches has one node
pub record HasOwnAnswer (answers k : ℕ) (nodes : List Node) (n a : ℕ) : Type 0 where
  pub from : 1 ≤ a
  pub upto : a ≤ answers
  pub first : (m : ℕ) → 1 ≤ m → m < n → answer_number (node_at nodes m).mark ≢ a
  pub branches : (i : ℕ) → 1 ≤ i → i ≤ k → child_count nodes n i ≡ 1

-- what its mark asks of node number n holds on the kept cells of a square
abbrev pub MarkHolds : {V : Type 0} → Monoid V → (V → V → V) → (V → Word) → Problem → List (List (Option ℕ))
    → List Node → Grid V → BitTable → ℕ → Mark → Type 0
MarkHolds M difference word_of X answers nodes Q kept n (Answered a) =
    HasOwnAnswer (length answers) (placed X) nodes n a × ChoosesKept Q kept.words (answer_at answers a)
    × AreAdmittedWithin M difference word_of Q kept (node_at nodes n).own
MarkHolds M difference word_of X answers nodes Q kept n Open =
    AreAdmittedWithin M difference word_of Q kept (node_at nodes n).own
MarkHolds M difference word_of X answers nodes Q kept n (Empty rows) =
    OutnumberColumns X (kept_cells Q kept) rows × ((node_at nodes n).own ≡ [])

-- the product of the last answer is at most the index of words after another
abbrev pub IsBounded : {V : Type 0} → Monoid V → (V → V → V) → (V → Word) → Option V → Grid V → BitTable → V
    → List (PhaseOf Word) → Type 0
IsBounded {V} M difference word_of last Q kept before words =
    (z : V) × (index : V) × (last ≡ Some z) × HaveIndexAfter M difference word_of Q kept before words index × IsLe M z index

-- a judgement of an open node tells whether its own phases are admitted, and whether it may be open
abbrev pub JudgesOpen : {V : Type 0} → Monoid V → (V → V → V) → (V → Word) → Option V → Grid V → BitTable → V
    → List (PhaseOf Word) → Judgement → Type 0
JudgesOpen M difference word_of last Q kept before words AtFault =
    ¬ AreAdmittedWithin M difference word_of Q kept words
JudgesOpen M difference word_of last Q kept before words LeftOpen =
    AreAdmittedWithin M difference word_of Q kept words
    × ¬ IsBounded M difference word_of last Q kept before words
JudgesOpen M difference word_of last Q kept before words Fine =
    IsBounded M difference word_of last Q kept before words

-- a judgement of another node tells whether what is asked holds
abbrev pub JudgesOther : Type 0 → Judgement → Type 0
JudgesOther Holds AtFault = ¬ Holds
JudgesOther Holds LeftOpen = ⊥
JudgesOther Holds Fine = Holds

-- a tree as its nodes' marks are judged: the instance, the answers, the nodes, and the product of
-- the last answer, where as many are listed as were asked for
pub record MarkedTree (V : Type 0) : Type 0 where
  pub problem : Problem
  pub answers : List (List (Option ℕ))
  pub nodes : List Node
  pub last : Option V

abbrev pub marked_tree : {V : Type 0} → Tree V → MarkedTree V
marked_tree tree = record {
  problem = tree.inst.now;
  answers = tree.answers.now;
  nodes = tree.nodes.now;
  last = tree.last;
}

-- a judgement of a node with this mark tells whether what the mark asks holds, and, where it is
-- open, whether it may be
abbrev pub JudgesMark : {V : Type 0} → Monoid V → (V → V → V) → (V → Word) → MarkedTree V → Grid V → BitTable → V
    → ℕ → Mark → Judgement → Type 0
JudgesMark M difference word_of T Q kept before n (Answered a) judgement =
    JudgesOther (MarkHolds M difference word_of T.problem T.answers T.nodes Q kept n (Answered a)) judgement
JudgesMark M difference word_of T Q kept before n Open judgement =
    JudgesOpen M difference word_of T.last Q kept before (node_at T.nodes n).own judgement
JudgesMark M difference word_of T Q kept before n (Empty rows) judgement =
    JudgesOther (MarkHolds M difference word_of T.problem T.answers T.nodes Q kept n (Empty rows)) judgement
