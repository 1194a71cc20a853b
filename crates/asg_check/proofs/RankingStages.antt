-- The stages of the verdict on a ranking: what is asked, answers that are amiss, and what is told of
-- nodes.
use Rattle.asg_check.proofs.Common.{◌≡◌, ℕ, suc, ◌<◌, ◌≤◌, List, length, pos, IsTrue, ◌==◌, Some, Option, refl, inl, inr, MayBeAsked, answers_form, is_answer_count, AreBadNodesAt, IsAmissAt, IsNoChoiceAt, IsWrongValueAt, LeaveBetterAt, NodesStand, Form, Answer, Ranked, Problem, Objective, Fact, InMonoidOf, both, mapped, nothing, LacksNode, Node, IsFirstPart, Tells, node_reasons, BadNode, BetterLeft, No, Yes, first_told, whole_told}
use Rattle.asg_trees.specs.Judged.{TellsRanking, TellsTree}
use Rattle.asg_trees.specs.declared.verdicts.TreeVerdict.{TreeVerdict}
use Rattle.asg_trees.specs.declared.verdicts.TreeVerdict.TheVariants.{Tree, FaultAt, NodeLacks, OpenAt}
use Rattle.asg_check.proofs.Certified.{counted, right_of}
use Rattle.asg_check.proofs.TreesByObjective.{FaultFact, LeftFact, constant, fault_within, left_within, none_bad_nodes, proof_bad_nowhere, proof_left_nowhere, proof_of_tree}
use Rattle.asg_model.specs.declared.parts.Place.TheVariants.{All as PlaceAll}
use Rattle.asg_check.specs.declared.document_forms.Form.TheVariants as forms

-- ---- what is asked

-- a ranking answers only where one is asked, which is of an instance that places all rows, and it
-- has an answer
pub all_placed : (form : Form) (objective : Objective) (X : Problem) (count : ℕ) (answers : List Answer) (nodes : List Node) → MayBeAsked form objective X → IsTrue (answers_form form (Ranked count answers nodes)) → X.place ≡ PlaceAll
all_placed forms.Solve objective X count answers nodes may is = absurd (cc)
all_placed forms.Edit objective X count answers nodes may is = absurd (cc)
all_placed (forms.Rank asked) objective X count answers nodes may is = may.1

pub some_answer : (form : Form) (count : ℕ) (answers : List Answer) (nodes : List Node) → IsTrue (answers_form form (Ranked count answers nodes)) → 1 ≤ length answers
some_answer forms.Solve count answers nodes is = absurd (cc)
some_answer forms.Edit count answers nodes is = absurd (cc)
some_answer (forms.Rank asked) count answers nodes is = (counted count (length answers) (right_of (count == asked) (is_answer_count count (length answers)) is)).0

-- ---- answers that are amiss

module _ (objective : Objective) (X : Problem) (answers : List Answer) where
  -- where none is, none lacks a choice, and none has another value
  pub none_unspelled : ((n : ℕ) → ¬ IsAmissAt objective X answers n) → (n : ℕ) → ¬ IsNoChoiceAt X answers n
  none_unspelled none n is = none n (inl is)

  pub none_wrong : ((n : ℕ) → ¬ IsAmissAt objective X answers n) → (n : ℕ) → ¬ IsWrongValueAt objective X answers n
  none_wrong none n is = none n (inr is)

  -- before the first that is, none lacks a choice
  pub unspelled_before : (count n : ℕ) → IsFirstPart (IsAmissAt objective X answers) count (Some n) → (m : ℕ) → m < n → ¬ IsNoChoiceAt X answers m
  unspelled_before count n first m less is = first.2 m less (inl is)

  -- the first that is, where none lacks a choice, has another value
  pub first_wrong : (count n : ℕ) → IsFirstPart (IsAmissAt objective X answers) count (Some n) → ((m : ℕ) → ¬ IsNoChoiceAt X answers m) → IsFirstPart (IsWrongValueAt objective X answers) count (Some n)
  first_wrong count n first spelled = (first.0, by first.1, λ m less is. first.2 m less (inr is))
    where
      by : IsAmissAt objective X answers n → IsWrongValueAt objective X answers n
      by (inl is) = absurd (spelled n is)
      by (inr is) = is

-- ---- nodes

module _ (objective : Objective) (X : Problem) (count : ℕ) (choices : List (List (Option ℕ))) (nodes : List Node) where
  abbrev Faults : ℕ → Type 0
  Faults n = InMonoidOf objective (FaultFact X count choices nodes n)

  abbrev Lefts : ℕ → Type 0
  Lefts n = InMonoidOf objective (LeftFact X count choices nodes n)

  abbrev Told : TreeVerdict → Fact
  Told found = λ V M difference word_of enter. TellsTree M difference word_of enter X count choices nodes found

  -- nodes that are a search tree
  pub tree_told : TellsRanking objective X count choices nodes Tree → Tells (NodesStand objective X count choices nodes) node_reasons Yes
  tree_told tree =
      let p = proof_of_tree X count choices nodes objective tree in
      inr (proof_bad_nowhere X count choices nodes objective p, inr (proof_left_nowhere X count choices nodes objective p, refl))

  -- the first at fault
  pub fault_there : (n : ℕ) → TellsRanking objective X count choices nodes (FaultAt n) → Faults n
  fault_there n told = mapped (Told (FaultAt n)) (FaultFact X count choices nodes n) (λ V M difference word_of enter s p. p.0) objective told

  pub fault_told : (n : ℕ) → TellsRanking objective X count choices nodes (FaultAt n) → Tells (NodesStand objective X count choices nodes) node_reasons (No 10 (pos n))
  fault_told n told =
      inl (first_told (AreBadNodesAt objective X choices nodes) Faults (λ k. k) (λ m k le. le) (λ k fails. (k, refl, fails)) (λ place there. there) BadNode n (fault_there n told)
      (λ m less fault.
      nothing (λ V M difference word_of enter. Told (FaultAt n) V M difference word_of enter × FaultFact X count choices nodes m V M difference word_of enter) (λ V M difference word_of enter s two. two.0.1 m less two.1) objective
      (both (Told (FaultAt n)) (FaultFact X count choices nodes m) objective told fault)))

  -- an answer without a node
  pub lacks_told : TellsRanking objective X count choices nodes NodeLacks → Tells (NodesStand objective X count choices nodes) node_reasons (No 10 (pos 0))
  lacks_told told =
      inl (whole_told (AreBadNodesAt objective X choices nodes) Faults (λ k. k) (λ m k le. le) (λ k fails. (k, refl, fails)) (λ place there. there) BadNode
      (λ m fault.
      nothing (λ V M difference word_of enter. Told NodeLacks V M difference word_of enter × FaultFact X count choices nodes m V M difference word_of enter) (λ V M difference word_of enter s two. two.1.fault (two.0.0 m two.1.there)) objective
      (both (Told NodeLacks) (FaultFact X count choices nodes m) objective told fault))
      (constant (Told NodeLacks) (LacksNode choices nodes) (λ V M difference word_of enter p. p.1) objective told))

  -- the first that is open and may not be
  pub left_there : (n : ℕ) → TellsRanking objective X count choices nodes (OpenAt n) → Lefts n
  left_there n told = mapped (Told (OpenAt n)) (LeftFact X count choices nodes n) (λ V M difference word_of enter s p. p.2) objective told

  pub open_told : (n : ℕ) → TellsRanking objective X count choices nodes (OpenAt n) → Tells (NodesStand objective X count choices nodes) node_reasons (No 11 (pos n))
  open_told n told =
      let sound : (m : ℕ) → ¬ Faults m = λ m fault.
      nothing (λ V M difference word_of enter. Told (OpenAt n) V M difference word_of enter × FaultFact X count choices nodes m V M difference word_of enter) (λ V M difference word_of enter s two. two.1.fault (two.0.0 m two.1.there)) objective
      (both (Told (OpenAt n)) (FaultFact X count choices nodes m) objective told fault) in
      let given : ¬ LacksNode choices nodes = λ lacks. constant (Told (OpenAt n)) ⊥ (λ V M difference word_of enter p. lacks.none (p.1 lacks.number lacks.from lacks.upto)) objective told in
      inr (
        none_bad_nodes X count choices nodes objective sound given,
        inl (first_told (LeaveBetterAt objective X count choices nodes) Lefts (λ k. k) (λ m k le. le) (λ k fails. (k, refl, fails)) (λ place there. there) BetterLeft n (left_there n told)
            (λ m less left.
            nothing (λ V M difference word_of enter. Told (OpenAt n) V M difference word_of enter × LeftFact X count choices nodes m V M difference word_of enter) (λ V M difference word_of enter s two. two.0.3 m less two.1) objective
            (both (Told (OpenAt n)) (LeftFact X count choices nodes m) objective told left))),
      )

  -- the numbers of such nodes are at most as many as there are
  pub fault_upto : (n : ℕ) → TellsRanking objective X count choices nodes (FaultAt n) → n < suc (length nodes)
  fault_upto n told = fault_within X count choices nodes objective n (fault_there n told)

  pub left_upto : (n : ℕ) → TellsRanking objective X count choices nodes (OpenAt n) → n < suc (length nodes)
  left_upto n told = left_within X count choices nodes objective n (left_there n told)
