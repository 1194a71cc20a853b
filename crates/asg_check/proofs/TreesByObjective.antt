-- What stands against the nodes of a ranking, by the monoid of the objective.
use Rattle.asg_check.proofs.Common.{ℕ, suc, ◌<◌, ◌≤◌, List, length, pos, IsTrue, Option, refl, arith, AreBadNodesAt, LeaveBetterAt, IsHall, is_algebraic, Problem, IsValid, Band, Objective, Sum, Bottleneck, BottleneckMax, TimeCost, Balanced, Lex, Cost, top_of, Fact, InMonoidOf, Monoid, Word, both, dec_by, nothing, peaks_spelled, sums_spelled, times_spelled, IsSearchTree, IsAtFault, IsLeftOpen, LacksNode, Node, At, Overall, BadNode, BetterLeft, none_there, tested_parts, Nowhere, Tested}
use Rattle.asg_rankings.specs.TreeProofs.{ProvesRanking}
use Rattle.asg_check.proofs.TreeDecided.{dec_at_fault, dec_lacks, dec_left, tree_from_none}

-- what follows from a fact of any monoid follows from that of the objective's
pub constant : (P : Fact) (Q : Type 0) → ((V : Type 0) (M : Monoid V) (difference : V → V → V) (word_of : V → Word) (enter : Cost → V) → P V M difference word_of enter → Q) → (objective : Objective) → InMonoidOf objective P → Q
constant P Q each Balanced p = absurd p
constant P Q each Lex p = absurd p
constant P Q each objective p = each _ _ _ _ _ p

module _ (X : Problem) (count : ℕ) (choices : List (List (Option ℕ))) (nodes : List Node) where
  abbrev pub FaultFact : ℕ → Fact
  FaultFact n = λ V M difference word_of enter. IsAtFault M difference word_of enter X choices nodes n

  abbrev pub LeftFact : ℕ → Fact
  LeftFact n = λ V M difference word_of enter. IsLeftOpen M difference word_of enter X count choices nodes n

  abbrev pub TreeFact : Fact
  TreeFact = λ V M difference word_of enter. IsSearchTree M difference word_of enter X count choices nodes

  -- nodes that prove a ranking are a search tree in the objective's monoid
  pub tree_of_proof : (objective : Objective) → ProvesRanking objective X count choices nodes → InMonoidOf objective TreeFact
  tree_of_proof Sum p = p
  tree_of_proof objective p = p

  -- the other way round
  pub proof_of_tree : (objective : Objective) → InMonoidOf objective TreeFact → ProvesRanking objective X count choices nodes
  proof_of_tree Sum p = p
  proof_of_tree objective p = p

  -- nodes at fault, and nodes that are left open, are there
  pub fault_within : (objective : Objective) (n : ℕ) → InMonoidOf objective (FaultFact n) → n < suc (length nodes)
  fault_within objective n = constant (FaultFact n) (n < suc (length nodes)) (λ V M difference word_of enter is. let upto = is.there.1 in omega (arith, upto)) objective

  pub left_within : (objective : Objective) (n : ℕ) → InMonoidOf objective (LeftFact n) → n < suc (length nodes)
  left_within objective n = constant (LeftFact n) (n < suc (length nodes)) (λ V M difference word_of enter is. let upto = is.there.1 in omega (arith, upto)) objective

  module _ (objective : Objective) where
    -- the two reasons, at the numbers of nodes
    up : (m n : ℕ) → m ≤ n → m ≤ n
    up m n le = le

    pub none_bad_nodes : ((n : ℕ) → ¬ InMonoidOf objective (FaultFact n)) → ¬ LacksNode choices nodes → Nowhere (AreBadNodesAt objective X choices nodes)
    none_bad_nodes = none_there (AreBadNodesAt objective X choices nodes) (λ n. InMonoidOf objective (FaultFact n)) (λ n. n) up (λ n fails. (n, refl, fails)) (λ place there. there)

    pub none_left_nodes : ((n : ℕ) → ¬ InMonoidOf objective (LeftFact n)) → Nowhere (LeaveBetterAt objective X count choices nodes)
    none_left_nodes none = none_there (LeaveBetterAt objective X count choices nodes) (λ n. InMonoidOf objective (LeftFact n)) (λ n. n) up (λ n fails. (n, refl, fails)) (λ place there. there) none (λ there. there)

    -- nothing stands against nodes that prove a ranking
    module _ (p : ProvesRanking objective X count choices nodes) where
      pub proof_bad_nowhere : Nowhere (AreBadNodesAt objective X choices nodes)
      proof_bad_nowhere =
          none_bad_nodes
          (λ n fault. nothing (λ V M difference word_of enter. TreeFact V M difference word_of enter × FaultFact n V M difference word_of enter) (λ V M difference word_of enter s two. two.1.fault (two.0.sound n two.1.there)) objective (both TreeFact (FaultFact n) objective (tree_of_proof objective p) fault))
          (λ lacks. constant TreeFact ⊥ (λ V M difference word_of enter tree. lacks.none (tree.given lacks.number lacks.from lacks.upto)) objective (tree_of_proof objective p))

      pub proof_left_nowhere : Nowhere (LeaveBetterAt objective X count choices nodes)
      proof_left_nowhere =
          none_left_nodes
          (λ n left. nothing (λ V M difference word_of enter. TreeFact V M difference word_of enter × LeftFact n V M difference word_of enter) (λ V M difference word_of enter s two. two.1.may_not (two.0.open_nodes n two.1.there two.1.marked)) objective (both TreeFact (LeftFact n) objective (tree_of_proof objective p) left))

-- where valid choices and Hall sets are decided
module _ (decided : record { valid : (X : Problem) (f : List (Option ℕ)) → Dec (IsValid X f); hall : (X : Problem) (band : Band) (ids : List ℕ) → Dec (IsHall X band ids) }) (X : Problem) (count : ℕ) (choices : List (List (Option ℕ))) (nodes : List Node) where
  dec_fault_for : (objective : Objective) (n : ℕ) → Dec (InMonoidOf objective (FaultFact X count choices nodes n))
  dec_fault_for objective n = dec_by (FaultFact X count choices nodes n) (λ V M difference word_of enter s. dec_at_fault decided M difference word_of enter s X choices nodes n) objective

  dec_left_for : (objective : Objective) (n : ℕ) → Dec (InMonoidOf objective (LeftFact X count choices nodes n))
  dec_left_for objective n = dec_by (LeftFact X count choices nodes n) (λ V M difference word_of enter s. dec_left decided M difference word_of enter s X choices nodes count n) objective

  pub tested_nodes : (objective : Objective) → Tested (AreBadNodesAt objective X choices nodes) BadNode
  tested_nodes objective =
      tested_parts (AreBadNodesAt objective X choices nodes) (λ n. InMonoidOf objective (FaultFact X count choices nodes n)) (λ n. n) (λ m n le. le) (λ n fails. (n, refl, fails)) (λ place there. there) BadNode (suc (length nodes))
      (fault_within X count choices nodes objective) (dec_fault_for objective) (dec_lacks choices nodes)

  pub tested_left : (objective : Objective) → Tested (LeaveBetterAt objective X count choices nodes) BetterLeft
  tested_left objective =
      tested_parts (LeaveBetterAt objective X count choices nodes) (λ n. InMonoidOf objective (LeftFact X count choices nodes n)) (λ n. n) (λ m n le. le) (λ n fails. (n, refl, fails)) (λ place there. there) BetterLeft (suc (length nodes))
      (left_within X count choices nodes objective) (dec_left_for objective) (no (λ there. there))

  -- nodes against which nothing stands prove the ranking
  module _ (some : 1 ≤ length choices) where
    abbrev Fine : Objective → Type 0
    Fine objective =
        ((n : ℕ) → ¬ InMonoidOf objective (FaultFact X count choices nodes n)) × ((n : ℕ) → ¬ InMonoidOf objective (LeftFact X count choices nodes n))

    whole : ¬ LacksNode choices nodes → (objective : Objective) → IsTrue (is_algebraic objective) → Fine objective → InMonoidOf objective (TreeFact X count choices nodes)
    whole given Bottleneck is fine = tree_from_none decided _ _ _ _ peaks_spelled X choices nodes count some fine.0 given fine.1
    whole given BottleneckMax is fine = tree_from_none decided _ _ _ _ peaks_spelled X choices nodes count some fine.0 given fine.1
    whole given TimeCost is fine = tree_from_none decided _ _ _ _ times_spelled X choices nodes count some fine.0 given fine.1
    whole given Balanced is fine = absurd (cc)
    whole given Lex is fine = absurd (cc)
    whole given objective is fine = tree_from_none decided _ _ _ _ (sums_spelled (top_of objective)) X choices nodes count some fine.0 given fine.1

    pub proved_by_nodes : (objective : Objective) → IsTrue (is_algebraic objective) → Nowhere (AreBadNodesAt objective X choices nodes) → Nowhere (LeaveBetterAt objective X count choices nodes) → ProvesRanking objective X count choices nodes
    proved_by_nodes objective is sound closed =
        proof_of_tree X count choices nodes objective (whole (sound Overall) objective is (λ n fault. sound (At (pos n)) (n, refl, fault), λ n left. closed (At (pos n)) (n, refl, left)))
