-- The nodes that prove a ranking can be written.
use Rattle.asg_answers.proofs.Common.{◌≡◌, ℕ, zero, suc, ◌-◌, ◌^◌, ◌<◌, ◌≤◌, Bool, true, false, List, [], ◌++◌, map, length, get_or, if◌then◌else◌, nat_le, All, Option, sym, refl, ap, subst, arith, All-drop, All-map, All-nil, drop-append_seam, get_or_default, admitted_values, HasMarkText, HasNodeText, HasStepText, HasTreeText, HasWord, has_grades, IsHall, Problem, square_side, Whole, Objective, Sum, SumMax, SumPair, Capped, Bottleneck, BottleneckMax, TimeCost, Balanced, Lex, Cost, Monoid, IsValue, Word, PhaseOf, worded, IsProvedRanking, AreNodeParts, IsMarkPart, IsNodePart, Node}
use Rattle.asg_rankings.specs.declared.nodes.Mark.{Mark}
use Rattle.asg_rankings.specs.declared.nodes.Mark.TheVariants.{Answered, Open, Empty}
use Rattle.asg_rankings.specs.Nodes.{IsNumber, node_at, node_instance, node_trail, trail_within}
use Rattle.asg_rankings.specs.SearchTrees.{HasTrail, IsMarked, IsSearchTree}
use Rattle.asg_rankings.specs.TreeProofs.{ProvesRanking}
use Rattle.asg_rank.specs.Rankings.{AreCountable, HaveFewPhases}
use Rattle.asg_answers.proofs.HallRows.{AreRows-hall, IsHallShort}
use Rattle.asg_answers.proofs.PhaseTexts.{HaveStepTexts, peak_text, sum_text, time_text}

-- what holds of a list holds of what it ends with
All-behind : {X : Type 0} (P : X → Type 0) (xs ys : List X) → All P (xs ++ ys) → All P ys
All-behind P xs ys all = subst (All P) (drop-append_seam xs ys) (All-drop P (length xs) (xs ++ ys) all)

module _ {V : Type 0} (M : Monoid V) (difference : V → V → V) (word_of : V → Word) (enter : Cost → V) (grades : Bool) (texts : (x : V) → IsValue M x → HasStepText grades (word_of x)) (X : Problem) (answers : List (List (Option ℕ))) (nodes : List Node) where
  -- the steps of a trail of values can be written
  trail_texts : (n : ℕ) → HasTrail M difference word_of enter X answers nodes n → HaveStepTexts grades (node_trail nodes n)
  trail_texts n trail = subst (HaveStepTexts grades) trail.written all
    where
      values : All (λ phase. All (IsValue M) phase.steps) trail.phases
      values = admitted_values M difference _ trail.phases _ trail.admitted

      one : (phase : PhaseOf V) → All (IsValue M) phase.steps → All (HasStepText grades) (worded word_of phase).steps
      one phase are = All-map (HasStepText grades) word_of phase.steps (λ t d within. texts (get_or phase.steps t d) (are t d within))

      all : HaveStepTexts grades (map (worded word_of) trail.phases)
      all = All-map (λ (p : PhaseOf Word). All (HasStepText grades) p.steps) (worded word_of) trail.phases (λ k d within. one (get_or trail.phases k d) (values k d within))

  -- so can those of the phases with which it ends
  own_texts : (n : ℕ) → 1 ≤ n → HasTrail M difference word_of enter X answers nodes n → HaveStepTexts grades (node_at nodes n).own
  own_texts zero from trail = absurd (omega arith)
  own_texts (suc m) from trail =
      All-behind (λ (p : PhaseOf Word). All (HasStepText grades) p.steps)
      (if nat_le (suc m) 1 then [] else trail_within nodes m (node_at nodes (suc m)).parent) (node_at nodes (suc m)).own
      (trail_texts (suc m) trail)

-- what a document must be told of the nodes of a search tree: there is one, the steps of their own
-- phases can be written, and an empty one has a Hall set and no phases
record AreToldNodes (grades : Bool) (X : Problem) (answers : List (List (Option ℕ))) (nodes : List Node) : Type 0 where
  some : 1 ≤ length nodes
  steps : (n : ℕ) → IsNumber nodes n → HaveStepTexts grades (node_at nodes n).own
  empty : (n : ℕ) (rows : List ℕ) → IsNumber nodes n → (node_at nodes n).mark ≡ Empty rows → IsHall (node_instance X answers nodes n) Whole rows × ((node_at nodes n).own ≡ [])

told_by : {V : Type 0} (M : Monoid V) (difference : V → V → V) (word_of : V → Word) (enter : Cost → V) (grades : Bool) → ((x : V) → IsValue M x → HasStepText grades (word_of x))
    → (X : Problem) (count : ℕ) (answers : List (List (Option ℕ))) (nodes : List Node) → IsSearchTree M difference word_of enter X count answers nodes → AreToldNodes grades X answers nodes
told_by M difference word_of enter grades texts X count answers nodes tree = record {
  some = tree.root;
  steps = λ n there. by_mark n there (node_at nodes n).mark (tree.sound n there).marked;
  empty = λ n rows there is. subst (IsMarked M difference word_of enter X answers nodes n) is (tree.sound n there).marked;
}
  where
    by_mark : (n : ℕ) → IsNumber nodes n → (mark : Mark) → IsMarked M difference word_of enter X answers nodes n mark → HaveStepTexts grades (node_at nodes n).own
    by_mark n there (Answered a) marked = own_texts M difference word_of enter grades texts X answers nodes n there.0 marked.1
    by_mark n there Open marked = own_texts M difference word_of enter grades texts X answers nodes n there.0 marked
    by_mark n there (Empty rows) marked = subst (HaveStepTexts grades) (sym marked.1) (All-nil (λ (p : PhaseOf Word). All (HasStepText grades) p.steps))

told_nodes : (objective : Objective) (X : Problem) (count : ℕ) (answers : List (List (Option ℕ))) (nodes : List Node) → HasWord objective → ProvesRanking objective X count answers nodes → AreToldNodes (has_grades objective) X answers nodes
told_nodes Sum X count answers nodes word proves = told_by _ _ _ _ false (sum_text (2 ^ 120) (omega arith)) X count answers nodes proves
told_nodes SumMax X count answers nodes word proves = told_by _ _ _ _ false (sum_text (2 ^ 120) (omega arith)) X count answers nodes proves
told_nodes SumPair X count answers nodes word proves = told_by _ _ _ _ false (sum_text (2 ^ 120) (omega arith)) X count answers nodes proves
told_nodes (Capped cap) X count answers nodes word proves = told_by _ _ _ _ false (sum_text cap (omega (arith, word.1))) X count answers nodes proves
told_nodes Bottleneck X count answers nodes word proves = told_by _ _ _ _ false peak_text X count answers nodes proves
told_nodes BottleneckMax X count answers nodes word proves = told_by _ _ _ _ false peak_text X count answers nodes proves
told_nodes TimeCost X count answers nodes word proves = told_by _ _ _ _ true time_text X count answers nodes proves
told_nodes Balanced X count answers nodes word proves = absurd proves
told_nodes Lex X count answers nodes word proves = absurd proves

-- a node has few phases of its own
few_own : (side : ℕ) (nodes : List Node) → HaveFewPhases side nodes → AreCountable nodes → (n : ℕ) → IsNumber nodes n → length (node_at nodes n).own < 2 ^ 32
few_own side nodes few countable zero there = absurd (omega (arith, there.0))
few_own side nodes few countable (suc zero) there = countable.root_fits
few_own side nodes few countable (suc (suc m)) there = omega (arith, few.one (suc (suc m)) there (omega arith))

-- so it can be written
node_text : IsHallShort → (side : ℕ) (grades : Bool) (X : Problem) (answers : List (List (Option ℕ))) (nodes : List Node) → AreToldNodes grades X answers nodes → HaveFewPhases side nodes → AreCountable nodes → AreNodeParts nodes
    → (n : ℕ) → IsNumber nodes n → HasNodeText grades (node_at nodes n)
node_text short side grades X answers nodes told few countable parts n there = record {
  parent_fits = part.parent_fits;
  branch_fits = part.branch_fits;
  marked = by_mark (node_at nodes n).mark refl part.mark_is;
  phases = record {
    few = few_own side nodes few countable n there;
    each = λ k d below.
        let over = few.over n there k d below in
        let kept = part.own_are k d below in
        record {
          steps = record { some = over.some; each = told.steps n there k d below };
          enters = record { some = omega (arith, over.enters, over.some, over.few); ids = kept.enters_below };
          leaves = record { some = omega (arith, over.leaves, over.some, over.few); ids = kept.leaves_below };
        };
  };
}
  where
    part : IsNodePart (node_at nodes n)
    part = parts (n - 1) _ (omega (arith, there.0, there.1))

    by_mark : (mark : Mark) → (node_at nodes n).mark ≡ mark → IsMarkPart mark → HasMarkText mark (length (node_at nodes n).own)
    by_mark (Answered a) is kept = kept
    by_mark Open is kept = tt
    by_mark (Empty rows) is kept =
        let empty = told.empty n rows there is in
        (AreRows-hall short (node_instance X answers nodes n) Whole rows empty.0 kept, ap length empty.1)

pub HasTreeText-proved : IsHallShort → (objective : Objective) (X : Problem) (count : ℕ) (answers : List (List (Option ℕ))) (nodes : List Node) → HasWord objective → IsProvedRanking objective X count answers nodes → AreNodeParts nodes
    → HasTreeText (has_grades objective) nodes
HasTreeText-proved short objective X count answers nodes word ranking parts = record {
  some = omega (arith, told.some);
  few = ranking.countable.nodes_fit;
  each = λ i d within. at i d within;
}
  where
    told : AreToldNodes (has_grades objective) X answers nodes
    told = told_nodes objective X count answers nodes word ranking.proved

    at : (i : ℕ) (d : Node) → i < length nodes → HasNodeText (has_grades objective) (get_or nodes i d)
    at i d within =
        let number : suc i - 1 ≡ i = omega arith in
        let blank : Node = record { parent = 0; branch = 0; mark = Open; own = [] } in
        let text = node_text short (square_side X) (has_grades objective) X answers nodes told ranking.phases ranking.countable parts (suc i) (omega arith, omega (arith, within)) in
        subst (HasNodeText (has_grades objective)) (get_or_default nodes i blank d within) (subst (λ k. HasNodeText (has_grades objective) (get_or nodes k blank)) number text)
