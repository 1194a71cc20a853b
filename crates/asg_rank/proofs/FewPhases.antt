-- How many phases the nodes of a tree have, and which of them are open.
use Rattle.asg_rank.proofs.Common.{◌≡◌, ℕ, ◌+◌, ◌-◌, ◌^◌, ◌<◌, ◌≤◌, List, [], ◌∷◌, ◌++◌, map, length, All, Option, sym, ap, ◌∙◌, subst, ⊎_elim, arith, All-tail, cases_lt, length-map, words_over, placed, Problem, IsValid, entry_at, child_number, Rules, given_at, IsTree, Entry, State, Answered, Open, Tree, placed_at, Word, phases_to, IsForest, phases_over, worded, HaveFewPhases, LeaveLastOpen, IsWrittenMark, AreWrittenNodes, node_at, IsNumber, Node}
use Rattle.asg_proof.specs.PromisedProofs.{IsPhaseOver}
use Rattle.asg_rank.proofs.ToldSteps.{told}
use Rattle.asg_rank.proofs.WrittenTrees.{sound_node}
use Rattle.asg_rankings.specs.declared.nodes.Mark.TheVariants.{Answered as MarkAnswered}

-- what holds of a whole list holds of its end
All-end : {X : Type 0} (P : X → Type 0) (xs ys : List X) → All P (xs ++ ys) → All P ys
All-end P [] ys all = all
All-end P (x ∷ xs) ys all = All-end P xs ys (All-tail P x (xs ++ ys) all)

answered_number : (a b : ℕ) → MarkAnswered a ≡ MarkAnswered b → a ≡ b
answered_number a b e = cc

module _ {V : Type 0} (R : Rules V) (word_of : V → Word) (X : Problem) (given : List (List (Option ℕ))) (winner : ℕ → ℕ) (T : Tree V) (part : ℕ → Problem)
    (tree : IsTree R X given winner (length T.entries.items) T part) (fits : length given < 2 ^ 32) (valid : (a : ℕ) → a < length given → IsValid (part (winner a)) (given_at given a))
    (nodes : List Node) (written : AreWrittenNodes R.monoid.unit word_of T nodes)
  where
    abbrev entry : ℕ → Entry V
    entry n = entry_at R.monoid.unit T.entries.items n

    module _ (forest : IsForest T.region) where
      own_over : (n : ℕ) → IsNumber nodes n → All (IsPhaseOver T.region.side) (node_at nodes n).own
      own_over n number =
          let c = written.count in
          let high = number.1 in
          let at = told R X given winner T part tree fits n number.0 (omega (arith, high, c)) in
          let all = phases_over T.region forest (entry n).trail at.live in
          let w = written.each n number.0 number.1 in
          ⊎_elim
          (λ (none : (entry n).parent < 1).
          subst (All (IsPhaseOver T.region.side)) (sym (w.own_are.root (omega (arith, none))))
          (words_over word_of T.region.side (phases_to T.region (entry n).trail) all))
          (λ (some : 1 ≤ (entry n).parent).
          let own = w.own_are.below some in
          subst (All (IsPhaseOver T.region.side)) (sym own.words)
          (words_over word_of T.region.side own.own
          (All-end (IsPhaseOver T.region.side) (phases_to T.region (entry (entry n).parent).trail) own.own (subst (All (IsPhaseOver T.region.side)) own.list all))))
          (cases_lt (entry n).parent 1)

      own_one : (n : ℕ) → IsNumber nodes n → 1 < n → length (node_at nodes n).own ≤ 1
      own_one n number later =
          let w = written.each n number.0 number.1 in
          let sound = sound_node R word_of X given winner T part tree valid nodes written n number in
          let there = (sound.has_place.below later).there in
          let parent = w.parent_is in
          let own = w.own_are.below (omega (arith, there, parent)) in
          let same : length (node_at nodes n).own ≡ length (map (worded word_of) own.own) = ap length own.words in
          let size = length-map own.own (worded word_of) in
          let one = own.one in
          omega (arith, same, size, one)

      pub few_phases : (side : ℕ) → T.region.side ≡ side → HaveFewPhases side nodes
      few_phases side is = record {
        over = λ n number. subst (λ s. All (IsPhaseOver s) (node_at nodes n).own) is (own_over n number);
        one = own_one;
      }

    mark_of : (n : ℕ) → IsNumber nodes n → (s : State) → (entry n).state ≡ s → IsWrittenMark T.halls s (node_at nodes n).mark
    mark_of n number s is = subst (λ x. IsWrittenMark T.halls x (node_at nodes n).mark) is (written.each n number.0 number.1).mark_is

    -- where the children of the last answer's node are open, they are marked so
    pub last_open : (count : ℕ) → (length given ≡ count → (i : ℕ) → 1 ≤ i → i ≤ placed X → (entry (child_number (placed X) (length given - 1) i)).state ≡ Open) → LeaveLastOpen count given nodes
    last_open count opened full n m number_n number_m is parent =
        ⊎_elim
        (λ (root : m < 2).
        let low = number_m.0 in
        let from = number_n.0 in
        let none = (sound_node R word_of X given winner T part tree valid nodes written m number_m).has_place.root_parent (omega (arith, root, low)) in
        absurd (omega (arith, none, parent, from)))
        (λ (later : 2 ≤ m).
        let c = written.count in
        let e = tree.upto_is in
        let high = number_m.1 in
        let at = placed_at (placed X) (length given) m later (omega (arith, high, c, e)) in
        let at_is = at.is in
        let child_of = tree.children at.answer at.branch at.given at.from at.upto (omega (arith, high, c, at_is)) in
        let up : (node_at nodes m).parent ≡ winner at.answer = (written.each m number_m.0 number_m.1).parent_is ∙ ap (λ k. (entry k).parent) at.is ∙ child_of.parent_is in
        let here : winner at.answer ≡ n = sym up ∙ parent in
        let state : (entry n).state ≡ Answered (at.answer + 1) = ap (λ k. (entry k).state) (sym here) ∙ (tree.winners at.answer at.given).state_is in
        let number : at.answer + 1 ≡ count = answered_number (at.answer + 1) count (sym (mark_of n number_n (Answered (at.answer + 1)) state) ∙ is) in
        let last : at.answer ≡ length given - 1 = omega (arith, number, full) in
        let kept : (entry m).state ≡ Open = ap (λ k. (entry k).state) at.is ∙ ap (λ a. (entry (child_number (placed X) a at.branch)).state) last ∙ opened full at.branch at.from at.upto in
        mark_of m number_m Open kept)
        (cases_lt m 2)
