-- The nodes of a tree that are written one after another.
use Rattle.asg_rank.proofs.Common.{◌≡◌, ℕ, ◌+◌, ◌-◌, ◌<◌, ◌≤◌, List, [], ◌∷◌, ◌++◌, length, get_or, sym, refl, ap, ◌∙◌, subst, ⊎_elim, arith, All-nil, All-push, cases_lt, get_or_append_left, get_or_at, get_or_default, length_push, blank, entry_at, Entry, Tree, Word, IsWrittenNode, PushesNode, AreWrittenNodes, node_at, Node}
use Rattle.asg_rankings.specs.NodeLists.{IsNodePart, AreNodeParts}
use Rattle.asg_rankings.specs.declared.nodes.Mark.TheVariants.{Open as MarkOpen}

-- an entry that was read from a list of the nodes is the node of the next number
pub entry_here : {V : Type 0} (unit : V) (entries xs : List (Entry V)) (i : ℕ) (x : Entry V) → xs ≡ entries → x ≡ get_or xs i x → i < length xs → entry_at unit entries (i + 1) ≡ x
entry_here unit entries xs i x same is less =
    let place : i + 1 - 1 ≡ i = omega arith in
    ap (λ k. get_or entries k (blank unit)) place ∙ ap (λ l. get_or l i (blank unit)) (sym same) ∙ get_or_default xs i (blank unit) x less ∙ sym is

-- the first so many nodes are written
pub record AreFirstNodes {V : Type 0} (unit : V) (word_of : V → Word) (T : Tree V) (count : ℕ) (nodes : List Node) : Type 0 where
  pub count_is : length nodes ≡ count
  pub each : (n : ℕ) → 1 ≤ n → n ≤ count → IsWrittenNode unit word_of T (entry_at unit T.entries.items n) (node_at nodes n)
  pub kept : AreNodeParts nodes

module _ {V : Type 0} (unit : V) (word_of : V → Word) (T : Tree V) where
  pub nodes_first : AreFirstNodes unit word_of T 0 []
  nodes_first = record { count_is = refl; each = λ n low high. absurd (omega (arith, low, high)); kept = All-nil IsNodePart }

  one_more : (count : ℕ) (nodes : List Node) → AreFirstNodes unit word_of T count nodes → (here : Entry V) → entry_at unit T.entries.items (count + 1) ≡ here → (node : Node) → IsWrittenNode unit word_of T here node → IsNodePart node → AreFirstNodes unit word_of T (count + 1) (nodes ++ node ∷ [])
  one_more count nodes first here here_is node written part =
      let d : Node = record { parent = 0; branch = 0; mark = MarkOpen; own = [] } in
      let size = first.count_is in
      let more = length_push nodes node in
      record {
        count_is = omega (arith, more, size);
        each = λ n low high.
            ⊎_elim
            (λ (early : n < count + 1).
            subst (IsWrittenNode unit word_of T (entry_at unit T.entries.items n))
            (sym (get_or_append_left nodes (node ∷ []) d (n - 1) (omega (arith, early, low, size))))
            (first.each n low (omega (arith, early))))
            (λ (late : count + 1 ≤ n).
            let is : count + 1 ≡ n = omega (arith, late, high) in
            let place : length nodes ≡ count + 1 - 1 = omega (arith, size) in
            subst (λ m. IsWrittenNode unit word_of T (entry_at unit T.entries.items m) (node_at (nodes ++ node ∷ []) m)) is
            (subst (IsWrittenNode unit word_of T (entry_at unit T.entries.items (count + 1))) (sym (get_or_at nodes node [] d (count + 1 - 1) place))
            (subst (λ e. IsWrittenNode unit word_of T e node) (sym here_is) written)))
            (cases_lt n (count + 1));
        kept = All-push IsNodePart nodes node first.kept part;
      }

  pub nodes_more : (count : ℕ) (nodes after : List Node) → AreFirstNodes unit word_of T count nodes → (here : Entry V) → entry_at unit T.entries.items (count + 1) ≡ here → PushesNode unit word_of T here nodes after → AreFirstNodes unit word_of T (count + 1) after
  nodes_more count nodes after first here here_is pushes =
      subst (AreFirstNodes unit word_of T (count + 1)) (sym pushes.pushed) (one_more count nodes first here here_is pushes.node pushes.written pushes.part)

  pub nodes_all : (count : ℕ) (nodes : List Node) → count ≡ length T.entries.items → AreFirstNodes unit word_of T count nodes → AreWrittenNodes unit word_of T nodes
  nodes_all count nodes all first =
      let size = first.count_is in
      record {
        count = size ∙ all;
        each = λ n low high. first.each n low (omega (arith, high, size));
      }
