-- The instance and the trail of a node, where the nodes up to it have their places.
use Rattle.asg_trees.proofs.Common.{◌≡◌, ℕ, zero, suc, ◌<◌, ◌≤◌, cond, List, [], ◌++◌, nat_le, Option, sym, refl, ap, ◌∙◌, ⊎_elim, arith, le-leb, cases_lt, cond-false, cond-true, lt-leb, Problem, child, node_at, node_answer, instance_within, node_instance, trail_within, node_trail, Node}

module _ (nodes : List Node) (last : ℕ) (falls : (m : ℕ) → 1 < m → m ≤ last → (node_at nodes m).parent < m) where
  module _ (X : Problem) (answers : List (List (Option ℕ))) where
    -- more steps lead nowhere else
    same_within : (s t n : ℕ) → n ≤ last → n ≤ s → n ≤ t → instance_within X answers nodes s n ≡ instance_within X answers nodes t n
    same_within zero zero n within from upto = refl
    same_within zero (suc t) n within from upto =
        sym (cond-true (nat_le n 1) X _ (le-leb n 1 (omega (arith, from))))
    same_within (suc s) zero n within from upto =
        cond-true (nat_le n 1) X _ (le-leb n 1 (omega (arith, upto)))
    same_within (suc s) (suc t) n within from upto =
        let parent = (node_at nodes n).parent in
        ⊎_elim
        (λ (root : n < 2).
        cond-true (nat_le n 1) X _ (le-leb n 1 (omega (arith, root)))
        ∙ sym (cond-true (nat_le n 1) X _ (le-leb n 1 (omega (arith, root)))))
        (λ (below : 2 ≤ n).
        let less = falls n (omega (arith, below)) within in
        ap (λ Y. cond (nat_le n 1) X (child Y (node_answer answers nodes parent) (node_at nodes n).branch))
        (same_within s t parent (omega (arith, less, within)) (omega (arith, less, from)) (omega (arith, less, upto))))
        (cases_lt n 2)

    -- the instance of a node below the root is the child of its parent's
    pub instance_child : (n : ℕ) → 1 < n → n ≤ last → node_instance X answers nodes n ≡ child (node_instance X answers nodes (node_at nodes n).parent) (node_answer answers nodes (node_at nodes n).parent) (node_at nodes n).branch
    instance_child zero below within = absurd (omega (arith, below))
    instance_child (suc k) below within =
        let n = suc k in
        let parent = (node_at nodes n).parent in
        let less = falls n below within in
        cond-false (nat_le n 1) X (child (instance_within X answers nodes k parent) (node_answer answers nodes parent) (node_at nodes n).branch) (lt-leb n 1 below)
        ∙ ap (λ Y. child Y (node_answer answers nodes parent) (node_at nodes n).branch)
        (same_within k parent parent (omega (arith, less, within)) (omega (arith, less)) (omega arith))

  module _ (rises : (m : ℕ) → 1 < m → m ≤ last → 1 ≤ (node_at nodes m).parent) where
    same_trail : (s t n : ℕ) → 1 ≤ n → n ≤ last → n ≤ s → n ≤ t → trail_within nodes s n ≡ trail_within nodes t n
    same_trail zero t n from within low high = absurd (omega (arith, from, low))
    same_trail (suc s) zero n from within low high = absurd (omega (arith, from, high))
    same_trail (suc s) (suc t) n from within low high =
        let parent = (node_at nodes n).parent in
        let own = (node_at nodes n).own in
        ⊎_elim
        (λ (root : n < 2).
        ap (λ b. cond b [] (trail_within nodes s parent) ++ own) (le-leb n 1 (omega (arith, root)))
        ∙ sym (ap (λ b. cond b [] (trail_within nodes t parent) ++ own) (le-leb n 1 (omega (arith, root)))))
        (λ (below : 2 ≤ n).
        let less = falls n (omega (arith, below)) within in
        ap (λ trail. cond (nat_le n 1) [] trail ++ own)
        (same_trail s t parent (rises n (omega (arith, below)) within) (omega (arith, less, within)) (omega (arith, less, low)) (omega (arith, less, high))))
        (cases_lt n 2)

    -- the trail of a node below the root is its parent's, and then its own phases
    pub trail_child : (n : ℕ) → 1 < n → n ≤ last → node_trail nodes n ≡ node_trail nodes (node_at nodes n).parent ++ (node_at nodes n).own
    trail_child zero below within = absurd (omega (arith, below))
    trail_child (suc k) below within =
        let n = suc k in
        let parent = (node_at nodes n).parent in
        let own = (node_at nodes n).own in
        let less = falls n below within in
        ap (λ b. cond b [] (trail_within nodes k parent) ++ own) (lt-leb n 1 below)
        ∙ ap (λ trail. trail ++ own) (same_trail k parent parent (rises n below within) (omega (arith, less, within)) (omega (arith, less)) (omega arith))
