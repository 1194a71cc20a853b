-- What the instances of nodes keep, and that a node's instance is the child of its parent's.
use Rattle.std.proofs.Common.{◌≡◌, ℕ, zero, suc, ◌<◌, ◌≤◌, cond, List, [], ◌++◌, length, Option, refl, sym, ◌∙◌, ap, subst, arith, ⊎_elim}
use Rattle.std.specs.Prelude.{IfSome, nat_le}
use Rattle.std.proofs.lemmas.Bool.{le-leb, lt-leb, cond-true, cond-false, cond_both, cases_lt}
use Rattle.asg_model.specs.declared.parts.Cost.{Cost}
use Rattle.asg_model.specs.Counts.{placed}
use Rattle.asg_model.specs.Instances.{IsInstance}
use Rattle.asg_model.specs.Live.{live_at}
use Rattle.asg_model.specs.Problem.{Problem}
use Rattle.asg_model.specs.ValidChoice.{IsValid}
use Rattle.asg_order.specs.Bridge.{choice_fold}
use Rattle.asg_order.specs.Monoid.{Monoid}
use Rattle.asg_rankings.specs.Children.{child}
use Rattle.asg_rankings.specs.declared.nodes.Node.{Node}
use Rattle.asg_rankings.specs.Nodes.{node_at, node_answer, instance_within, node_instance, trail_within, node_trail}
use Rattle.asg_rankings.specs.laws.ChildCells.{IsInstance-child}
use Rattle.asg_rankings.specs.laws.Partition.{IsValid-from_child}
use Rattle.asg_rankings.specs.laws.ChildFolds.{live-in_child, choice_fold-child}

module _ (X : Problem) (answers : List (List (Option ℕ))) (nodes : List Node) where
  -- what X has and children keep, each node's instance has
  pub kept-within : (P : Problem → Type 0) → P X → ((Y : Problem) (f : List (Option ℕ)) (branch : ℕ) → P Y → P (child Y f branch)) → (steps n : ℕ) → P (instance_within X answers nodes steps n)
  kept-within P first next zero n = first
  kept-within P first next (suc steps) n =
      let parent = (node_at nodes n).parent in
      let up = instance_within X answers nodes steps parent in
      cond_both (nat_le n 1) X (child up (node_answer answers nodes parent) (node_at nodes n).branch) P
      (λ e. first) (λ e. next up (node_answer answers nodes parent) (node_at nodes n).branch (kept-within P first next steps parent))

  -- more steps lead nowhere else, where parents stand before their children
  pub same_within : ((m : ℕ) → 1 < m → m ≤ length nodes → (node_at nodes m).parent < m) → (s t n : ℕ) → n ≤ length nodes → n ≤ s → n ≤ t → instance_within X answers nodes s n ≡ instance_within X answers nodes t n
  same_within falls zero zero n within from upto = refl
  same_within falls zero (suc t) n within from upto =
      sym (cond-true (nat_le n 1) X _ (le-leb n 1 (omega (arith, from))))
  same_within falls (suc s) zero n within from upto =
      cond-true (nat_le n 1) X _ (le-leb n 1 (omega (arith, upto)))
  same_within falls (suc s) (suc t) n within from upto =
      let parent = (node_at nodes n).parent in
      ⊎_elim
      (λ (root : n < 2).
      cond-true (nat_le n 1) X _ (le-leb n 1 (omega (arith, root)))
      ∙ sym (cond-true (nat_le n 1) X _ (le-leb n 1 (omega (arith, root)))))
      (λ (below : 2 ≤ n).
      let less = falls n (omega (arith, below)) within in
      ap (λ Y. cond (nat_le n 1) X (child Y (node_answer answers nodes parent) (node_at nodes n).branch))
      (same_within falls s t parent (omega (arith, less, within)) (omega (arith, less, from)) (omega (arith, less, upto))))
      (cases_lt n 2)

  -- the instance of a node below the root is the child of its parent's
  pub node_instance-child : ((m : ℕ) → 1 < m → m ≤ length nodes → (node_at nodes m).parent < m) → (n : ℕ) → 1 < n → n ≤ length nodes → node_instance X answers nodes n ≡ child (node_instance X answers nodes (node_at nodes n).parent) (node_answer answers nodes (node_at nodes n).parent) (node_at nodes n).branch
  node_instance-child falls zero below within = absurd (omega (arith, below))
  node_instance-child falls (suc k) below within =
      let n = suc k in
      let parent = (node_at nodes n).parent in
      let less = falls n below within in
      cond-false (nat_le n 1) X (child (instance_within X answers nodes k parent) (node_answer answers nodes parent) (node_at nodes n).branch) (lt-leb n 1 below)
      ∙ ap (λ Y. child Y (node_answer answers nodes parent) (node_at nodes n).branch)
      (same_within falls k parent parent (omega (arith, less, within)) (omega (arith, less)) (omega arith))

  -- the root's instance is X
  pub node_instance-root : node_instance X answers nodes 1 ≡ X
  node_instance-root = refl

  -- the choices of a node's instance are valid for X, with the same product
  pub IsValid-from_node : (g : List (Option ℕ)) (n : ℕ) → IsValid (node_instance X answers nodes n) g → IsValid X g
  IsValid-from_node g n valid = kept-within (λ Y. IsValid Y g → IsValid X g) (λ v. v) (λ Y f branch up v. up (IsValid-from_child Y f branch g v)) n n valid

  pub choice_fold-node : {W : Type 0} (M : Monoid W) (enter : Cost → W) (g : List (Option ℕ)) (n : ℕ) → IsValid (node_instance X answers nodes n) g → choice_fold M enter (node_instance X answers nodes n) g ≡ choice_fold M enter X g
  choice_fold-node M enter g n valid =
      kept-within (λ Y. IsValid Y g → choice_fold M enter Y g ≡ choice_fold M enter X g) (λ v. refl)
      (λ Y f branch up v. choice_fold-child M enter Y f g branch v ∙ up (IsValid-from_child Y f branch g v)) n n valid

  pub IsInstance-node : IsInstance X → (n : ℕ) → IsInstance (node_instance X answers nodes n)
  IsInstance-node instance n = kept-within IsInstance instance (λ Y f branch i. IsInstance-child Y f branch i) n n

  pub live-in_node : (P : Cost → Type 0) → ((r c : ℕ) → IfSome (live_at X r c) P) → (n : ℕ) → (r c : ℕ) → IfSome (live_at (node_instance X answers nodes n) r c) P
  live-in_node P each n = kept-within (λ Y. (r c : ℕ) → IfSome (live_at Y r c) P) each (λ Y f branch up. live-in_child P Y f branch up) n n

  pub place-of_node : (n : ℕ) → (node_instance X answers nodes n).place ≡ X.place
  place-of_node n = kept-within (λ Y. Y.place ≡ X.place) refl (λ Y f branch e. e) n n

  pub placed-of_node : (n : ℕ) → placed (node_instance X answers nodes n) ≡ placed X
  placed-of_node n = kept-within (λ Y. placed Y ≡ placed X) refl (λ Y f branch e. e) n n

module _ (X : Problem) (answers : List (List (Option ℕ))) (nodes : List Node) (falls : (m : ℕ) → 1 < m → m ≤ length nodes → (node_at nodes m).parent < m) (rises : (m : ℕ) → 1 < m → m ≤ length nodes → 1 ≤ (node_at nodes m).parent) where
  -- what is X at the root and below it the child of what it is at the parent, is the instance of
  -- each node
  pub instances_are : (part : ℕ → Problem) → part 1 ≡ X → ((m : ℕ) → 1 < m → m ≤ length nodes → part m ≡ child (part (node_at nodes m).parent) (node_answer answers nodes (node_at nodes m).parent) (node_at nodes m).branch) → (steps n : ℕ) → n ≤ steps → 1 ≤ n → n ≤ length nodes → part n ≡ node_instance X answers nodes n
  instances_are part root below zero n few from within = absurd (omega (arith, few, from))
  instances_are part root below (suc steps) n few from within =
      let parent = (node_at nodes n).parent in
      ⊎_elim
      (λ (first : n < 2).
      let is : 1 ≡ n = omega (arith, first, from) in
      subst (λ m. part m ≡ node_instance X answers nodes m) is root)
      (λ (later : 2 ≤ n).
      let less = falls n (omega (arith, later)) within in
      below n (omega (arith, later)) within
      ∙ ap (λ Y. child Y (node_answer answers nodes parent) (node_at nodes n).branch)
      (instances_are part root below steps parent (omega (arith, less, few)) (rises n (omega (arith, later)) within) (omega (arith, less, within)))
      ∙ sym (node_instance-child X answers nodes falls n (omega (arith, later)) within))
      (cases_lt n 2)

module _ (nodes : List Node) (falls : (m : ℕ) → 1 < m → m ≤ length nodes → (node_at nodes m).parent < m) where
  -- more steps lead nowhere else
  pub same_trail : (s t n : ℕ) → 1 ≤ n → n ≤ length nodes → n ≤ s → n ≤ t → ((m : ℕ) → 1 < m → m ≤ length nodes → 1 ≤ (node_at nodes m).parent) → trail_within nodes s n ≡ trail_within nodes t n
  same_trail zero t n from within low high rises = absurd (omega (arith, from, low))
  same_trail (suc s) zero n from within low high rises = absurd (omega (arith, from, high))
  same_trail (suc s) (suc t) n from within low high rises =
      let parent = (node_at nodes n).parent in
      let own = (node_at nodes n).own in
      ⊎_elim
      (λ (root : n < 2).
      ap (λ b. cond b [] (trail_within nodes s parent) ++ own) (le-leb n 1 (omega (arith, root)))
      ∙ sym (ap (λ b. cond b [] (trail_within nodes t parent) ++ own) (le-leb n 1 (omega (arith, root)))))
      (λ (below : 2 ≤ n).
      let less = falls n (omega (arith, below)) within in
      ap (λ trail. cond (nat_le n 1) [] trail ++ own)
      (same_trail s t parent (rises n (omega (arith, below)) within) (omega (arith, less, within)) (omega (arith, less, low)) (omega (arith, less, high)) rises))
      (cases_lt n 2)

  -- the trail of a node below the root is its parent's, and then its own phases
  pub node_trail-child : ((m : ℕ) → 1 < m → m ≤ length nodes → 1 ≤ (node_at nodes m).parent) → (n : ℕ) → 1 < n → n ≤ length nodes → node_trail nodes n ≡ node_trail nodes (node_at nodes n).parent ++ (node_at nodes n).own
  node_trail-child rises zero below within = absurd (omega (arith, below))
  node_trail-child rises (suc k) below within =
      let n = suc k in
      let parent = (node_at nodes n).parent in
      let own = (node_at nodes n).own in
      let less = falls n below within in
      ap (λ b. cond b [] (trail_within nodes k parent) ++ own) (lt-leb n 1 below)
      ∙ ap (λ trail. trail ++ own) (same_trail k parent parent (rises n below within) (omega (arith, less, within)) (omega (arith, less)) (omega arith) rises)
