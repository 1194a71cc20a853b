-- The parts of a tree: each has what the instance has and children keep.
use Rattle.std.proofs.Common.{◌≡◌, ℕ, zero, suc, ◌+◌, ◌*◌, ◌-◌, ◌^◌, ◌<◌, ◌≤◌, List, length, Option, refl, sym, ◌∙◌, ap, subst, arith, ⊎_elim}
use Rattle.std.specs.Prelude.{IfSome}
use Rattle.std.proofs.Math.Nat.{le-mul_of_pos_right}
use Rattle.std.proofs.lemmas.Bool.{cases_lt}
use Rattle.asg_model.specs.declared.parts.Cost.{Cost}
use Rattle.asg_model.specs.declared.parts.Place.TheVariants.{All as PlaceAll}
use Rattle.asg_model.specs.Counts.{active_count, placed, placed_by}
use Rattle.asg_model.specs.Instances.{IsInstance}
use Rattle.asg_model.specs.Live.{live_at}
use Rattle.asg_model.specs.Problem.{Problem}
use Rattle.asg_model.specs.ValidChoice.{IsValid}
use Rattle.asg_order.specs.Bridge.{choice_fold}
use Rattle.asg_order.specs.Monoid.{Monoid}
use Rattle.asg_rankings.specs.Children.{child}
use Rattle.asg_rankings.specs.laws.ChildCells.{IsInstance-child}
use Rattle.asg_rankings.specs.laws.ChildFolds.{live-in_child, choice_fold-child}
use Rattle.asg_rankings.specs.laws.Partition.{IsValid-from_child}
use Rattle.asg_nodes.specs.Entries.{child_number}
use Rattle.asg_nodes.specs.Trees.{given_at, AreParts}

-- so many answers, each with a node for each row that is placed, are few
pub room_small : (X : Problem) → IsInstance X → X.place ≡ PlaceAll → (room : ℕ) → room * placed X + 1 < 2 ^ 32 → room < 2 ^ 32
room_small X instance all room small =
    let active : placed X ≡ active_count X = ap (λ place. placed_by place (active_count X)) all in
    let some = instance.well_formed.some_active in
    let far = le-mul_of_pos_right {m = placed X} room (omega (arith, active, some)) in
    omega (arith, far, small)

-- where a node below the root stands among the children of the nodes with answers
pub record IsPlaced (k g n : ℕ) : Type 0 where
  pub answer : ℕ
  pub branch : ℕ
  pub given : answer < g
  pub from : 1 ≤ branch
  pub upto : branch ≤ k
  pub is : n ≡ child_number k answer branch

pub placed_at : (k g n : ℕ) → 2 ≤ n → n ≤ 1 + g * k → IsPlaced k g n
placed_at k zero n from upto = absurd (omega (arith, from, upto))
placed_at k (suc g) n from upto =
    ⊎_elim
    (λ (late : 1 + g * k < n). record {
      answer = g;
      branch = n - (1 + g * k);
      given = omega arith;
      from = omega (arith, late);
      upto = omega (arith, late, upto);
      is = omega (arith, late);
    })
    (λ (early : n ≤ 1 + g * k).
    let rest = placed_at k g n from early in
    record {
      answer = rest.answer;
      branch = rest.branch;
      given = let below = rest.given in omega (arith, below);
      from = rest.from;
      upto = rest.upto;
      is = rest.is;
    })
    (cases_lt (1 + g * k) n)

-- the node with an answer stands before its children
abbrev pub AreBefore : ℕ → ℕ → (ℕ → ℕ) → Type 0
AreBefore k g winner = (a : ℕ) → a < g → (1 ≤ winner a) × (winner a ≤ 1 + a * k)

module _ (X : Problem) (given : List (List (Option ℕ))) (winner : ℕ → ℕ) (part : ℕ → Problem)
    (parts : AreParts X given winner part) (before : AreBefore (placed X) (length given) winner)
  where
    kept_within : (P : Problem → Type 0) → P X → ((Y : Problem) (f : List (Option ℕ)) (branch : ℕ) → P Y → P (child Y f branch)) → (steps n : ℕ) → n ≤ steps → 1 ≤ n → n ≤ 1 + length given * placed X → P (part n)
    kept_within P first next zero n few from upto = absurd (omega (arith, few, from))
    kept_within P first next (suc steps) n few from upto =
        ⊎_elim
        (λ (root : n < 2).
        let is : 1 ≡ n = omega (arith, root, from) in
        subst (λ m. P (part m)) is (subst P (sym parts.root) first))
        (λ (below : 2 ≤ n).
        let at = placed_at (placed X) (length given) n below upto in
        let old = before at.answer at.given in
        let low = old.0 in
        let high = old.1 in
        let is = at.is in
        let from_branch = at.from in
        let in_given = at.given in
        let far : 1 + at.answer * placed X ≤ 1 + length given * placed X = omega (arith, is, upto, from_branch) in
        let up = kept_within P first next steps (winner at.answer) (omega (arith, high, is, few, from_branch)) low (omega (arith, high, far)) in
        subst (λ m. P (part m)) (sym is)
        (subst P (sym (parts.children at.answer at.branch at.given at.from at.upto)) (next (part (winner at.answer)) (given_at given at.answer) at.branch up)))
        (cases_lt n 2)

    -- what the instance has and children keep, each part has
    pub part_keeps : (P : Problem → Type 0) → P X → ((Y : Problem) (f : List (Option ℕ)) (branch : ℕ) → P Y → P (child Y f branch)) → (n : ℕ) → 1 ≤ n → n ≤ 1 + length given * placed X → P (part n)
    part_keeps P first next n from upto = kept_within P first next n n (omega arith) from upto

    module _ (n : ℕ) (from : 1 ≤ n) (upto : n ≤ 1 + length given * placed X) where
      pub part_instance : IsInstance X → IsInstance (part n)
      part_instance instance = part_keeps IsInstance instance (λ Y f branch i. IsInstance-child Y f branch i) n from upto

      pub part_rows : (part n).rows ≡ X.rows
      part_rows = part_keeps (λ Y. Y.rows ≡ X.rows) refl (λ Y f branch e. e) n from upto

      pub part_columns : (part n).columns ≡ X.columns
      part_columns = part_keeps (λ Y. Y.columns ≡ X.columns) refl (λ Y f branch e. e) n from upto

      pub part_place : (part n).place ≡ X.place
      part_place = part_keeps (λ Y. Y.place ≡ X.place) refl (λ Y f branch e. e) n from upto

      pub part_count : placed (part n) ≡ placed X
      part_count = part_keeps (λ Y. placed Y ≡ placed X) refl (λ Y f branch e. e) n from upto

      pub part_live : (P : Cost → Type 0) → ((r c : ℕ) → IfSome (live_at X r c) P) → (r c : ℕ) → IfSome (live_at (part n) r c) P
      part_live P each = part_keeps (λ Y. (r c : ℕ) → IfSome (live_at Y r c) P) each (λ Y f branch up. live-in_child P Y f branch up) n from upto

      pub part_valid : (g : List (Option ℕ)) → IsValid (part n) g → IsValid X g
      part_valid g = part_keeps (λ Y. IsValid Y g → IsValid X g) (λ v. v) (λ Y f branch up v. up (IsValid-from_child Y f branch g v)) n from upto

      pub part_fold : {V : Type 0} (M : Monoid V) (enter : Cost → V) (g : List (Option ℕ)) → IsValid (part n) g → choice_fold M enter (part n) g ≡ choice_fold M enter X g
      part_fold M enter g = part_keeps (λ Y. IsValid Y g → choice_fold M enter Y g ≡ choice_fold M enter X g) (λ v. refl) (λ Y f branch up v. choice_fold-child M enter Y f g branch v ∙ up (IsValid-from_child Y f branch g v)) n from upto
