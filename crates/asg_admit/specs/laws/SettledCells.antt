-- A cell after a phase, by the product of a range of steps.
use Rattle.std.proofs.Common.{◌≡◌, ℕ, zero, suc, ◌<◌, ◌≤◌, Bool, true, false, cond, not, leb, ltb, min, refl, sym, ◌∙◌, ap, subst, arith, ⊎_elim, List, [], ◌∷◌, length, take}
use Rattle.std.specs.Prelude.{Option, Some, None, All, slice_index}
use Rattle.std.specs.Option.{option_map}
use Rattle.std.proofs.lemmas.Bool.{true≢false, false≢true, cases_lt, le-leb, lt-leb, lt-ltb, le-ltb}
use Rattle.std.proofs.lemmas.List.{take_all}
use Rattle.std.proofs.lemmas.List.Elements.{All-take, All-cons, All-nil}
use Rattle.asg_order.specs.Monoid.{Monoid, IsValue, IsLe, IsOrderedMonoid, fold_of}
use Rattle.asg_order.specs.Differences.{HasDifferences}
use Rattle.asg_order.specs.laws.Orders.{reflexive}
use Rattle.asg_order.specs.laws.Products.{neutral_right, fold_of-append}
use Rattle.asg_proof.specs.Phases.{PhaseOf, square_after, after_phase}
use Rattle.asg_proof.specs.Steps.{moved}
use Rattle.asg_proof.specs.laws.PhaseSteps.{take-step}
use Rattle.asg_admit.specs.Settled.{step_of, between, cell_after, settled_at}

-- the difference from c and then from d is that from their product
abbrev pub IsTwice : {V : Type 0} → Monoid V → (V → V → V) → Type 0
IsTwice {V} M difference = (x c d : V) → IsValue M x → IsValue M c → IsValue M d → difference (difference x c) d ≡ difference x (M.product c d)

module _ {V : Type 0} (M : Monoid V) (laws : IsOrderedMonoid M) (difference : V → V → V) (has : HasDifferences M difference) (twice : IsTwice M difference) where
  le_product_left : (x : V) → IsValue M x → IsLe M x (M.product M.unit x)
  le_product_left x vx = subst (IsLe M x) (sym (laws.unit_neutral x vx)) (reflexive M laws x vx)

  -- the difference from the unit is the value
  pub difference_of_unit : (x : V) → IsValue M x → difference x M.unit ≡ x
  difference_of_unit x vx =
      let vd = has.difference_is_value x M.unit vx laws.unit_is_value in
      laws.antisymmetric (difference x M.unit) x vd vx
      ((has.least x M.unit x vx laws.unit_is_value vx).1 (le_product_left x vx))
      (subst (IsLe M x) (laws.unit_neutral (difference x M.unit) vd) ((has.least x M.unit (difference x M.unit) vx laws.unit_is_value vd).0 (reflexive M laws (difference x M.unit) vd)))

  moved_both : (e s : Bool) (c x : V) → e ≡ true → s ≡ true → moved M difference e s c x ≡ difference x c
  moved_both true true c x p q = refl
  moved_both true false c x p q = absurd (false≢true q)
  moved_both false s c x p q = absurd (false≢true p)

  moved_neither : (e s : Bool) (c x : V) → e ≡ false → s ≡ false → moved M difference e s c x ≡ M.product c x
  moved_neither false false c x p q = refl
  moved_neither false true c x p q = absurd (true≢false q)
  moved_neither true s c x p q = absurd (true≢false p)

  pub moved_stays : (e s : Bool) (c x : V) → s ≡ not e → moved M difference e s c x ≡ x
  moved_stays true true c x h = absurd (true≢false h)
  moved_stays false false c x h = absurd (false≢true h)
  moved_stays true false c x h = refl
  moved_stays false true c x h = refl

  module _ (step : ℕ → V) where
    pub between-none : (from to : ℕ) → to ≤ from → between M step from to ≡ M.unit
    between-none from zero h = refl
    between-none from (suc to) h = ap (λ b. cond b (M.product (between M step from to) (step to)) M.unit) (lt-leb from to (omega arith))

    pub between-more : (from to : ℕ) → from ≤ to → between M step from (suc to) ≡ M.product (between M step from to) (step to)
    between-more from to h = ap (λ b. cond b (M.product (between M step from to) (step to)) M.unit) (le-leb from to h)

    module _ (n : ℕ) (values : (t : ℕ) → t < n → IsValue M (step t)) where
      pub between_is_value : (from to : ℕ) → to ≤ n → IsValue M (between M step from to)
      between_is_value from zero h = laws.unit_is_value
      between_is_value from (suc to) h =
          ⊎_elim
          (λ before. subst (IsValue M) (sym (between-none from (suc to) (omega arith))) laws.unit_is_value)
          (λ within. subst (IsValue M) (sym (between-more from to within)) (laws.product_is_value (between M step from to) (step to) (between_is_value from to (omega arith)) (values to (omega arith))))
          (cases_lt to from)

      -- the product up to one place and on from there
      pub between-split : (from mid to : ℕ) → from ≤ mid → mid ≤ to → to ≤ n → between M step from to ≡ M.product (between M step from mid) (between M step mid to)
      between-split from mid zero h k l =
          sym (ap (λ y. M.product y M.unit) (between-none from mid (omega arith)) ∙ laws.unit_neutral M.unit laws.unit_is_value)
      between-split from mid (suc to) h k l =
          ⊎_elim
          (λ last.
          let e : suc to ≡ mid = omega arith in
          ap (between M step from) e
          ∙ sym (neutral_right M laws (between M step from mid) (between_is_value from mid (omega arith)))
          ∙ ap (M.product (between M step from mid)) (sym (between-none mid (suc to) (omega arith))))
          (λ more.
          between-more from to (omega arith)
          ∙ ap (λ y. M.product y (step to)) (between-split from mid to h more (omega arith))
          ∙ laws.associative (between M step from mid) (between M step mid to) (step to) (between_is_value from mid (omega arith)) (between_is_value mid to (omega arith)) (values to (omega arith))
          ∙ ap (M.product (between M step from mid)) (sym (between-more mid to more)))
          (cases_lt to mid)

      -- where the row enters before the column leaves: the difference from the product of the steps
      -- between
      pub cell_after-inside : (enter leave : ℕ) (x : V) → IsValue M x → enter ≤ leave → (to : ℕ) → to ≤ n → cell_after M difference step enter leave x to ≡ difference x (between M step enter (min leave to))
      cell_after-inside enter leave x vx h zero k =
          sym (ap (difference x) (between-none enter (min leave zero) (omega arith)) ∙ difference_of_unit x vx)
      cell_after-inside enter leave x vx h (suc to) k =
          let before = cell_after-inside enter leave x vx h to (omega arith) in
          let now = cell_after M difference step enter leave x to in
          ⊎_elim
          (λ early.
          moved_stays (leb enter to) (ltb to leave) (step to) now (lt-ltb to leave (omega arith) ∙ sym (ap not (lt-leb enter to early)))
          ∙ before
          ∙ ap (difference x) (between-none enter (min leave to) (omega arith) ∙ sym (between-none enter (min leave (suc to)) (omega arith))))
          (λ entered.
          ⊎_elim
          (λ staying.
          let at : min leave to ≡ to = omega arith in
          let next : suc to ≡ min leave (suc to) = omega arith in
          moved_both (leb enter to) (ltb to leave) (step to) now (le-leb enter to entered) (lt-ltb to leave staying)
          ∙ ap (λ y. difference y (step to)) (before ∙ ap (λ m. difference x (between M step enter m)) at)
          ∙ twice x (between M step enter to) (step to) vx (between_is_value enter to (omega arith)) (values to (omega arith))
          ∙ ap (difference x) (sym (between-more enter to entered) ∙ ap (between M step enter) next))
          (λ left.
          let same : min leave to ≡ min leave (suc to) = omega arith in
          moved_stays (leb enter to) (ltb to leave) (step to) now (le-ltb to leave left ∙ sym (ap not (le-leb enter to entered)))
          ∙ before
          ∙ ap (λ m. difference x (between M step enter m)) same)
          (cases_lt to leave))
          (cases_lt to enter)

      -- where the column leaves before the row enters: the product with that of the steps between
      pub cell_after-outside : (enter leave : ℕ) (x : V) → IsValue M x → leave ≤ enter → (to : ℕ) → to ≤ n → cell_after M difference step enter leave x to ≡ M.product (between M step leave (min enter to)) x
      cell_after-outside enter leave x vx h zero k =
          sym (ap (λ y. M.product y x) (between-none leave (min enter zero) (omega arith)) ∙ laws.unit_neutral x vx)
      cell_after-outside enter leave x vx h (suc to) k =
          let before = cell_after-outside enter leave x vx h to (omega arith) in
          let now = cell_after M difference step enter leave x to in
          let vb = between_is_value leave to (omega arith) in
          let vc = values to (omega arith) in
          ⊎_elim
          (λ early.
          moved_stays (leb enter to) (ltb to leave) (step to) now (lt-ltb to leave early ∙ sym (ap not (lt-leb enter to (omega arith))))
          ∙ before
          ∙ ap (λ y. M.product y x) (between-none leave (min enter to) (omega arith) ∙ sym (between-none leave (min enter (suc to)) (omega arith))))
          (λ left.
          ⊎_elim
          (λ waiting.
          let at : min enter to ≡ to = omega arith in
          let next : suc to ≡ min enter (suc to) = omega arith in
          moved_neither (leb enter to) (ltb to leave) (step to) now (lt-leb enter to waiting) (le-ltb to leave left)
          ∙ ap (M.product (step to)) (before ∙ ap (λ m. M.product (between M step leave m) x) at)
          ∙ sym (laws.associative (step to) (between M step leave to) x vc vb vx)
          ∙ ap (λ y. M.product y x) (laws.commutative (step to) (between M step leave to) vc vb ∙ sym (between-more leave to left) ∙ ap (between M step leave) next))
          (λ entered.
          let same : min enter to ≡ min enter (suc to) = omega arith in
          moved_stays (leb enter to) (ltb to leave) (step to) now (le-ltb to leave left ∙ sym (ap not (le-leb enter to entered)))
          ∙ before
          ∙ ap (λ m. M.product (between M step leave m) x) same)
          (cases_lt to enter))
          (cases_lt to leave)

  -- the product of the first so many steps
  pub between-fold : (steps : List V) (n : ℕ) → n ≤ length steps → All (IsValue M) steps → between M (step_of M steps) 0 n ≡ fold_of M (take n steps)
  between-fold steps zero h vs = refl
  between-fold steps (suc n) h vs =
      let c = step_of M steps n in
      let vc = vs n M.unit (omega arith) in
      between-more (step_of M steps) 0 n (omega arith)
      ∙ ap (λ y. M.product y c) (between-fold steps n (omega arith) vs)
      ∙ ap (M.product (fold_of M (take n steps))) (sym (laws.unit_neutral c vc))
      ∙ sym (fold_of-append M laws (take n steps) (c ∷ []) (All-take (IsValue M) n steps vs) (All-cons (IsValue M) c [] vc (All-nil (IsValue M))))
      ∙ ap (fold_of M) (sym (take-step steps n M.unit (omega arith)))

  -- the product of all steps
  pub between-all : (steps : List V) → All (IsValue M) steps → between M (step_of M steps) 0 (length steps) ≡ fold_of M steps
  between-all steps vs = between-fold steps (length steps) (omega arith) vs ∙ ap (fold_of M) (take_all (length steps) steps (omega arith))

  -- marks above the number of steps count as the number of steps
  cut_mark : (mark n t : ℕ) → t < n → leb (min mark n) t ≡ leb mark t
  cut_mark mark n t h =
      ⊎_elim
      (λ early. lt-leb (min mark n) t (omega arith) ∙ sym (lt-leb mark t early))
      (λ entered. le-leb (min mark n) t (omega arith) ∙ sym (le-leb mark t entered))
      (cases_lt t mark)

  cut_leave : (mark n t : ℕ) → t < n → ltb t (min mark n) ≡ ltb t mark
  cut_leave mark n t h =
      ⊎_elim
      (λ staying. lt-ltb t (min mark n) (omega arith) ∙ sym (lt-ltb t mark staying))
      (λ left. le-ltb t (min mark n) (omega arith) ∙ sym (le-ltb t mark left))
      (cases_lt t mark)

  pub cell_after-cut : (step : ℕ → V) (enter leave n : ℕ) (x : V) (t : ℕ) → t ≤ n → cell_after M difference step (min enter n) (min leave n) x t ≡ cell_after M difference step enter leave x t
  cell_after-cut step enter leave n x zero h = refl
  cell_after-cut step enter leave n x (suc t) h =
      ap (λ y. moved M difference (leb (min enter n) t) (ltb t (min leave n)) (step t) y) (cell_after-cut step enter leave n x t (omega arith))
      ∙ ap (λ b. moved M difference b (ltb t (min leave n)) (step t) (cell_after M difference step enter leave x t)) (cut_mark enter n t (omega arith))
      ∙ ap (λ b. moved M difference (leb enter t) b (step t) (cell_after M difference step enter leave x t)) (cut_leave leave n t (omega arith))

module _ {V : Type 0} (M : Monoid V) (difference : V → V → V) (step : ℕ → V) (enter leave : ℕ) (x : V) where
  -- a cell stays until its row enters or its column leaves
  pub cell_after-before : (t : ℕ) → t ≤ enter → t ≤ leave → cell_after M difference step enter leave x t ≡ x
  cell_after-before zero h k = refl
  cell_after-before (suc t) h k =
      ap (λ b. moved M difference b (ltb t leave) (step t) (cell_after M difference step enter leave x t)) (lt-leb enter t (omega arith))
      ∙ ap (λ b. moved M difference false b (step t) (cell_after M difference step enter leave x t)) (lt-ltb t leave (omega arith))
      ∙ cell_after-before t (omega arith) (omega arith)

  -- a cell whose row has entered and whose column has left stays
  pub cell_after-late : (from t : ℕ) → enter ≤ from → leave ≤ from → from ≤ t → cell_after M difference step enter leave x t ≡ cell_after M difference step enter leave x from
  cell_after-late from zero h k l = ap (cell_after M difference step enter leave x) (let e : zero ≡ from = omega arith in e)
  cell_after-late from (suc t) h k l =
      ⊎_elim
      (λ (last : t < from). ap (cell_after M difference step enter leave x) (let e : suc t ≡ from = omega arith in e))
      (λ (more : from ≤ t).
      ap (λ b. moved M difference b (ltb t leave) (step t) (cell_after M difference step enter leave x t)) (le-leb enter t (omega arith))
      ∙ ap (λ b. moved M difference true b (step t) (cell_after M difference step enter leave x t)) (le-ltb t leave (omega arith))
      ∙ cell_after-late from t h k more)
      (cases_lt t from)

same_map : {V : Type 0} (o : Option V) → o ≡ option_map (λ x. x) o
same_map None = refl
same_map (Some x) = refl

fused : {X Y Z : Type 0} (f : Y → Z) (g : X → Y) (o : Option X) → option_map f (option_map g o) ≡ option_map (λ x. f (g x)) o
fused f g None = refl
fused f g (Some x) = refl

-- a cell after so many steps is told by the cell at the start
pub square_after-cell : {V : Type 0} (M : Monoid V) (difference : V → V → V) (phase : PhaseOf V) (square : ℕ → ℕ → Option V) (n r k : ℕ) → square_after M difference phase square n r k ≡ option_map (λ x. cell_after M difference (step_of M phase.steps) (slice_index phase.enters r) (slice_index phase.leaves k) x n) (square r k)
square_after-cell M difference phase square zero r k = same_map (square r k)
square_after-cell M difference phase square (suc n) r k =
    let f = moved M difference (leb (slice_index phase.enters r) n) (ltb n (slice_index phase.leaves k)) (step_of M phase.steps n) in
    ap (option_map f) (square_after-cell M difference phase square n r k)
    ∙ fused f (λ x. cell_after M difference (step_of M phase.steps) (slice_index phase.enters r) (slice_index phase.leaves k) x n) (square r k)

-- a square after a phase is told cell by cell
pub after_phase-cell : {V : Type 0} (M : Monoid V) (difference : V → V → V) (phase : PhaseOf V) (square : ℕ → ℕ → Option V) (r k : ℕ) → after_phase M difference phase square r k ≡ settled_at M difference phase square r k
after_phase-cell M difference phase square r k = square_after-cell M difference phase square (length phase.steps) r k
