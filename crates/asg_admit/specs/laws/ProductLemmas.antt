-- Products of ranges of steps as they are written down, and a cell by them.
use Rattle.std.proofs.Common.{◌≡◌, ℕ, suc, ◌+◌, ◌<◌, ◌≤◌, min, List, length, get_or, set, sym, ◌∙◌, ap, subst, arith, ⊎_elim}
use Rattle.std.specs.Prelude.{All}
use Rattle.std.proofs.lemmas.Bool.{cases_lt}
use Rattle.std.proofs.lemmas.Grind.{get_or-set_at}
use Rattle.std.proofs.lemmas.List.{get_or_read, get_or-set_other}
use Rattle.asg_order.specs.Monoid.{Monoid, IsValue, IsOrderedMonoid}
use Rattle.asg_order.specs.Differences.{HasDifferences}
use Rattle.asg_admit.specs.Settled.{step_of, between, settled, IsAcross, AreProducts}
use Rattle.asg_admit.specs.laws.SettledCells.{IsTwice, cell_after-inside, cell_after-outside, between-none, between-more, between-split, between_is_value}

module _ {V : Type 0} (M : Monoid V) (laws : IsOrderedMonoid M) (difference : V → V → V) (has : HasDifferences M difference) (twice : IsTwice M difference) (steps : List V) (vs : All (IsValue M) steps) where
  abbrev step : ℕ → V
  step = step_of M steps

  pub step_value : (t : ℕ) → t < length steps → IsValue M (step t)
  step_value t h = vs t M.unit h

  pub range_value : (from to : ℕ) → to ≤ length steps → IsValue M (between M step from to)
  range_value = between_is_value M laws difference has twice step (length steps) step_value

  -- ---- a cell by the product between its marks

  module _ (enter leave : ℕ) (product : V) (across : IsAcross M steps enter leave product) (he : enter ≤ length steps) (hl : leave ≤ length steps) where
    pub across_value : IsValue M product
    across_value =
        ⊎_elim
        (λ (h : leave < enter). subst (IsValue M) (sym (across.behind (omega arith))) (range_value leave enter he))
        (λ (h : enter ≤ leave). subst (IsValue M) (sym (across.ahead h)) (range_value enter leave hl))
        (cases_lt leave enter)

    pub settled_inside : (x : V) → IsValue M x → enter ≤ leave → (y : V) → y ≡ difference x product → y ≡ settled M difference steps enter leave x
    settled_inside x vx h y e =
        let kept : min leave (length steps) ≡ leave = omega arith in
        e ∙ ap (difference x) (across.ahead h ∙ ap (between M step enter) (sym kept))
        ∙ sym (cell_after-inside M laws difference has twice step (length steps) step_value enter leave x vx h (length steps) (omega arith))

    pub settled_outside : (x : V) → IsValue M x → leave ≤ enter → (y : V) → y ≡ M.product product x → y ≡ settled M difference steps enter leave x
    settled_outside x vx h y e =
        let kept : min enter (length steps) ≡ enter = omega arith in
        e ∙ ap (λ p. M.product p x) (across.behind h ∙ ap (between M step leave) (sym kept))
        ∙ sym (cell_after-outside M laws difference has twice step (length steps) step_value enter leave x vx h (length steps) (omega arith))

  -- what stands at a place is the product up to there
  pub across_at : (room : List V) (from j : ℕ) → AreProducts M steps from room → length steps < length room → j ≤ length steps → (product : V) → product ≡ get_or room j product → IsAcross M steps from j product
  across_at room from j products longer h product at =
      subst (IsAcross M steps from j) (sym (get_or_read room j product (omega arith) at M.unit)) (products j h)

  -- where both marks are equal a cell stays
  pub settled_equal : (mark : ℕ) → mark ≤ length steps → (x : V) → IsValue M x → settled M difference steps mark mark x ≡ x
  settled_equal mark h x vx =
      let kept : min mark (length steps) ≡ mark = omega arith in
      cell_after-outside M laws difference has twice step (length steps) step_value mark mark x vx (omega arith) (length steps) (omega arith)
      ∙ ap (λ p. M.product p x) (ap (between M step mark) kept ∙ between-none M laws difference has twice step mark mark (omega arith))
      ∙ laws.unit_neutral x vx

  -- ---- the products as they are written

  module _ (room : List V) (from : ℕ) where
    pub products_start : from < length room → (v : V) → v ≡ M.unit → (j : ℕ) → from ≤ j → j ≤ from → get_or (set room from v) j M.unit ≡ between M step from j
    products_start h v e j low high =
        let at : j ≡ from = omega arith in
        get_or-set_at room from j v M.unit at h ∙ e ∙ sym (between-none M laws difference has twice step from j high)

    pub products_ahead : (a : ℕ) → from ≤ a → a < length steps → a + 1 < length room → (x y v : V) → x ≡ get_or room a x → y ≡ get_or steps a y → v ≡ M.product x y → ((j : ℕ) → from ≤ j → j ≤ a → get_or room j M.unit ≡ between M step from j) → (j : ℕ) → from ≤ j → j ≤ a + 1 → get_or (set room (a + 1) v) j M.unit ≡ between M step from j
    products_ahead a low within room_for x y v ex ey ev ahead j above high =
        ⊎_elim
        (λ before. get_or-set_other room (a + 1) j v M.unit (λ e. omega (arith, e)) ∙ ahead j above (omega arith))
        (λ last.
        let at : j ≡ a + 1 = omega arith in
        let next : suc a ≡ j = omega arith in
        get_or-set_at room (a + 1) j v M.unit at room_for
        ∙ ev
        ∙ ap (λ p. M.product p y) (get_or_read room a x (omega arith) ex M.unit ∙ ahead a low (omega arith))
        ∙ ap (M.product (between M step from a)) (get_or_read steps a y within ey M.unit)
        ∙ sym (between-more M laws difference has twice step from a low)
        ∙ ap (between M step from) next)
        (cases_lt j (a + 1))

    -- the first step and the rest
    between-first : (i to : ℕ) → i < to → to ≤ length steps → between M step i to ≡ M.product (step i) (between M step (suc i) to)
    between-first i to h k =
        between-split M laws difference has twice step (length steps) step_value i (suc i) to (omega arith) (omega arith) k
        ∙ ap (λ p. M.product p (between M step (suc i) to))
        (between-more M laws difference has twice step i i (omega arith)
        ∙ ap (λ p. M.product p (step i)) (between-none M laws difference has twice step i i (omega arith))
        ∙ laws.unit_neutral (step i) (step_value i (omega arith)))

    pub products_behind : (place : ℕ) → place < from → from ≤ length steps → length steps < length room → (x y v : V) → y ≡ get_or steps place y → x ≡ get_or room (place + 1) x → v ≡ M.product y x → ((j : ℕ) → place + 1 ≤ j → j ≤ from → get_or room j M.unit ≡ between M step j from) → (j : ℕ) → place ≤ j → j ≤ from → get_or (set room place v) j M.unit ≡ between M step j from
    products_behind place below few longer x y v ey ex ev behind j low high =
        ⊎_elim
        (λ after. get_or-set_other room place j v M.unit (λ e. omega (arith, e)) ∙ behind j (omega arith) high)
        (λ first.
        let at : j ≡ place = omega arith in
        let next : place + 1 ≡ suc place = omega arith in
        get_or-set_at room place j v M.unit at (omega arith)
        ∙ ev
        ∙ ap (λ p. M.product p x) (get_or_read steps place y (omega arith) ey M.unit)
        ∙ ap (M.product (step place)) (get_or_read room (place + 1) x (omega arith) ex M.unit ∙ behind (place + 1) (omega arith) (omega arith) ∙ ap (λ i. between M step i from) next)
        ∙ sym (between-first place from below few)
        ∙ ap (λ i. between M step i from) (sym at))
        (cases_lt place j)
