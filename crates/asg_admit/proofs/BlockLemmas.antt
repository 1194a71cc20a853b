-- Steps from one mark of a phase to the next: the least cell of their rows and columns decides for
-- all.
use Rattle.asg_admit.proofs.Common.{◌≡◌, ℕ, ◌+◌, ◌<◌, ◌≤◌, min, length, slice_index, Some, None, All, Option, option_map, sym, ap, ◌∙◌, subst, ⊎_elim, arith, cases_lt, AllowsAt, AllowsRows, HasNoneBetween, HasAtMost, AreHeldValues, MergesRows, IsLeastStaying, HoldsLeast, step_of, between, cell_after, IsTwice, between-none, between-split, between_is_value, cell_after-inside, difference_of_unit, HasDifferences, Monoid, IsValue, IsLe, IsOrderedMonoid, difference_monotone, PhaseOf, HasValues, Grid, cell_at}
use Rattle.asg_proof.specs.laws.Stepped.{option_map_cases}
use Rattle.asg_admit.proofs.LeastLemmas.{none_some}

-- what was lessened is a value
pub lessened_values : {V : Type 0} (M : Monoid V) (f : V → V) (count : ℕ) (held after : ℕ → Option V) → AreHeldValues M held → ((y : V) → IsValue M y → IsValue M (f y)) → ((s : ℕ) → s < count → after s ≡ option_map f (held s)) → ((s : ℕ) → count ≤ s → after s ≡ held s) → AreHeldValues M after
lessened_values M f count held after values keeps here others s y e =
    ⊎_elim
    (λ (before : s < count).
    let found = option_map_cases f (held s) y (sym (here s before) ∙ e) in
    subst (IsValue M) found.2 (keeps found.0 (values s found.0 found.1)))
    (λ (behind : count ≤ s). values s y (sym (others s behind) ∙ e))
    (cases_lt s count)

module _ {V : Type 0} (M : Monoid V) (laws : IsOrderedMonoid M) (difference : V → V → V) (has : HasDifferences M difference) (twice : IsTwice M difference) (phase : PhaseOf V) (vs : All (IsValue M) phase.steps) (Q : Grid V) (cells : HasValues M Q.side (cell_at Q)) (place : ℕ → ℕ) where
  abbrev step : ℕ → V
  step = step_of M phase.steps

  abbrev end : ℕ
  end = length phase.steps

  abbrev enter : ℕ → ℕ
  enter r = slice_index phase.enters r

  abbrev leave : ℕ → ℕ
  leave k = slice_index phase.leaves k

  abbrev product : ℕ → ℕ → V
  product a b = between M step a b

  step_value : (t : ℕ) → t < end → IsValue M (step t)
  step_value t h = vs t M.unit h

  pub product_value : (a b : ℕ) → b ≤ end → IsValue M (product a b)
  product_value = between_is_value M laws difference has twice step end step_value

  -- one run of steps after another
  joined : (x : V) → IsValue M x → (a b c : ℕ) → a ≤ b → b ≤ c → c ≤ end → difference (difference x (product a b)) (product b c) ≡ difference x (product a c)
  joined x vx a b c h k l =
      twice x (product a b) (product b c) vx (product_value a b (omega (arith, k, l))) (product_value b c l)
      ∙ ap (difference x) (sym (between-split M laws difference has twice step end step_value a b c h k l))

  -- a cell whose row has entered and whose column stays
  inside : (a b t : ℕ) (x : V) → IsValue M x → a ≤ t → t < b → t < end → cell_after M difference step a b x t ≡ difference x (product a t)
  inside a b t x vx h k below =
      let at : min b t ≡ t = omega (arith, k) in
      cell_after-inside M laws difference has twice step end step_value a b x vx (omega (arith, h, k)) t (omega (arith, below))
      ∙ ap (λ n. difference x (product a n)) at

  abbrev Holds : ℕ → ℕ → (ℕ → Option V) → Type 0
  Holds from upto held = HoldsLeast M difference phase Q place from upto held

  -- at first nothing is held
  pub holds_none : (held : ℕ → Option V) → ((s : ℕ) → held s ≡ None) → Holds 0 0 held
  holds_none held none = record {
    values = λ s y e. absurd (none_some y (sym (none s) ∙ e));
    allowed = λ r k t x hr hk h. absurd (omega (arith, h));
    under = λ r k x hr hk h. absurd (omega (arith, h));
    awaits = λ all k y hk stays e. absurd (none_some y (sym (none (place k)) ∙ e));
  }

  -- at the end all steps were looked at
  pub holds_all : (from upto : ℕ) (held : ℕ → Option V) → end ≤ from → Holds from upto held → AllowsRows M difference phase Q
  holds_all from upto held last holds = λ r hr k hk x e t below entered stays.
      subst (IsLe M (step t)) (sym (inside (enter r) (leave k) t x (cells r k x hr hk e) entered stays below))
      (holds.allowed r k t x hr hk (omega (arith, below, last)) entered stays e)

  -- the rows that enter at a mark were merged
  pub holds_merged : (from : ℕ) (before after : ℕ → Option V) → from < end → ((i k t : ℕ) → place i ≡ place k → t < end → t < leave k → t < leave i) → Holds from from before → MergesRows M Q phase.enters from place Q.side before after → Holds from (from + 1) after
  holds_merged from before after some shares holds merges = record {
    values = after_values;
    allowed = holds.allowed;
    under = λ r k x hr hk h stays e.
        let vx = cells r k x hr hk e in
        let v = difference x (product (enter r) from) in
        ⊎_elim
        (λ (early : enter r < from).
        let was = holds.under r k x hr hk early stays e in
        let now = merges.kept (place k) was.0 was.1 in
        let vv : IsValue M v = has.difference_is_value x (product (enter r) from) vx (product_value (enter r) from (omega (arith, some))) in
        (now.0, now.1, laws.transitive now.0 was.0 v (after_values (place k) now.0 now.1) (holds.values (place k) was.0 was.1) vv now.2 was.2))
        (λ (late : from ≤ enter r).
        let at : enter r ≡ from = omega (arith, late, h) in
        let same : v ≡ x =
        ap (λ a. difference x (product a from)) at
        ∙ ap (difference x) (between-none M laws difference has twice step from from (omega arith))
        ∙ difference_of_unit M laws difference has twice x vx in
        subst (HasAtMost M (after (place k))) (sym same) (merges.under r k x hr hk at e))
        (cases_lt (enter r) from);
    awaits = λ all k y hk stays e t low high below.
        ⊎_elim
        (λ was. holds.awaits all k y hk stays was t low high below)
        (λ found.
        let r = found.0 in
        let i = found.1 in
        let stays_there : t < leave i = shares i k t found.5 below high in
        let entered : enter r ≤ t = omega (arith, found.4, low) in
        subst (IsLe M (step t))
        (inside (enter r) (leave i) t y (cells r i y found.2 found.3 found.6) entered stays_there below ∙ ap (λ a. difference y (product a t)) found.4)
        (all r found.2 i found.3 y found.6 t below entered stays_there))
        (merges.reached (place k) y e);
  }
    where
      after_values : AreHeldValues M after
      after_values s y e =
          ⊎_elim
          (λ was. holds.values s y was)
          (λ found. cells found.0 found.1 y found.2 found.3 found.6)
          (merges.reached s y e)

  -- ---- the steps from a mark to the next

  module _ (from to : ℕ) (order : from < to) (last : to ≤ end) (rows : length phase.enters ≡ Q.side) (columns : length phase.leaves ≡ Q.side) (entering : HasNoneBetween phase.enters from to) (leaving : HasNoneBetween phase.leaves from to) (held : ℕ → Option V) (holds : Holds from (from + 1) held) where
    entered_by : (r t : ℕ) → r < Q.side → t < to → enter r ≤ t → enter r < from + 1
    entered_by r t hr h k =
        ⊎_elim
        (λ (by : enter r ≤ from). omega (arith, by))
        (λ (late : to ≤ enter r). absurd (omega (arith, late, h, k)))
        (entering r (omega (arith, hr, rows)))

    module _ (least : Option V) (so : IsLeastStaying M (λ k. held (place k)) phase.leaves from (length phase.leaves) least) where
      pub least_value : (y : V) → least ≡ Some y → IsValue M y
      least_value y e =
          let found = so.reached y e in
          holds.values (place found.0) y found.3

      -- where the least cell allows them, each does
      pub block_allowed : AllowsAt M difference phase.steps from to least → (r k t : ℕ) (x : V) → r < Q.side → k < Q.side → from ≤ t → t < to → enter r ≤ t → t < leave k → cell_at Q r k ≡ Some x → IsLe M (step t) (difference x (product (enter r) t))
      block_allowed allows r k t x hr hk low high entered stays e =
          let vx = cells r k x hr hk e in
          let below : t < end = omega (arith, high, last) in
          let by = entered_by r t hr high entered in
          let v = difference x (product (enter r) from) in
          let vv : IsValue M v = has.difference_is_value x (product (enter r) from) vx (product_value (enter r) from (omega (arith, order, last))) in
          let was = holds.under r k x hr hk by (omega (arith, low, stays)) e in
          let one = so.under k was.0 (omega (arith, hk, columns)) (omega (arith, low, stays)) was.1 in
          let y = one.0 in
          let vy : IsValue M y = least_value y one.1 in
          let p = product from t in
          let vp : IsValue M p = product_value from t (omega (arith, below)) in
          let less : IsLe M y v = laws.transitive y was.0 v vy (holds.values (place k) was.0 was.1) vv one.2 was.2 in
          let yes : IsLe M (step t) (difference y p) = subst (IsLe M (step t)) (inside from to t y vy low high below) (allows y one.1 t below low high) in
          subst (IsLe M (step t)) (joined x vx (enter r) from t (omega (arith, by)) low (omega (arith, below)))
          (laws.transitive (step t) (difference y p) (difference v p) (step_value t below) (has.difference_is_value y p vy vp) (has.difference_is_value v p vv vp)
          yes (difference_monotone M laws difference has y v p vy vv vp less))

      -- where each does, the least one does
      pub block_awaits : AllowsRows M difference phase Q → AllowsAt M difference phase.steps from to least
      block_awaits all = λ y e t below low high.
          let found = so.reached y e in
          let k = found.0 in
          let hk : k < Q.side = omega (arith, found.1, columns) in
          let stays : t < leave k =
          ⊎_elim
          (λ (left : leave k ≤ from). absurd (omega (arith, left, found.2)))
          (λ (after : to ≤ leave k). omega (arith, after, high))
          (leaving k found.1) in
          subst (IsLe M (step t)) (sym (inside from to t y (holds.values (place k) y found.3) low high below))
          (holds.awaits all k y hk found.2 found.3 t low stays below)

      -- what is held was lessened by them
      pub holds_lessened : (after : ℕ → Option V) → AreHeldValues M after → ((k : ℕ) → k < Q.side → after (place k) ≡ option_map (λ y. difference y (product from to)) (held (place k))) → AllowsAt M difference phase.steps from to least → Holds to to after
      holds_lessened after values lessens allows = record {
        values = values;
        allowed = λ r k t x hr hk h entered stays e.
            ⊎_elim
            (λ (early : t < from). holds.allowed r k t x hr hk early entered stays e)
            (λ (late : from ≤ t). block_allowed allows r k t x hr hk late h entered stays e)
            (cases_lt t from);
        under = λ r k x hr hk h stays e.
            let vx = cells r k x hr hk e in
            let by : enter r < from + 1 =
            ⊎_elim
            (λ (early : enter r ≤ from). omega (arith, early))
            (λ (late : to ≤ enter r). absurd (omega (arith, late, h)))
            (entering r (omega (arith, hr, rows))) in
            let was = holds.under r k x hr hk by (omega (arith, order, stays)) e in
            let z = was.0 in
            let v = difference x (product (enter r) from) in
            let p = product from to in
            let vv : IsValue M v = has.difference_is_value x (product (enter r) from) vx (product_value (enter r) from (omega (arith, order, last))) in (
              difference z p,
              lessens k hk ∙ ap (option_map (λ y. difference y p)) was.1,
              subst (IsLe M (difference z p)) (joined x vx (enter r) from to (omega (arith, by)) (omega (arith, order)) last)
                  (difference_monotone M laws difference has z v p (holds.values (place k) z was.1) vv (product_value from to last) was.2),
            );
        awaits = λ all k y hk stays e t low high below.
            let f = λ (w : V). difference w (product from to) in
            let found = option_map_cases f (held (place k)) y (sym (lessens k hk) ∙ e) in
            let z = found.0 in
            subst (IsLe M (step t))
            (sym (joined z (holds.values (place k) z found.1) from to t (omega (arith, order)) low (omega (arith, below))) ∙ ap (λ w. difference w (product to t)) found.2)
            (holds.awaits all k z hk (omega (arith, order, stays)) found.1 t (omega (arith, order, low)) high below);
      }
