-- Phases lead still to a square of which cells were written, after an edit through which they are
-- all kept.
use Rattle.asg_kept_phases.proofs.Common.{◌≡◌, ℕ, ◌<◌, ◌≤◌, ◌⊎◌, List, IsSome, Some, None, Option, sym, refl, ap, ◌∙◌, subst, inl, inr, ⊎_elim, arith, cases_eq, cases_lt, none-some, same_Some, AllowsPhases, AreOfValues, Reduced, HasLabelsOf-kept, after_phases-cell, phases_allowed, admitted_values, AllowTrails, IsLedBut, MendsCells, IsAtRow, phases_in, IsWayTo, Problem, square_side, Objective, Cost, Monoid, IsValue, IsOrderedMonoid, EntersValues, PhaseOf, after_phases, HasValues, HasSide-phases, HasValues-phases, index_is_value, HasSide-cell_at, HasSide-square_cell, HasValues-square_cell, square_cell, IsGrid, cell_at, column_label}
use Rattle.asg_order.specs.Differences.{HasDifferences}
use Rattle.asg_kept_phases.specs.declared.phase_chains.PhaseChain.{PhaseChain}
use Rattle.asg_kept_phases.specs.Led.{IsLed, MaySolve}

none_by : {V : Type 0} (o : Option V) → (IsSome o → ⊥) → o ≡ None
none_by None not = refl
none_by (Some x) not = absurd (not refl)

-- ---- the cells that may differ

row_or_not : (row : Option ℕ) (r : ℕ) → IsAtRow row r ⊎ (IsAtRow row r → ⊥)
row_or_not None r = inl tt
row_or_not (Some p) r = cases_eq r p

label_or_not : (label : Option ℕ) (q : ℕ) → (label ≡ Some q) ⊎ (label ≡ Some q → ⊥)
label_or_not None q = inr (λ e. none-some q e)
label_or_not (Some d) q = ⊎_elim (λ (same : d ≡ q). inl (ap Some same)) (λ (other : d ≡ q → ⊥). inr (λ e. other (same_Some d q e))) (cases_eq d q)

named_or_not : (row label : Option ℕ) (r q : ℕ) → (IsAtRow row r × (label ≡ Some q)) ⊎ (IsAtRow row r × (label ≡ Some q) → ⊥)
named_or_not row label r q =
    ⊎_elim
    (λ (at : IsAtRow row r).
    ⊎_elim
    (λ (same : label ≡ Some q). inl (at, same))
    (λ (other : label ≡ Some q → ⊥). inr (λ both. other both.1))
    (label_or_not label q))
    (λ (apart : IsAtRow row r → ⊥). inr (λ both. apart both.0))
    (row_or_not row r)

-- ---- cells may be written beneath the phases

pub AllowTrails-led : {V : Type 0} (M : Monoid V) (laws : IsOrderedMonoid M) (difference : V → V → V) (enter : Cost → V) (objective : Objective) (reach : ℕ) (X : Problem) (phases : PhaseChain V) (row : Option ℕ) (q : ℕ) (reduced : Reduced V) → MaySolve M enter objective reach X → IsWayTo phases.region phases.last phases.way.items → phases.region.side ≡ square_side X → IsLedBut M difference enter X (phases_in phases) row q reduced → AllowTrails M difference enter objective reach X phases.region phases.way.items
AllowTrails-led M laws difference enter objective reach X phases row q reduced may way side but =
    let square = square_cell X M.unit enter in
    record {
      passes = may.passes;
      far = may.far;
      live = way.live;
      side = side;
      steps =
          subst (AreOfValues M) (sym way.along)
          (admitted_values M difference (square_side X) (phases_in phases) square but.admitted);
      cells = subst (λ n. HasValues M n square) (sym side) (HasValues-square_cell M laws enter X may.live);
      allow = λ r k hr hk.
          subst (λ list. AllowsPhases M difference list r k (square r k)) (sym way.along)
          (phases_allowed M difference (square_side X) (phases_in phases) square r k (subst (λ n. r < n) side hr) (subst (λ n. k < n) side hk) but.admitted);
    }

-- ---- cells that were written

module _ {V : Type 0} (M : Monoid V) (laws : IsOrderedMonoid M) (difference : V → V → V) (has : HasDifferences M difference) (enter : Cost → V) (X : Problem) (live : EntersValues M enter X) (phases : List (PhaseOf V)) (row : Option ℕ) (q : ℕ) (old new : Reduced V)
    (but : IsLedBut M difference enter X phases row q old)
    (mends : MendsCells M difference phases (square_cell X M.unit enter) (λ r k. (r < square_side X) × (IsAtRow row r × (column_label X k ≡ Some q))) old.now new.now)
    (index : new.index ≡ old.index) (grid : IsGrid new.now)
  where
    abbrev square : ℕ → ℕ → Option V
    square = square_cell X M.unit enter

    abbrev after : ℕ → ℕ → Option V
    after = after_phases M difference phases square

    side : new.now.side ≡ square_side X
    side = mends.labels.side ∙ but.labels.side

    inside : (r k : ℕ) → r < square_side X → k < square_side X → cell_at new.now r k ≡ after r k
    inside r k hr hk =
        ⊎_elim
        (λ (named : IsAtRow row r × (column_label X k ≡ Some q)).
        mends.mended r k (subst (λ n. r < n) (sym but.labels.side) hr) (subst (λ n. k < n) (sym but.labels.side) hk) (hr, named)
        ∙ sym (after_phases-cell M difference phases square r k))
        (λ (other : IsAtRow row r × (column_label X k ≡ Some q) → ⊥).
        mends.others r k (λ seen. other seen.1) ∙ but.others r k hr hk other)
        (named_or_not row (column_label X k) r q)

    -- no cell is present past the side
    outside : (r k : ℕ) → ((r < square_side X) × (k < square_side X) → ⊥) → cell_at new.now r k ≡ after r k
    outside r k past =
        none_by (cell_at new.now r k)
        (λ there.
        let within = HasSide-cell_at new.now grid r k there in
        past (subst (λ n. r < n) side within.0, subst (λ n. k < n) side within.1))
        ∙ sym
        (none_by (after r k)
        (λ there. past (HasSide-phases M difference (square_side X) phases square (HasSide-square_cell X M.unit enter) r k there)))

    cells : (r k : ℕ) → cell_at new.now r k ≡ after r k
    cells r k =
        ⊎_elim
        (λ (hr : r < square_side X).
        ⊎_elim
        (λ (hk : k < square_side X). inside r k hr hk)
        (λ (past : square_side X ≤ k). outside r k (λ within. let low = within.1 in omega (arith, low, past)))
        (cases_lt k (square_side X)))
        (λ (past : square_side X ≤ r). outside r k (λ within. let low = within.0 in omega (arith, low, past)))
        (cases_lt r (square_side X))

    values : HasValues M new.now.side (cell_at new.now)
    values r k x hr hk e =
        HasValues-phases M laws difference has (square_side X) phases square (HasValues-square_cell M laws enter X live) but.admitted r k x
        (subst (λ n. r < n) side hr) (subst (λ n. k < n) side hk) (sym (cells r k) ∙ e)

    pub IsLed-mended : IsLed M difference enter X phases new
    IsLed-mended = record {
      labels = HasLabelsOf-kept X old.now new.now mends.labels but.labels;
      admitted = but.admitted;
      cells = cells;
      index = index ∙ but.index;
      is_reduced = record {
        cells = values;
        index = subst (IsValue M) (sym (index ∙ but.index)) (index_is_value M laws difference (square_side X) phases square but.admitted);
      };
    }
