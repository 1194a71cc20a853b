-- What is kept through an edit, counted over the rows that it may touch.
use Rattle.asg_kept_phases.proofs.Common.{◌≡◌, ℕ, ◌<◌, ◌≤◌, ◌⊎◌, ◌↔◌, List, length, None, Option, sym, refl, ap, ◌∙◌, subst, inl, inr, ⊎_elim, arith, cases_lt, length-map, kept_so_many, edited_side, AreLeft, places_of, IsAtRow, phases_along, named_touched, untouched_same, NamesPlaces-passed, edited, refusal_of, IsInstance, Problem, square_side, Edit, Objective, Cost, Monoid, IsOrderedMonoid, Forest, phases_of, last_phase, EntersValues, PhaseOf, AreAdmittedPhases, HasValues, HasValues-square_cell, square_cell, column_label}
use Rattle.asg_proof.specs.KeptPhases.{AreKept}

module _ {V : Type 0} (M : Monoid V) (difference : V → V → V) where
  kept_from_left : (side : ℕ) (phases : List (PhaseOf V)) (before after : ℕ → ℕ → Option V) (from to n count : ℕ) → n ≡ length phases → AreAdmittedPhases M difference side phases before → AreLeft M difference phases side before after (λ r k. (from ≤ r) × (r < to)) n count → ((r k : ℕ) → r < side → (r < from) ⊎ (to ≤ r) → after r k ≡ before r k) → AreKept M difference side phases after count
  kept_from_left side phases before after from to n count size all left outside =
      let few = left.fewer in
      kept_so_many M difference side phases before after count all (omega (arith, few, size))
      (λ r k hr hk.
      ⊎_elim
      (λ (early : r < from). inr (outside r k hr (inl early)))
      (λ (h : from ≤ r).
      ⊎_elim
      (λ (inside : r < to). left.allows r k hr hk (h, inside))
      (λ (late : to ≤ r). inr (outside r k hr (inr late)))
      (cases_lt r to))
      (cases_lt r from))
      (λ fewer. left.no_more (omega (arith, fewer, size)))

  -- the same of the trails that were gone through
  kept_counted : (side s from to count : ℕ) (F : Forest V) (trails : List ℕ) (P : List (PhaseOf V)) (before after : ℕ → ℕ → Option V) → phases_along F trails ≡ P → s ≡ side → AreAdmittedPhases M difference side P before → AreLeft M difference (phases_along F trails) s before after (λ r k. (from ≤ r) × (r < to)) (length trails) count → ((r k : ℕ) → r < side → (r < from) ⊎ (to ≤ r) → after r k ≡ before r k) → AreKept M difference side P after count
  kept_counted side s from to count F trails P before after along same admitted left outside =
      let seen : ℕ → ℕ → Type 0 = λ r k. (from ≤ r) × (r < to) in
      let size : length trails ≡ length P = sym (length-map trails (λ t. last_phase (phases_of F t))) ∙ ap length along in
      kept_from_left side P before after from to (length trails) count size admitted
      (subst (λ list. AreLeft M difference list side before after seen (length trails) count) along
      (subst (λ n. AreLeft M difference (phases_along F trails) n before after seen (length trails) count) same left))
      outside

module _ {V : Type 0} (M : Monoid V) (laws : IsOrderedMonoid M) (difference : V → V → V) (enter : Cost → V) (objective : Objective) (X : Problem) (is : IsInstance X) (edit : Edit) (passes : refusal_of objective X edit ≡ None) where
  abbrev before : ℕ → ℕ → Option V
  before = square_cell X M.unit enter

  abbrev after : ℕ → ℕ → Option V
  after = square_cell (edited X edit) M.unit enter

  -- the cells of the edited square are values
  pub edited_values : (side : ℕ) → side ≡ square_side X → EntersValues M enter (edited X edit) → HasValues M side after
  edited_values side e live =
      subst (λ n. HasValues M n after) (edited_side X edit ∙ sym e) (HasValues-square_cell M laws enter (edited X edit) live)

  -- where the rows that the edit names were seen
  pub kept_of_rows : (side from to count : ℕ) → side ≡ square_side X → (F : Forest V) (way : List ℕ) (phases : List (PhaseOf V)) → phases_along F way ≡ phases → AreAdmittedPhases M difference (square_side X) phases before → ((r : ℕ) → r < side → ((from ≤ r) × (r < to)) ↔ IsAtRow (places_of X edit).row r)
      → AreLeft M difference (phases_along F way) side before after (λ r k. (from ≤ r) × (r < to)) (length way) count → AreKept M difference (square_side X) phases after count
  kept_of_rows side from to count e F way phases along admitted rows left =
      let names = NamesPlaces-passed objective X edit passes in
      kept_counted M difference (square_side X) side from to count F way phases before after along e admitted left
      (λ r k low outside.
      untouched_same M.unit enter X edit r k is names
      (λ touched.
      let seen = (rows r (omega (arith, low, e))).1 (named_touched X (column_label X) r k refl edit names touched).0 in
      ⊎_elim
      (λ (early : r < from). let first = seen.0 in omega (arith, early, first))
      (λ (late : to ≤ r). let last = seen.1 in omega (arith, late, last))
      outside))
