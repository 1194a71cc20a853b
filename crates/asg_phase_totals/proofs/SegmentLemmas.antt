-- Segments of lists of phases of sums: what admitted phases make of cells, and a segment after
-- others.
use Rattle.asg_phase_totals.proofs.Common.{◌≡◌, ℕ, ◌+◌, ◌<◌, ◌≤◌, List, [], ◌∷◌, ◌++◌, length, get_or, take, drop, slice_index, Some, All, Option, option_map, sym, refl, ap, ◌∙◌, subst, ⊎_elim, arith, take-append-drop, lt-ltb, le-leb, All-cons, cases_lt, take_more, AllowsSteps, square_after-cell, after_phase-cell, bounded_sums, bounded_difference, sum_to, row_raise, column_raise, sum_of_steps, Totals, AreTotals, CountsRight, CountAndRaise, EndAtLeast0, StayBelow, allowed_fits, PhaseOf, entered_at, staying_at, after_phase, after_phases, IsAdmittedPhase, AreAdmittedPhases, count_below, AreAdmittedPhases-append, sum}
use Rattle.asg_phase_totals.proofs.TotalsLemmas.{sum_all, part_of_all, after, made, next, came, stay_below_after, cell_after_phase, admitted_phases}

-- ---- two lists, one after the other

pub row_raise-append : (a b : List (PhaseOf ℕ)) (r : ℕ) → row_raise (a ++ b) r ≡ row_raise a r + row_raise b r
row_raise-append [] b r = omega arith
row_raise-append (phase ∷ a) b r = omega (arith, row_raise-append a b r)

pub column_raise-append : (a b : List (PhaseOf ℕ)) (k : ℕ) → column_raise (a ++ b) k ≡ column_raise a k + column_raise b k
column_raise-append [] b k = omega arith
column_raise-append (phase ∷ a) b k = omega (arith, column_raise-append a b k)

pub sum_of_steps-append : (a b : List (PhaseOf ℕ)) → sum_of_steps (a ++ b) ≡ sum_of_steps a + sum_of_steps b
sum_of_steps-append [] b = omega arith
sum_of_steps-append (phase ∷ a) b = omega (arith, sum_of_steps-append a b)

-- no dual variable is raised by more than the sum of all steps
pub row_raise-few : (phases : List (PhaseOf ℕ)) (r : ℕ) → row_raise phases r ≤ sum_of_steps phases
row_raise-few [] r = omega arith
row_raise-few (phase ∷ rest) r =
    let here = part_of_all phase.steps (slice_index phase.enters r) in
    omega (arith, here, row_raise-few rest r)

pub column_raise-few : (phases : List (PhaseOf ℕ)) (k : ℕ) → column_raise phases k ≤ sum_of_steps phases
column_raise-few [] k = omega arith
column_raise-few (phase ∷ rest) k =
    let here = part_of_all phase.steps (slice_index phase.leaves k) in
    omega (arith, here, column_raise-few rest k)

-- ---- one phase more of the first ones

module _ (phases : List (PhaseOf ℕ)) (i : ℕ) (phase : PhaseOf ℕ) (h : i < length phases) where
  pub row_raise-more : (r : ℕ) → phase ≡ get_or phases i phase → row_raise (take (i + 1) phases) r ≡ row_raise (take i phases) r + sum_to phase.steps (slice_index phase.enters r)
  row_raise-more r is =
      let one : row_raise (get_or phases i phase ∷ []) r ≡ row_raise (phase ∷ []) r = ap (λ p. row_raise (p ∷ []) r) (sym is) in
      let two = row_raise-append (take i phases) (get_or phases i phase ∷ []) r in
      let three = ap (λ ps. row_raise ps r) (take_more phases i phase h) in
      omega (arith, one, two, three)

  pub column_raise-more : (k : ℕ) → phase ≡ get_or phases i phase → column_raise (take (i + 1) phases) k ≡ column_raise (take i phases) k + sum_to phase.steps (slice_index phase.leaves k)
  column_raise-more k is =
      let one : column_raise (get_or phases i phase ∷ []) k ≡ column_raise (phase ∷ []) k = ap (λ p. column_raise (p ∷ []) k) (sym is) in
      let two = column_raise-append (take i phases) (get_or phases i phase ∷ []) k in
      let three = ap (λ ps. column_raise ps k) (take_more phases i phase h) in
      omega (arith, one, two, three)

  pub sum_of_steps-more : phase ≡ get_or phases i phase → sum_of_steps (take (i + 1) phases) ≡ sum_of_steps (take i phases) + sum phase.steps
  sum_of_steps-more is =
      let one : sum_of_steps (get_or phases i phase ∷ []) ≡ sum_of_steps (phase ∷ []) = ap (λ p. sum_of_steps (p ∷ [])) (sym is) in
      let two = sum_of_steps-append (take i phases) (get_or phases i phase ∷ []) in
      let three = ap sum_of_steps (take_more phases i phase h) in
      omega (arith, one, two, three)

-- the first phases have no greater sum than all
pub sum_of_first : (phases : List (PhaseOf ℕ)) (i : ℕ) → sum_of_steps (take i phases) ≤ sum_of_steps phases
sum_of_first phases i =
    let both = sum_of_steps-append (take i phases) (drop i phases) in
    let all = ap sum_of_steps (take-append-drop i phases) in
    omega (arith, both, all)

-- and one more of them has no greater one
pub sum_with_one : (phases : List (PhaseOf ℕ)) (i : ℕ) (phase : PhaseOf ℕ) → i < length phases → phase ≡ get_or phases i phase → sum_of_steps (take i phases) + sum phase.steps ≤ sum_of_steps phases
sum_with_one phases i phase h is =
    let more = sum_of_steps-more phases i phase h is in
    omega (arith, more, sum_of_first phases (i + 1))

-- ---- what admitted phases make of cells

module _ (top side : ℕ) (phase : PhaseOf ℕ) (square : ℕ → ℕ → Option ℕ) (one : IsAdmittedPhase (bounded_sums top) bounded_difference side phase square) where
  pub counts_right : CountsRight side phase
  counts_right = record {
    rows = one.rows;
    columns = one.columns;
    counted = λ t h.
        let a : count_below (entered_at phase.enters t) (length phase.enters) ≡ count_below (entered_at phase.enters t) side = ap (count_below (entered_at phase.enters t)) one.rows in
        let b : count_below (staying_at phase.leaves t) (length phase.leaves) ≡ count_below (staying_at phase.leaves t) side = ap (count_below (staying_at phase.leaves t)) one.columns in
        omega (arith, a, b, (one.admitted t h).count, one.rows);
  }

  -- no present cell is cut off at 0
  pub uncut : (r k x : ℕ) → r < side → k < side → square r k ≡ Some x → x + sum phase.steps ≤ top → sum_to phase.steps (slice_index phase.leaves k) ≤ x + sum_to phase.steps (slice_index phase.enters r)
  uncut r k x hr hk is room =
      let allows : AllowsSteps (bounded_sums top) bounded_difference phase.steps (slice_index phase.enters r) (slice_index phase.leaves k) x =
      λ t below entered stays.
      (one.admitted t below).least r k (after top side phase square t r k x) hr hk (le-leb (slice_index phase.enters r) t entered) (lt-ltb t (slice_index phase.leaves k) stays)
      (square_after-cell (bounded_sums top) bounded_difference phase square t r k ∙ ap (option_map (after top side phase square t r k)) is) in
      allowed_fits phase.steps top x (omega (arith, room, sum_all phase.steps)) (slice_index phase.enters r) (slice_index phase.leaves k) allows

-- each phase that is admitted counts right
pub all_count_right : (top side : ℕ) (phases : List (PhaseOf ℕ)) (square : ℕ → ℕ → Option ℕ) → AreAdmittedPhases (bounded_sums top) bounded_difference side phases square → All (CountsRight side) phases
all_count_right top side [] square all = λ i d h. absurd (omega (arith, h))
all_count_right top side (phase ∷ rest) square all =
    All-cons (CountsRight side) phase rest (counts_right top side phase square all.0)
    (all_count_right top side rest (after_phase (bounded_sums top) bounded_difference phase square) all.1)

-- a present cell after admitted phases has what rows were raised by more, and what columns were
-- raised by less
pub cells_from : (top side : ℕ) (phases : List (PhaseOf ℕ)) (square : ℕ → ℕ → Option ℕ) (r k y : ℕ) → r < side → k < side → StayBelow top side phases square → AreAdmittedPhases (bounded_sums top) bounded_difference side phases square → after_phases (bounded_sums top) bounded_difference phases square r k ≡ Some y
    → (x : ℕ) × (square r k ≡ Some x) × (y + column_raise phases k ≡ x + row_raise phases r)
cells_from top side [] square r k y hr hk room all is = (y, is, refl)
cells_from top side (phase ∷ rest) square r k y hr hk room all is =
    let later = cells_from top side rest (next top side phase rest square room) r k y hr hk (stay_below_after top side phase rest square room) all.1 is in
    let from = came top side phase rest square room r k later.0 later.1 in
    let below = room r k from.0 hr hk from.1 in
    let made_is = cell_after_phase top side phase square r k from.0 (omega (arith, below)) in
    let least = uncut top side phase square all.0 r k from.0 hr hk from.1 (omega (arith, below)) in
    (from.0, from.1, omega (arith, later.2, from.2, made_is, least))

-- no present cell ends below 0 where phases are admitted
pub admitted_end : (top side : ℕ) (phases : List (PhaseOf ℕ)) (square : ℕ → ℕ → Option ℕ) → StayBelow top side phases square → AreAdmittedPhases (bounded_sums top) bounded_difference side phases square → EndAtLeast0 side phases square
admitted_end top side [] square room all = λ r k x hr hk is. omega arith
admitted_end top side (phase ∷ rest) square room all = λ r k x hr hk is.
    let below = room r k x hr hk is in
    let made_is = cell_after_phase top side phase square r k x (omega (arith, below)) in
    let least = uncut top side phase square all.0 r k x hr hk is (omega (arith, below)) in
    let last = admitted_end top side rest (next top side phase rest square room) (stay_below_after top side phase rest square room) all.1 r k (made top phase r k x) hr hk
    (after_phase-cell (bounded_sums top) bounded_difference phase square r k ∙ ap (option_map (made top phase r k)) is) in
    omega (arith, made_is, least, last)

-- ---- a segment after other phases

module _ (top side : ℕ) (front middle : List (PhaseOf ℕ)) (square : ℕ → ℕ → Option ℕ) (room : StayBelow top side (front ++ middle) square) where
  room_front : StayBelow top side front square
  room_front r k x hr hk is =
      let below = room r k x hr hk is in
      let both = sum_of_steps-append front middle in
      omega (arith, below, both)

  -- a segment that counts and raises so is admitted after others where no cell ends below 0 of the
  -- rows that it lowers
  pub segment_admitted : (totals : Totals) → AreTotals middle totals → length totals.rows ≡ side → sum_of_steps (front ++ middle) ≤ top
      → ((r k x : ℕ) → r < side → k < side → square r k ≡ Some x → slice_index totals.rows r < totals.sum → column_raise (front ++ middle) k ≤ x + row_raise (front ++ middle) r)
      → AreAdmittedPhases (bounded_sums top) bounded_difference side front square → AreAdmittedPhases (bounded_sums top) bounded_difference side (front ++ middle) square
  segment_admitted totals are count few ends all =
      let after_front = after_phases (bounded_sums top) bounded_difference front square in
      let sums = sum_of_steps-append front middle in
      AreAdmittedPhases-append (bounded_sums top) bounded_difference side front middle square all
      (admitted_phases top side middle after_front (omega (arith, sums, few))
      (λ r k y hr hk is.
      let from = cells_from top side front square r k y hr hk room_front all is in
      let below = room r k from.0 hr hk from.1 in
      omega (arith, below, sums, from.2, row_raise-few front r))
      (λ r k y hr hk is.
      let from = cells_from top side front square r k y hr hk room_front all is in
      ⊎_elim
      (λ (falls : slice_index totals.rows r < totals.sum).
      let last = ends r k from.0 hr hk from.1 falls in
      omega (arith, last, from.2, row_raise-append front middle r, column_raise-append front middle k))
      (λ (rises : totals.sum ≤ slice_index totals.rows r).
      omega (arith, rises, are.rows r (omega (arith, hr, count)), are.sum, column_raise-few middle k))
      (cases_lt (slice_index totals.rows r) totals.sum))
      (subst (λ n. CountAndRaise n middle) count are.right))
