-- Lists of phases of sums that are admitted in turn, told in one pass.
use Rattle.asg_phase_totals.proofs.Common.{◌≡◌, ℕ, ◌+◌, ◌-◌, ◌<◌, ◌≤◌, min, List, [], ◌∷◌, length, slice_index, Some, None, Option, option_map, sym, refl, ap, ◌∙◌, subst, arith, take_all, ltb-true, le-leb, leb-true, sum_by_more_le, step_of, cell_after, settled, square_after-cell, after_phase-cell, bounded_sums, bounded_difference, sum_before, sum_to, sum_of_steps, Totals, AreTotals, KeepsTotals, CountsRight, CountAndRaise, EndAtLeast0, StayBelow, cell_after_all, settled_is, fits_allowed, before_rises, PhaseOf, entered_at, staying_at, after_phase, after_phases, IsAdmittedPhase, AreAdmittedPhases, index_of, count_below, sum}
use Rattle.asg_order.specs.Monoid.{IsLe}
use Rattle.asg_monoids.specs.laws.SumFolds.{bounded_fold}
use Rattle.asg_proof.specs.laws.Stepped.{option_map_cases}

-- ---- one phase

-- the sum of all steps
pub sum_all : (steps : List ℕ) → sum_before steps (length steps) ≡ sum steps
sum_all steps = ap sum (take_all (length steps) steps (omega arith))

-- a part of the steps
pub part_of_all : (steps : List ℕ) (mark : ℕ) → sum_to steps mark ≤ sum steps
part_of_all steps mark =
    let rises = before_rises steps (min mark (length steps)) (length steps) (omega arith) (omega arith) in
    omega (arith, rises, sum_all steps)

module _ (top side : ℕ) (phase : PhaseOf ℕ) (square : ℕ → ℕ → Option ℕ) where
  abbrev pub after : ℕ → ℕ → ℕ → ℕ → ℕ
  after t r k x = cell_after (bounded_sums top) bounded_difference (step_of (bounded_sums top) phase.steps) (slice_index phase.enters r) (slice_index phase.leaves k) x t

  -- a phase that counts right, no step of which passes the top, is admitted where no present cell
  -- that has room for it ends below 0
  pub admitted_phase : CountsRight side phase → sum phase.steps ≤ top
      → ((r k x : ℕ) → r < side → k < side → square r k ≡ Some x → x + sum phase.steps ≤ top)
      → ((r k x : ℕ) → r < side → k < side → square r k ≡ Some x → sum_to phase.steps (slice_index phase.leaves k) ≤ x + sum_to phase.steps (slice_index phase.enters r))
      → IsAdmittedPhase (bounded_sums top) bounded_difference side phase square
  admitted_phase right few room least = record {
    rows = right.rows;
    columns = right.columns;
    admitted = λ t h. record {
      value =
          let within = sum_by_more_le (λ x. x) phase.steps t 0 h in
          le-leb (step_of (bounded_sums top) phase.steps t) top (omega (arith, within, few));
      count =
          let a : count_below (entered_at phase.enters t) (length phase.enters) ≡ count_below (entered_at phase.enters t) side = ap (count_below (entered_at phase.enters t)) right.rows in
          let b : count_below (staying_at phase.leaves t) (length phase.leaves) ≡ count_below (staying_at phase.leaves t) side = ap (count_below (staying_at phase.leaves t)) right.columns in
          let c = right.counted t h in
          omega (arith, a, b, c, right.rows);
      least = λ r k y hr hk entered stays is.
          let found = option_map_cases (after t r k) (square r k) y (sym (square_after-cell (bounded_sums top) bounded_difference phase square t r k) ∙ is) in
          let x = found.0 in
          let fits = room r k x hr hk found.1 in
          let all = sum_all phase.steps in
          let allows = fits_allowed phase.steps top x (omega (arith, fits, all)) (slice_index phase.enters r) (slice_index phase.leaves k) (least r k x hr hk found.1) in
          subst (IsLe (bounded_sums top) (step_of (bounded_sums top) phase.steps t)) found.2
          (allows t h (leb-true (slice_index phase.enters r) t entered) (ltb-true t (slice_index phase.leaves k) stays));
    };
  }

  -- a present cell after the phase
  pub cell_after_phase : (r k x : ℕ) → x + sum phase.steps ≤ top → settled (bounded_sums top) bounded_difference phase.steps (slice_index phase.enters r) (slice_index phase.leaves k) x ≡ (x + sum_to phase.steps (slice_index phase.enters r)) - sum_to phase.steps (slice_index phase.leaves k)
  cell_after_phase r k x room =
      let all = sum_all phase.steps in
      settled_is phase.steps top x (omega (arith, room, all)) (slice_index phase.enters r) (slice_index phase.leaves k)

-- ---- lists of phases

-- what a phase makes of a present cell
abbrev pub made : ℕ → PhaseOf ℕ → ℕ → ℕ → ℕ → ℕ
made top phase r k x = settled (bounded_sums top) bounded_difference phase.steps (slice_index phase.enters r) (slice_index phase.leaves k) x

module _ (top side : ℕ) (phase : PhaseOf ℕ) (rest : List (PhaseOf ℕ)) (square : ℕ → ℕ → Option ℕ) (room : StayBelow top side (phase ∷ rest) square) where
  abbrev pub next : ℕ → ℕ → Option ℕ
  next = after_phase (bounded_sums top) bounded_difference phase square

  -- a present cell after the phase comes from one before it
  pub came : (r k y : ℕ) → next r k ≡ Some y → (x : ℕ) × (square r k ≡ Some x) × (made top phase r k x ≡ y)
  came r k y is = option_map_cases (made top phase r k) (square r k) y (sym (after_phase-cell (bounded_sums top) bounded_difference phase square r k) ∙ is)

  pub stay_below_after : StayBelow top side rest next
  stay_below_after r k y hr hk is =
      let from = came r k y is in
      let below = room r k from.0 hr hk from.1 in
      let made_is = cell_after_phase top side phase square r k from.0 (omega (arith, below)) in
      let part = part_of_all phase.steps (slice_index phase.enters r) in
      omega (arith, from.2, below, made_is, part)

  pub ends_after_phase : EndAtLeast0 side (phase ∷ rest) square → EndAtLeast0 side rest next
  ends_after_phase ends r k y hr hk is =
      let from = came r k y is in
      let below = room r k from.0 hr hk from.1 in
      let made_is = cell_after_phase top side phase square r k from.0 (omega (arith, below)) in
      let last = ends r k from.0 hr hk from.1 in
      omega (arith, from.2, made_is, last)

-- the phases are admitted in turn
pub admitted_phases : (top side : ℕ) (phases : List (PhaseOf ℕ)) (square : ℕ → ℕ → Option ℕ) → sum_of_steps phases ≤ top → StayBelow top side phases square → EndAtLeast0 side phases square → CountAndRaise side phases
    → AreAdmittedPhases (bounded_sums top) bounded_difference side phases square
admitted_phases top side [] square few room ends are = tt
admitted_phases top side (phase ∷ rest) square few room ends are = (
  admitted_phase top side phase square are.0 (omega (arith, few))
      (λ r k x hr hk is. let below = room r k x hr hk is in omega (arith, below))
      (λ r k x hr hk is.
      let last = ends r k x hr hk is in
      let more = are.1 r k hr hk in
      omega (arith, last, more)),
  admitted_phases top side rest (after_phase (bounded_sums top) bounded_difference phase square) (omega (arith, few))
      (stay_below_after top side phase rest square room) (ends_after_phase top side phase rest square room ends) are.2,
)

-- what present cells come to after all phases
pub cells_after : (top side : ℕ) (phases : List (PhaseOf ℕ)) (square : ℕ → ℕ → Option ℕ) (r k : ℕ) → r < side → k < side → StayBelow top side phases square → EndAtLeast0 side phases square → CountAndRaise side phases
    → after_phases (bounded_sums top) bounded_difference phases square r k ≡ option_map (cell_after_all phases r k) (square r k)
cells_after top side [] square r k hr hk room ends are = unchanged (square r k)
  where
    unchanged : (o : Option ℕ) → o ≡ option_map (cell_after_all [] r k) o
    unchanged None = refl
    unchanged (Some x) = let e : x ≡ (x + 0) - 0 = omega arith in ap Some e
cells_after top side (phase ∷ rest) square r k hr hk room ends are =
    cells_after top side rest (after_phase (bounded_sums top) bounded_difference phase square) r k hr hk
    (stay_below_after top side phase rest square room) (ends_after_phase top side phase rest square room ends) are.2
    ∙ ap (option_map (cell_after_all rest r k)) (after_phase-cell (bounded_sums top) bounded_difference phase square r k)
    ∙ by_cell (square r k) refl
  where
    by_cell : (o : Option ℕ) → square r k ≡ o → option_map (cell_after_all rest r k) (option_map (made top phase r k) o) ≡ option_map (cell_after_all (phase ∷ rest) r k) o
    by_cell None is = refl
    by_cell (Some x) is =
        let below = room r k x hr hk is in
        let made_is = cell_after_phase top side phase square r k x (omega (arith, below)) in
        let last = ends r k x hr hk is in
        let more = are.1 r k hr hk in
        ap Some (omega (arith, made_is, last, more))

-- the index is the sum of all steps
pub index_of_all : (top : ℕ) (phases : List (PhaseOf ℕ)) → sum_of_steps phases ≤ top → index_of (bounded_sums top) phases ≡ sum_of_steps phases
index_of_all top [] few = refl
index_of_all top (phase ∷ rest) few =
    let here = bounded_fold top phase.steps in
    let more = index_of_all top rest (omega (arith, few)) in
    omega (arith, here, more, few)

-- ---- totals

-- one more phase, before the others
pub totals_more : (phase : PhaseOf ℕ) (rest : List (PhaseOf ℕ)) (before after : Totals) → AreTotals rest before → CountsRight (length before.rows) phase
    → ((r k : ℕ) → r < length before.rows → k < length before.rows → slice_index before.rows r ≤ slice_index before.columns k)
    → length after.rows ≡ length before.rows
    → ((r : ℕ) → r < length before.rows → slice_index after.rows r ≡ slice_index before.rows r + sum_to phase.steps (slice_index phase.enters r))
    → ((k : ℕ) → k < length before.rows → slice_index after.columns k ≡ slice_index before.columns k + sum_to phase.steps (slice_index phase.leaves k))
    → after.sum ≡ before.sum + sum_before phase.steps (length phase.steps)
    → AreTotals (phase ∷ rest) after
totals_more phase rest before after are counts ordered side rows columns sum_is = record {
  rows = λ r h. let below : r < length before.rows = omega (arith, h, side) in omega (arith, rows r below, are.rows r below);
  columns = λ k h. let below : k < length before.rows = omega (arith, h, side) in omega (arith, columns k below, are.columns k below);
  sum = let all = sum_all phase.steps in omega (arith, sum_is, are.sum, all);
  right = subst (λ n. CountAndRaise n (phase ∷ rest)) (sym side) (
    counts,
    (λ r k hr hk. let o = ordered r k hr hk in omega (arith, o, are.rows r hr, are.columns k hk)),
    are.right,
  );
}

-- and what the totals keep
pub keeps_more : {most bound : ℕ} (phase : PhaseOf ℕ) (before after : Totals) → KeepsTotals most bound before
    → length after.rows ≡ length before.rows
    → length after.columns ≡ length before.columns
    → ((r : ℕ) → r < length before.rows → slice_index after.rows r ≡ slice_index before.rows r + sum_to phase.steps (slice_index phase.enters r))
    → ((k : ℕ) → k < length before.rows → slice_index after.columns k ≡ slice_index before.columns k + sum_to phase.steps (slice_index phase.leaves k))
    → after.sum ≡ before.sum + sum phase.steps
    → before.sum + sum phase.steps ≤ bound
    → KeepsTotals most bound after
keeps_more phase before after keeps row_count column_count rows columns sum_is within = record {
  few = omega (arith, keeps.few, row_count);
  count = omega (arith, keeps.count, row_count, column_count);
  rows_within = λ r h.
      let below : r < length before.rows = omega (arith, h, row_count) in
      let part = part_of_all phase.steps (slice_index phase.enters r) in
      omega (arith, rows r below, keeps.rows_within r below, part, sum_is);
  columns_within = λ k h.
      let below : k < length before.rows = omega (arith, h, row_count) in
      let part = part_of_all phase.steps (slice_index phase.leaves k) in
      omega (arith, columns k below, keeps.columns_within k below, part, sum_is);
  sum_within = omega (arith, sum_is, within);
}

-- phases whose totals end well on a square are admitted from it
pub totals_fit : (top side : ℕ) (phases : List (PhaseOf ℕ)) (square : ℕ → ℕ → Option ℕ) (totals : Totals) → AreTotals phases totals → length totals.rows ≡ side → totals.sum ≤ top
    → ((r k x : ℕ) → r < side → k < side → square r k ≡ Some x → x + totals.sum ≤ top)
    → ((r k x : ℕ) → r < side → k < side → square r k ≡ Some x → slice_index totals.columns k ≤ x + slice_index totals.rows r)
    → AreAdmittedPhases (bounded_sums top) bounded_difference side phases square
totals_fit top side phases square totals are count few room ends =
    admitted_phases top side phases square
    (omega (arith, few, are.sum))
    (λ r k x hr hk is. let below = room r k x hr hk is in omega (arith, below, are.sum))
    (λ r k x hr hk is. let last = ends r k x hr hk is in omega (arith, last, are.rows r (omega (arith, hr, count)), are.columns k (omega (arith, hk, count))))
    (subst (λ n. CountAndRaise n phases) count are.right)

pub totals_index : (top : ℕ) (phases : List (PhaseOf ℕ)) (totals : Totals) → AreTotals phases totals → totals.sum ≤ top → index_of (bounded_sums top) phases ≡ totals.sum
totals_index top phases totals are few = index_of_all top phases (omega (arith, few, are.sum)) ∙ sym are.sum
