-- Phases that are admitted where sums stop at a top, and whose index is at most a lesser one, are
-- admitted where sums stop at that.
use Rattle.asg_proof.proofs.Common.{◌≡◌, ℕ, zero, suc, ◌+◌, ◌<◌, ◌≤◌, min, Bool, true, false, ◌⊎◌, List, [], ◌∷◌, map, length, get_or, take, Some, Option, option_map, refl, ap, ◌∙◌, subst, inl, inr, ⊎_elim, arith, take_all, le-leb, leb-true, cases_lt, sum_by_more, sum_by_more_le, Problem, square_side, Cost, bounded_sums, bounded_difference, bounded_fold, choice_fold, Word, ProvesFold, PhaseOf, entered_at, staying_at, square_after, after_phase, IsAdmittedPhase, AreAdmittedPhases, index_of, worded, moved, stepped, IsAdmittedStep, option_map_cases, square_cell, sum}

-- the sum of all steps of phases
abbrev total : List (PhaseOf ℕ) → ℕ
total [] = 0
total (phase ∷ rest) = sum phase.steps + total rest

-- the index is that sum, up to the top
index_is : (top : ℕ) (phases : List (PhaseOf ℕ)) → index_of (bounded_sums top) phases ≡ min (total phases) top
index_is top [] = let none : 0 ≡ min 0 top = omega arith in none
index_is top (phase ∷ rest) =
    let more = index_is top rest in
    let here = bounded_fold top phase.steps in
    omega (arith, more, here)

-- a cell is the same, or it and the sum of the steps so far reach the top
abbrev IsStopped : ℕ → ℕ → ℕ → ℕ → Type 0
IsStopped low so_far y x = (y ≡ x) ⊎ (low ≤ y + so_far)

-- each present cell of a square where sums stop at the top is so, beside that of another square
abbrev AreStopped : ℕ → ℕ → (ℕ → ℕ → Option ℕ) → (ℕ → ℕ → Option ℕ) → Type 0
AreStopped low so_far stopped whole =
    (r k y : ℕ) → stopped r k ≡ Some y → (x : ℕ) × (whole r k ≡ Some x) × IsStopped low so_far y x

module _ (low high : ℕ) (lt : low < high) (side : ℕ) where
  moved_stopped : (e s : Bool) (c so_far y x : ℕ) → IsStopped low so_far y x → IsStopped low (so_far + c) (moved (bounded_sums low) bounded_difference e s c y) (moved (bounded_sums high) bounded_difference e s c x)
  moved_stopped true true c so_far y x h =
      ⊎_elim (λ (same : y ≡ x). inl (omega (arith, same))) (λ (near : low ≤ y + so_far). inr (omega (arith, near))) h
  moved_stopped true false c so_far y x h =
      ⊎_elim (λ (same : y ≡ x). inl same) (λ (near : low ≤ y + so_far). inr (omega (arith, near))) h
  moved_stopped false true c so_far y x h =
      ⊎_elim (λ (same : y ≡ x). inl same) (λ (near : low ≤ y + so_far). inr (omega (arith, near))) h
  moved_stopped false false c so_far y x h =
      ⊎_elim
      (λ (same : y ≡ x).
      ⊎_elim
      (λ (past : low < c + y). inr (omega (arith, past)))
      (λ (within : c + y ≤ low). inl (omega (arith, within, same, lt)))
      (cases_lt low (c + y)))
      (λ (near : low ≤ y + so_far). inr (omega (arith, near)))
      h

  module _ (so_far : ℕ) (stopped whole : ℕ → ℕ → Option ℕ) (are : AreStopped low so_far stopped whole) (entered staying : ℕ → Bool) (c : ℕ) where
    AreStopped-stepped : AreStopped low (so_far + c) (stepped (bounded_sums low) bounded_difference entered staying c stopped) (stepped (bounded_sums high) bounded_difference entered staying c whole)
    AreStopped-stepped r k z e =
        let move = λ (top : ℕ). moved (bounded_sums top) bounded_difference (entered r) (staying k) c in
        let from = option_map_cases (move low) (stopped r k) z e in
        let was = are r k from.0 from.1 in (
          move high was.0,
          ap (option_map (move high)) was.1,
          subst (λ y. IsStopped low (so_far + c) y (move high was.0)) from.2 (moved_stopped (entered r) (staying k) c so_far from.0 was.0 was.2),
        )

    IsAdmittedStep-stopped : so_far + c ≤ low → IsAdmittedStep (bounded_sums high) side entered staying c whole → IsAdmittedStep (bounded_sums low) side entered staying c stopped
    IsAdmittedStep-stopped few admitted = record {
      value = le-leb c low (omega (arith, few));
      count = admitted.count;
      least = λ r k y hr hk e s at.
          let was = are r k y at in
          let x = was.0 in
          let least : c ≤ x = leb-true c x (admitted.least r k x hr hk e s was.1) in
          le-leb c y (⊎_elim (λ (same : y ≡ x). omega (arith, same, least)) (λ (near : low ≤ y + so_far). omega (arith, near, few)) was.2);
    }

  module _ (phase : PhaseOf ℕ) (so_far : ℕ) (few : so_far + sum phase.steps ≤ low) (stopped whole : ℕ → ℕ → Option ℕ) (are : AreStopped low so_far stopped whole) where
    abbrev stopped_after : ℕ → ℕ → ℕ → Option ℕ
    stopped_after = square_after (bounded_sums low) bounded_difference phase stopped

    abbrev whole_after : ℕ → ℕ → ℕ → Option ℕ
    whole_after = square_after (bounded_sums high) bounded_difference phase whole

    abbrev step : ℕ → ℕ
    step n = get_or phase.steps n 0

    sum_more : (n : ℕ) → n < length phase.steps → sum (take (suc n) phase.steps) ≡ sum (take n phase.steps) + step n
    sum_more n h =
        let next : suc n ≡ n + 1 = omega arith in
        ap (λ i. sum (take i phase.steps)) next ∙ sum_by_more (λ x. x) phase.steps n 0 h

    cells_stopped : (n : ℕ) → n ≤ length phase.steps → AreStopped low (so_far + sum (take n phase.steps)) (stopped_after n) (whole_after n)
    cells_stopped zero h = subst (λ s. AreStopped low s stopped whole) (let e : so_far ≡ so_far + 0 = omega arith in e) are
    cells_stopped (suc n) h =
        let before = cells_stopped n (omega (arith, h)) in
        let more = sum_more n (omega (arith, h)) in
        subst (λ s. AreStopped low s (stopped_after (suc n)) (whole_after (suc n))) (let e : so_far + sum (take n phase.steps) + step n ≡ so_far + sum (take (suc n) phase.steps) = omega (arith, more) in e)
        (AreStopped-stepped (so_far + sum (take n phase.steps)) (stopped_after n) (whole_after n) before (entered_at phase.enters n) (staying_at phase.leaves n) (step n))

    phase_stopped : IsAdmittedPhase (bounded_sums high) bounded_difference side phase whole → IsAdmittedPhase (bounded_sums low) bounded_difference side phase stopped
    phase_stopped one = record {
      rows = one.rows;
      columns = one.columns;
      admitted = λ t h.
          let within = sum_by_more_le (λ x. x) phase.steps t 0 h in
          IsAdmittedStep-stopped (so_far + sum (take t phase.steps)) (stopped_after t) (whole_after t) (cells_stopped t (omega (arith, h))) (entered_at phase.enters t) (staying_at phase.leaves t) (step t)
          (omega (arith, within, few)) (one.admitted t h);
    }

    all_stopped : AreStopped low (so_far + sum phase.steps) (after_phase (bounded_sums low) bounded_difference phase stopped) (after_phase (bounded_sums high) bounded_difference phase whole)
    all_stopped =
        subst (λ xs. AreStopped low (so_far + sum xs) (stopped_after (length phase.steps)) (whole_after (length phase.steps))) (take_all (length phase.steps) phase.steps (omega arith))
        (cells_stopped (length phase.steps) (omega arith))

  phases_stopped : (phases : List (PhaseOf ℕ)) (so_far : ℕ) → so_far + total phases ≤ low → (stopped whole : ℕ → ℕ → Option ℕ) → AreStopped low so_far stopped whole
      → AreAdmittedPhases (bounded_sums high) bounded_difference side phases whole → AreAdmittedPhases (bounded_sums low) bounded_difference side phases stopped
  phases_stopped [] so_far few stopped whole are all = tt
  phases_stopped (phase ∷ rest) so_far few stopped whole are all =
      let here : so_far + sum phase.steps ≤ low = omega (arith, few) in (
        phase_stopped phase so_far here stopped whole are all.0,
        phases_stopped rest (so_far + sum phase.steps) (omega (arith, few)) (after_phase (bounded_sums low) bounded_difference phase stopped) (after_phase (bounded_sums high) bounded_difference phase whole)
            (all_stopped phase so_far here stopped whole are) all.1,
      )

  -- an index that is at most the lesser top is the same by it
  pub index_by_lesser : (phases : List (PhaseOf ℕ)) → index_of (bounded_sums high) phases ≤ low → index_of (bounded_sums low) phases ≡ index_of (bounded_sums high) phases
  index_by_lesser phases few =
      let at_low = index_is low phases in
      let at_high = index_is high phases in
      omega (arith, at_low, at_high, few, lt)

  -- phases whose index is at most the lesser top are admitted by it, from the same square
  pub AreAdmittedPhases-by_lesser : (phases : List (PhaseOf ℕ)) (square : ℕ → ℕ → Option ℕ) → index_of (bounded_sums high) phases ≤ low → AreAdmittedPhases (bounded_sums high) bounded_difference side phases square → AreAdmittedPhases (bounded_sums low) bounded_difference side phases square
  AreAdmittedPhases-by_lesser phases square few all =
      let is = index_is high phases in
      phases_stopped phases 0 (omega (arith, is, few, lt)) square square (λ r k y e. (y, e, inl refl)) all

-- phases of plain sums whose index is what a choice comes to where sums stop prove that
pub ProvesFold-by_lesser : (low high : ℕ) (word_of : ℕ → Word) (enter : Cost → ℕ) (X : Problem) (choice : List (Option ℕ)) (phases : List (PhaseOf ℕ)) → low < high → index_of (bounded_sums high) phases ≤ low
    → index_of (bounded_sums high) phases ≡ choice_fold (bounded_sums low) enter X choice
    → AreAdmittedPhases (bounded_sums high) bounded_difference (square_side X) phases (square_cell X 0 enter)
    → ProvesFold (bounded_sums low) bounded_difference word_of enter X choice (map (worded word_of) phases)
ProvesFold-by_lesser low high word_of enter X choice phases lt few same all = record {
  phases = phases;
  written = refl;
  proved = record {
    admitted = AreAdmittedPhases-by_lesser low high lt (square_side X) phases (square_cell X 0 enter) few all;
    index = index_by_lesser low high lt 0 phases few ∙ same;
  };
}
