-- Phases of one grade, joined to plain phases.
use Rattle.asg_proof.proofs.Common.{◌≡◌, ℕ, zero, suc, ◌+◌, ◌-◌, ◌^◌, ◌<◌, ◌≤◌, min, Bool, true, false, List, [], ◌∷◌, map, length, slice_index_or, Some, None, fold, All, Option, option_map, sym, refl, ap, ◌∙◌, subst, arith, le-leb, leb-true, length-map, nat_tests, none-some, bounded_sums, bounded_difference, graded, graded_difference, by_grades, Monoid, IsLe, fold_of, amount_at, cell_amount, AreAmounts, of_grade, graded_phase, rise_phase, IsRisePhase, HasPositiveSteps, PhaseOf, entered_at, staying_at, square_after, after_phase, after_phases, AreAdmittedSteps, IsAdmittedPhase, AreAdmittedPhases, index_of, moved, stepped, IsAdmittedStep}

step_lifted : (g : ℕ) (steps : List ℕ) (t : ℕ) → t < length steps → slice_index_or (map (of_grade g) steps) t (0, 0) ≡ of_grade g (slice_index_or steps t 0)
step_lifted g [] t h = absurd (omega (arith, h))
step_lifted g (c ∷ rest) zero h = refl
step_lifted g (c ∷ rest) (suc t) h = step_lifted g rest t (omega (arith, h))

step_positive : (steps : List ℕ) (t : ℕ) → All (λ c. 0 < c) steps → t < length steps → 0 < slice_index_or steps t 0
step_positive steps t all h = all t 0 h

module _ (top g : ℕ) where
  abbrev B : Monoid ℕ
  B = bounded_sums top

  abbrev G : Monoid (ℕ × ℕ)
  G = graded (bounded_sums top)

  abbrev less : ℕ × ℕ → ℕ × ℕ → ℕ × ℕ
  less = graded_difference (bounded_sums top) bounded_difference

  -- the amount of a difference and of a product by a value of the grade
  difference_amount : (c : ℕ) (x : ℕ × ℕ) → amount_at g (less x (of_grade g c)) ≡ option_map (λ y. bounded_difference y c) (amount_at g x)
  difference_amount c x =
      by_grades x.0 g
      (λ lower. grind (arith, nat_tests))
      (λ higher. grind (arith, nat_tests))
      (λ same. grind (arith, nat_tests))

  product_amount : (c : ℕ) (x : ℕ × ℕ) → c ≤ top → amount_at g (G.product (of_grade g c) x) ≡ option_map (λ y. B.product c y) (amount_at g x)
  product_amount c x few =
      by_grades x.0 g
      (λ lower. grind (arith, nat_tests))
      (λ higher. grind (arith, nat_tests))
      (λ same. grind (arith, nat_tests))

  still : (o : Option ℕ) → o ≡ option_map (λ y. y) o
  still None = refl
  still (Some x) = refl

  moved_amount : (e s : Bool) (c : ℕ) (o : Option (ℕ × ℕ)) → c ≤ top → cell_amount g (option_map (moved G less e s (of_grade g c)) o) ≡ option_map (moved B bounded_difference e s c) (cell_amount g o)
  moved_amount e s c None few = refl
  moved_amount true true c (Some x) few = difference_amount c x
  moved_amount true false c (Some x) few = still (amount_at g x)
  moved_amount false true c (Some x) few = still (amount_at g x)
  moved_amount false false c (Some x) few = product_amount c x few

  -- a value of the grade is at most one whose amount, if it has one, is at least its own
  least_graded : (c : ℕ) (x : ℕ × ℕ) → 0 < c → ((y : ℕ) → amount_at g x ≡ Some y → c ≤ y) → IsLe G (of_grade g c) x
  least_graded c x over least =
      by_grades x.0 g
      (λ lower. let p = least 0 (grind (arith, nat_tests)) in absurd (omega (arith, p, over)))
      (λ higher. grind (arith, nat_tests))
      (λ same. let p = least x.1 (grind (arith, nat_tests)) in grind (arith, nat_tests))

  amount_from : (x : ℕ × ℕ) (o : Option (ℕ × ℕ)) (p : Option ℕ) → o ≡ Some x → cell_amount g o ≡ p → amount_at g x ≡ p
  amount_from x o p at amounts = sym (ap (cell_amount g) at) ∙ amounts

  amount_of : (y : ℕ) (o : Option (ℕ × ℕ)) → cell_amount g o ≡ Some y → (x : ℕ × ℕ) × (o ≡ Some x) × (amount_at g x ≡ Some y)
  amount_of y None e = absurd (none-some y e)
  amount_of y (Some x) e = (x, refl, e)

  least_amount : (c y : ℕ) (x : ℕ × ℕ) → amount_at g x ≡ Some y → IsLe G (of_grade g c) x → c ≤ y
  least_amount c y x amounts least =
      by_grades x.0 g
      (λ lower. grind (arith, nat_tests))
      (λ higher. grind (arith, nat_tests))
      (λ same. grind (arith, nat_tests))

  module _ (side : ℕ) (entered staying : ℕ → Bool) (c : ℕ) (square : ℕ → ℕ → Option (ℕ × ℕ)) (plain : ℕ → ℕ → Option ℕ) (amounts : AreAmounts g square plain) where
    stepped_amounts : c ≤ top → AreAmounts g (stepped G less entered staying (of_grade g c) square) (stepped B bounded_difference entered staying c plain)
    stepped_amounts few r k =
        moved_amount (entered r) (staying k) c (square r k) few
        ∙ ap (option_map (moved B bounded_difference (entered r) (staying k) c)) (amounts r k)

    step_to_grade : g < 2 ^ 64 → 0 < c → IsAdmittedStep B side entered staying c plain → IsAdmittedStep G side entered staying (of_grade g c) square
    step_to_grade small over admitted = record {
      value = let v = leb-true c top admitted.value in grind (arith, nat_tests);
      count = admitted.count;
      least = λ r k x hr hk e s at.
          least_graded c x over (λ y is.
          leb-true c y (admitted.least r k y hr hk e s (sym (amount_from x (square r k) (plain r k) at (amounts r k)) ∙ is)));
    }

    step_from_grade : IsAdmittedStep G side entered staying (of_grade g c) square → IsAdmittedStep B side entered staying c plain
    step_from_grade admitted = record {
      value = let v = admitted.value in grind (arith, nat_tests);
      count = admitted.count;
      least = λ r k y hr hk e s at.
          let from = amount_of y (square r k) (amounts r k ∙ at) in
          le-leb c y (least_amount c y from.0 from.2 (admitted.least r k from.0 hr hk e s from.1));
    }

  module _ (side : ℕ) (phase : PhaseOf ℕ) (square : ℕ → ℕ → Option (ℕ × ℕ)) (plain : ℕ → ℕ → Option ℕ) (amounts : AreAmounts g square plain) where
    abbrev step : ℕ → ℕ
    step t = slice_index_or phase.steps t 0

    abbrev lifted : ℕ → ℕ × ℕ
    lifted t = slice_index_or (map (of_grade g) phase.steps) t (0, 0)

    square_amounts : (n : ℕ) → n ≤ length phase.steps → ((t : ℕ) → t < length phase.steps → step t ≤ top) → AreAmounts g (square_after G less (graded_phase g phase) square n) (square_after B bounded_difference phase plain n)
    square_amounts zero h few = amounts
    square_amounts (suc n) h few =
        let before = square_amounts n (omega (arith, h)) few in
        let here : n < length phase.steps = omega (arith, h) in
        subst (λ (d : ℕ × ℕ). AreAmounts g (stepped G less (entered_at phase.enters n) (staying_at phase.leaves n) d (square_after G less (graded_phase g phase) square n)) (square_after B bounded_difference phase plain (suc n)))
        (sym (step_lifted g phase.steps n here))
        (stepped_amounts side (entered_at phase.enters n) (staying_at phase.leaves n) (step n) (square_after G less (graded_phase g phase) square n) (square_after B bounded_difference phase plain n) before (few n here))

    steps_few : IsAdmittedPhase B bounded_difference side phase plain → (t : ℕ) → t < length phase.steps → step t ≤ top
    steps_few admitted t h = leb-true (step t) top ((admitted.admitted t h).value)

    same_length : length (map (of_grade g) phase.steps) ≡ length phase.steps
    same_length = length-map phase.steps (of_grade g)

    after_amounts : IsAdmittedPhase B bounded_difference side phase plain → AreAmounts g (after_phase G less (graded_phase g phase) square) (after_phase B bounded_difference phase plain)
    after_amounts admitted =
        subst (λ n. AreAmounts g (square_after G less (graded_phase g phase) square n) (square_after B bounded_difference phase plain (length phase.steps)))
        (sym same_length) (square_amounts (length phase.steps) (omega arith) (steps_few admitted))

    phase_to_grade : g < 2 ^ 64 → HasPositiveSteps phase → IsAdmittedPhase B bounded_difference side phase plain → IsAdmittedPhase G less side (graded_phase g phase) square
    phase_to_grade small over admitted = record {
      rows = admitted.rows;
      columns = admitted.columns;
      admitted = λ t h.
          let here : t < length phase.steps = omega (arith, h, same_length) in
          subst (λ (d : ℕ × ℕ). IsAdmittedStep G side (entered_at phase.enters t) (staying_at phase.leaves t) d (square_after G less (graded_phase g phase) square t))
          (sym (step_lifted g phase.steps t here))
          (step_to_grade side (entered_at phase.enters t) (staying_at phase.leaves t) (step t) (square_after G less (graded_phase g phase) square t) (square_after B bounded_difference phase plain t)
          (square_amounts t (omega (arith, here)) (steps_few admitted)) small (step_positive phase.steps t over here) (admitted.admitted t here));
    }

  pub phases_to_grade : (side : ℕ) (phases : List (PhaseOf ℕ)) (square : ℕ → ℕ → Option (ℕ × ℕ)) (plain : ℕ → ℕ → Option ℕ) → AreAmounts g square plain → g < 2 ^ 64 → All HasPositiveSteps phases → AreAdmittedPhases B bounded_difference side phases plain → AreAdmittedPhases G less side (map (graded_phase g) phases) square
  phases_to_grade side [] square plain amounts small over admitted = tt
  phases_to_grade side (phase ∷ rest) square plain amounts small over admitted = (
    phase_to_grade side phase square plain amounts small (over 0 phase (omega arith)) admitted.0,
    phases_to_grade side rest (after_phase G less (graded_phase g phase) square) (after_phase B bounded_difference phase plain)
        (after_amounts side phase square plain amounts admitted.0) small (λ k d h. over (suc k) d (omega (arith, h))) admitted.1,
  )

  phase_from_grade : (side : ℕ) (phase : PhaseOf ℕ) (square : ℕ → ℕ → Option (ℕ × ℕ)) (plain : ℕ → ℕ → Option ℕ) → AreAmounts g square plain → IsAdmittedPhase G less side (graded_phase g phase) square → IsAdmittedPhase B bounded_difference side phase plain
  phase_from_grade side phase square plain amounts admitted = record {
    rows = admitted.rows;
    columns = admitted.columns;
    admitted = λ t h.
        step_from_grade side (entered_at phase.enters t) (staying_at phase.leaves t) (slice_index_or phase.steps t 0) (square_after G less (graded_phase g phase) square t) (square_after B bounded_difference phase plain t)
        (square_amounts side phase square plain amounts t (omega (arith, h)) few) (at_amount t h);
  }
    where
      at_amount : (t : ℕ) → t < length phase.steps → IsAdmittedStep G side (entered_at phase.enters t) (staying_at phase.leaves t) (of_grade g (slice_index_or phase.steps t 0)) (square_after G less (graded_phase g phase) square t)
      at_amount t h =
          let e = length-map phase.steps (of_grade g) in
          subst (λ (d : ℕ × ℕ). IsAdmittedStep G side (entered_at phase.enters t) (staying_at phase.leaves t) d (square_after G less (graded_phase g phase) square t))
          (step_lifted g phase.steps t h) (admitted.admitted t (omega (arith, h, e)))

      few : (t : ℕ) → t < length phase.steps → slice_index_or phase.steps t 0 ≤ top
      few t h = let v = (at_amount t h).value in grind (arith, nat_tests)

  pub phases_from_grade : (side : ℕ) (phases : List (PhaseOf ℕ)) (square : ℕ → ℕ → Option (ℕ × ℕ)) (plain : ℕ → ℕ → Option ℕ) → AreAmounts g square plain → AreAdmittedPhases G less side (map (graded_phase g) phases) square → AreAdmittedPhases B bounded_difference side phases plain
  phases_from_grade side [] square plain amounts admitted = tt
  phases_from_grade side (phase ∷ rest) square plain amounts admitted =
      let here = phase_from_grade side phase square plain amounts admitted.0 in (
        here,
        phases_from_grade side rest (after_phase G less (graded_phase g phase) square) (after_phase B bounded_difference phase plain)
            (after_amounts side phase square plain amounts here) admitted.1,
      )

  pub phases_amounts : (side : ℕ) (phases : List (PhaseOf ℕ)) (square : ℕ → ℕ → Option (ℕ × ℕ)) (plain : ℕ → ℕ → Option ℕ) → AreAmounts g square plain → AreAdmittedPhases B bounded_difference side phases plain → AreAmounts g (after_phases G less (map (graded_phase g) phases) square) (after_phases B bounded_difference phases plain)
  phases_amounts side [] square plain amounts admitted = amounts
  phases_amounts side (phase ∷ rest) square plain amounts admitted =
      phases_amounts side rest (after_phase G less (graded_phase g phase) square) (after_phase B bounded_difference phase plain)
      (after_amounts side phase square plain amounts admitted.0) admitted.1

  -- after one step to the grade, the value is the amount at the grade
  abbrev Reaches : ℕ × ℕ → ℕ → Type 0
  Reaches x n = G.product (g, 0) x ≡ of_grade g n

  reaches_product : (x y : ℕ × ℕ) (n m : ℕ) → Reaches x n → Reaches y m → Reaches (G.product x y) (B.product n m)
  reaches_product x y n m hx hy =
      by_grades x.0 g
      (λ xl. by_grades y.0 g (λ yl. grind (arith, nat_tests)) (λ yh. grind (arith, nat_tests)) (λ ys. grind (arith, nat_tests)))
      (λ xh. grind (arith, nat_tests))
      (λ xs. by_grades y.0 g (λ yl. grind (arith, nat_tests)) (λ yh. grind (arith, nat_tests)) (λ ys. grind (arith, nat_tests)))

  reaches_step : (x : ℕ × ℕ) (n c : ℕ) → Reaches x n → Reaches (G.product x (of_grade g c)) (B.product n c)
  reaches_step x n c hx =
      by_grades x.0 g
      (λ xl. grind (arith, nat_tests))
      (λ xh. grind (arith, nat_tests))
      (λ xs. grind (arith, nat_tests))

  reaches_fold : (x : ℕ × ℕ) (n : ℕ) (steps : List ℕ) → Reaches x n → Reaches (fold G.product x (map (of_grade g) steps)) (fold B.product n steps)
  reaches_fold x n [] h = h
  reaches_fold x n (c ∷ rest) h = reaches_fold (G.product x (of_grade g c)) (B.product n c) rest (reaches_step x n c h)

  unit_reaches : Reaches (0, 0) 0
  unit_reaches = grind (arith, nat_tests)

  pub reaches_index : (phases : List (PhaseOf ℕ)) → G.product (g, 0) (index_of G (map (graded_phase g) phases)) ≡ of_grade g (index_of B phases)
  reaches_index [] = unit_reaches
  reaches_index (phase ∷ rest) =
      reaches_product (fold_of G (map (of_grade g) phase.steps)) (index_of G (map (graded_phase g) rest)) (fold_of B phase.steps) (index_of B rest)
      (reaches_fold (0, 0) 0 phase.steps unit_reaches) (reaches_index rest)

  -- the phase of one step to the grade
  module _ (side : ℕ) (enters leaves : List ℕ) (square : ℕ → ℕ → Option (ℕ × ℕ)) (plain : ℕ → ℕ → Option ℕ) (amounts : AreAmounts g square plain) where
    abbrev first : PhaseOf (ℕ × ℕ)
    first = rise_phase g enters leaves

    unmoved : (e s : Bool) (o : Option ℕ) → ((y : ℕ) → o ≡ Some y → y ≤ top) → option_map (moved B bounded_difference e s 0) o ≡ o
    unmoved e s None within = refl
    unmoved true true (Some y) within = let same : y - 0 ≡ y = omega arith in ap Some same
    unmoved true false (Some y) within = refl
    unmoved false true (Some y) within = refl
    unmoved false false (Some y) within = let few = within y refl in ap Some (let same : min (0 + y) top ≡ y = omega (arith, few) in same)

    rise_amounts : ((r k y : ℕ) → plain r k ≡ Some y → y ≤ top) → AreAmounts g (after_phase G less first square) plain
    rise_amounts within r k =
        stepped_amounts side (entered_at enters 0) (staying_at leaves 0) 0 square plain amounts (omega arith) r k
        ∙ unmoved (entered_at enters 0 r) (staying_at leaves 0 k) (plain r k) (within r k)

    rise_admitted : g < 2 ^ 64 → IsRisePhase g side enters leaves square → IsAdmittedPhase G less side first square
    rise_admitted small is = record {
      rows = is.rows;
      columns = is.columns;
      admitted = at_step;
    }
      where
        at_step : AreAdmittedSteps G less side first square 1
        at_step zero h = record {
          value = grind (arith, nat_tests);
          count = is.count;
          least = λ r k x hr hk e s at. let none = is.none_lower r k x hr hk e s at in grind (arith, nat_tests);
        }
        at_step (suc t) h = absurd (omega (arith, h))

    pub joined_admitted : (phases : List (PhaseOf ℕ)) → ((r k y : ℕ) → plain r k ≡ Some y → y ≤ top) → g < 2 ^ 64 → IsRisePhase g side enters leaves square → All HasPositiveSteps phases → AreAdmittedPhases B bounded_difference side phases plain
        → AreAdmittedPhases G less side (rise_phase g enters leaves ∷ map (graded_phase g) phases) square
    joined_admitted phases within small is over admitted = (
      rise_admitted small is,
      phases_to_grade side phases (after_phase G less first square) plain (rise_amounts within) small over admitted,
    )

  pub joined_index : (enters leaves : List ℕ) (phases : List (PhaseOf ℕ)) → index_of G (rise_phase g enters leaves ∷ map (graded_phase g) phases) ≡ of_grade g (index_of B phases)
  joined_index enters leaves phases =
      ap (λ (x : ℕ × ℕ). G.product x (index_of G (map (graded_phase g) phases))) rise_is ∙ reaches_index phases
    where
      rise_is : fold_of G ((g, 0) ∷ []) ≡ (g, 0)
      rise_is = grind (arith, nat_tests)
