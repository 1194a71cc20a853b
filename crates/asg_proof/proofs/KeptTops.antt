-- Where nothing reaches the lesser top, phases are admitted by it exactly where they are by the greater one.
use Rattle.asg_proof.proofs.Common.{◌≡◌, ℕ, zero, suc, ◌+◌, ◌<◌, ◌≤◌, Bool, true, false, List, [], ◌∷◌, length, get_or, take, drop, Some, None, Option, option_map, sym, refl, ap, ◌∙◌, subst, arith, nat_tests, sum_by-cons, bounded_sums, bounded_difference, IsValue, IsLe, PhaseOf, entered_at, staying_at, square_after, after_phase, IsAdmittedPhase, AreAdmittedPhases, moved, IsAdmittedStep, option_map_cases, sum}
use Rattle.asg_proof.specs.KeptPhases.{AreKept}
use Rattle.asg_proof.specs.KeptTops.{total_of, StaysBelow}

-- what is left of the steps from one on
left_step : (steps : List ℕ) (t : ℕ) → t < length steps → sum (drop t steps) ≡ get_or steps t 0 + sum (drop (suc t) steps)
left_step [] t h = absurd (omega (arith, h))
left_step (c ∷ steps) zero h = sum_by-cons (λ x. x) c steps
left_step (c ∷ steps) (suc t) h = left_step steps t (omega (arith, h))

total_take : (phases : List (PhaseOf ℕ)) (m : ℕ) → total_of (take m phases) ≤ total_of phases
total_take phases zero = omega arith
total_take [] (suc m) = omega arith
total_take (phase ∷ rest) (suc m) = let more = total_take rest m in omega (arith, more)

module _ (low high : ℕ) (le : low ≤ high) (side : ℕ) where
  -- a step that nothing reaches the top with makes the same of a cell, and leaves as much room
  moved_same : (e s : Bool) (c x more : ℕ) → x + (c + more) < low → moved (bounded_sums low) bounded_difference e s c x ≡ moved (bounded_sums high) bounded_difference e s c x
  moved_same true true c x more h = refl
  moved_same true false c x more h = refl
  moved_same false true c x more h = refl
  moved_same false false c x more h = omega (arith, h, le)

  moved_below : (e s : Bool) (c x more : ℕ) → x + (c + more) < low → moved (bounded_sums high) bounded_difference e s c x + more < low
  moved_below true true c x more h = omega (arith, h)
  moved_below true false c x more h = omega (arith, h)
  moved_below false true c x more h = omega (arith, h)
  moved_below false false c x more h = omega (arith, h, le)

  same_moved : (e s : Bool) (c more : ℕ) (o : Option ℕ) → ((x : ℕ) → o ≡ Some x → x + (c + more) < low) → option_map (moved (bounded_sums low) bounded_difference e s c) o ≡ option_map (moved (bounded_sums high) bounded_difference e s c) o
  same_moved e s c more None below = refl
  same_moved e s c more (Some x) below = ap Some (moved_same e s c x more (below x refl))

  module _ (phase : PhaseOf ℕ) (square : ℕ → ℕ → Option ℕ) (rest : ℕ) (room : StaysBelow low square (sum phase.steps + rest)) where
    abbrev left : ℕ → ℕ
    left t = sum (drop t phase.steps) + rest

    record IsSame (t : ℕ) : Type 0 where
      pub same : (r k : ℕ) → square_after (bounded_sums low) bounded_difference phase square t r k ≡ square_after (bounded_sums high) bounded_difference phase square t r k
      pub below : (r k x : ℕ) → square_after (bounded_sums high) bounded_difference phase square t r k ≡ Some x → x + left t < low
      pub alone : left t < low

    steps_same : (t : ℕ) → t ≤ length phase.steps → IsSame t
    steps_same zero h = record { same = λ r k. refl; below = room.cells; alone = room.alone }
    steps_same (suc t) h =
        let so_far = steps_same t (omega arith) in
        let c = get_or phase.steps t 0 in
        let now = left_step phase.steps t (omega (arith, h)) in
        let more = left (suc t) in
        let high_now = square_after (bounded_sums high) bounded_difference phase square t in
        record {
          same = λ r k.
              let e = entered_at phase.enters t r in
              let s = staying_at phase.leaves t k in
              ap (option_map (moved (bounded_sums low) bounded_difference e s c)) (so_far.same r k)
              ∙ same_moved e s c more (high_now r k) (λ x at. let b = so_far.below r k x at in omega (arith, b, now));
          below = λ r k x at.
              let e = entered_at phase.enters t r in
              let s = staying_at phase.leaves t k in
              let from = option_map_cases (moved (bounded_sums high) bounded_difference e s c) (high_now r k) x at in
              let b = so_far.below r k from.0 from.1 in
              subst (λ y. y + more < low) from.2 (moved_below e s c from.0 more (omega (arith, b, now)));
          alone = let a = so_far.alone in omega (arith, a, now);
        }

    step_value : (t : ℕ) → t < length phase.steps → IsValue (bounded_sums low) (get_or phase.steps t 0)
    step_value t h =
        let a = (steps_same t (omega (arith, h))).alone in
        let now = left_step phase.steps t h in
        is_value (get_or phase.steps t 0) (omega (arith, a, now))
      where
        is_value : (c : ℕ) → c < low → IsValue (bounded_sums low) c
        is_value c h = grind (arith, nat_tests)

    -- a phase that is admitted by the greater top is admitted by the lesser one
    phase_back : IsAdmittedPhase (bounded_sums high) bounded_difference side phase square → IsAdmittedPhase (bounded_sums low) bounded_difference side phase square
    phase_back one = record {
      rows = one.rows;
      columns = one.columns;
      admitted = λ t h. record {
        value = step_value t h;
        count = (one.admitted t h).count;
        least = λ r k x hr hk e s at.
            (one.admitted t h).least r k x hr hk e s (sym ((steps_same t (omega (arith, h))).same r k) ∙ at);
      };
    }

    after_same : after_phase (bounded_sums low) bounded_difference phase square ≡ after_phase (bounded_sums high) bounded_difference phase square
    after_same = λ i r k. (steps_same (length phase.steps) (omega arith)).same r k i

    after_room : StaysBelow low (after_phase (bounded_sums high) bounded_difference phase square) rest
    after_room =
        let end = steps_same (length phase.steps) (omega arith) in
        record {
          alone = let a = end.alone in omega (arith, a);
          cells = λ r k x at. let b = end.below r k x at in omega (arith, b);
        }

  pub phases_back : (phases : List (PhaseOf ℕ)) (square : ℕ → ℕ → Option ℕ) → StaysBelow low square (total_of phases) → AreAdmittedPhases (bounded_sums high) bounded_difference side phases square → AreAdmittedPhases (bounded_sums low) bounded_difference side phases square
  phases_back [] square room all = tt
  phases_back (phase ∷ rest) square room all = (
    phase_back phase square (total_of rest) room all.0,
    subst (AreAdmittedPhases (bounded_sums low) bounded_difference side rest) (sym (after_same phase square (total_of rest) room))
        (phases_back rest (after_phase (bounded_sums high) bounded_difference phase square) (after_room phase square (total_of rest) room) all.1),
  )

  less_room : (square : ℕ → ℕ → Option ℕ) (more less : ℕ) → less ≤ more → StaysBelow low square more → StaysBelow low square less
  less_room square more less h room = record {
    alone = let a = room.alone in omega (arith, a, h);
    cells = λ r k x at. let b = room.cells r k x at in omega (arith, b, h);
  }

  -- as many are kept by the greater top as by the lesser one
  pub kept_by_top : ((phases : List (PhaseOf ℕ)) (square : ℕ → ℕ → Option ℕ) → AreAdmittedPhases (bounded_sums low) bounded_difference side phases square → AreAdmittedPhases (bounded_sums high) bounded_difference side phases square) → (phases : List (PhaseOf ℕ)) (square : ℕ → ℕ → Option ℕ) (n : ℕ) → StaysBelow low square (total_of phases) → AreKept (bounded_sums low) bounded_difference side phases square n → AreKept (bounded_sums high) bounded_difference side phases square n
  kept_by_top by_top phases square n room kept = record {
    within = kept.within;
    admitted = by_top (take n phases) square kept.admitted;
    longest = λ m few all.
        kept.longest m few (phases_back (take m phases) square (less_room square (total_of phases) (total_of (take m phases)) (total_take phases m) room) all);
  }
