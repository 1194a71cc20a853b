-- A valid choice that levels prove leaves no better choice: along the levels the assignment of a
-- better one would have to lie in what is left, down to the first cost that it has less often.
use Rattle.asg_proof.proofs.Common.{◌≡◌, ℕ, zero, suc, ◌+◌, ◌^◌, ◌<◌, ◌≤◌, min, Bool, true, false, cond, not, ◌&&◌, ◌↔◌, List, [], ◌∷◌, map, length, get_or, ℤ, ◌≤ℤ◌, ◌<ℤ◌, is_some, IfSome, IsSome, nat_lt, nat_le, int_lt, Some, None, sum_by, count_by, Option, option_map, IsPermutation, option_and_then, int_eq, sym, refl, ap, ◌∙◌, subst, ⊎_elim, arith, and_from, and_parts, by_lt_z, cases_lt, count_by-le-length, false≢true, ints, length-map, length-range_with_len, nat_tests, none-some, option_map_or, range_with_len, same_Some, slice_get_past, sum_by-cons, unwrap_or, IsBest, placed, descending, IsDescending, IsInstance, live_at, Problem, square_side, IsValid, chosen_cost, costs_at, costs_of, first_parts, Whole, Lex, Cost, all_there, bounded_sums, bounded_difference, bounded_laws, bounded_difference_laws, bounded_fold, costs_fold, Monoid, IsValue, IsOrderedMonoid, fold_of, length-costs_of, level_sums, counted_as, restricted, level_square, has_cost, without, is_after, is_between, left_for, numbers_of, is_zero, left_after, IsLevel, AreLevelsFrom, IsProvedLevel, AreProvedFrom, AreProvedLevels, left_last, ProvesLevels, AreLevels, IsLeftAssignment, PhaseOf, AreAdmittedPhases, after_phases, index_of, HasSide, HasValues, Level, is_some-phases, IsAssignment-phases, HasSide-square_cell, HasValues-square_cell, IsAssignment-same, square_cell, IsAssignment, assignment_values, chosen_by, choice_of, entered_or_free, IsSquareChoice}
use Rattle.std.proofs.Common.{sum}
use Rattle.asg_model.specs.Limits.{most_rows}
use Rattle.asg_square.specs.Presence.{has_cell}
use Rattle.asg_square.specs.laws.Rows.{rows_within}
use Rattle.asg_proof.proofs.LesserLists.{times, HasFewerOf, fewer_where_less}
use Rattle.asg_proof.proofs.LevelCounts.{none_passes, split_three, length-costs_at, fold_counted, times_given, IsGiven, given_where_counted, each_zero, all_zero}
use Rattle.asg_proof.proofs.PhasesLaw.{fold-phases, index_le_fold}
use Rattle.asg_proof.proofs.StepLaw.{value_at, there_is, values_are}

-- ---- squares with those cells alone that are left

-- the cells of the assignment are left
abbrev pub IsIn : (ℕ → ℕ → Bool) → ℕ → List ℕ → Type 0
IsIn left side p = (r : ℕ) → r < side → left r (get_or p r 0) ≡ true

module _ {V : Type 0} (left : ℕ → ℕ → Bool) (square : ℕ → ℕ → Option V) where
  there_if : (b : Bool) (o : Option V) → b ≡ true → IsSome o → IsSome (cond b o None)
  there_if true o e h = h
  there_if false o e h = absurd (false≢true e)

  if_there : (b : Bool) (o : Option V) → IsSome (cond b o None) → (b ≡ true) × IsSome o
  if_there true o h = (refl, h)
  if_there false o h = absurd (false≢true h)

  if_is : (b : Bool) (o : Option V) (x : V) → cond b o None ≡ Some x → o ≡ Some x
  if_is true o x e = e
  if_is false o x e = absurd (none-some x e)

  same_if : (b : Bool) (o : Option V) → b ≡ true → cond b o None ≡ o
  same_if true o e = refl
  same_if false o e = absurd (false≢true e)

  IsAssignment-restricted : (side : ℕ) (p : List ℕ) → IsAssignment square side p → IsIn left side p → IsAssignment (restricted left square) side p
  IsAssignment-restricted side p a inside = record {
    over = a.over;
    apart = a.apart;
    present = λ r h. there_if (left r (get_or p r 0)) (square r (get_or p r 0)) (inside r h) (a.present r h);
  }

  IsAssignment-from_restricted : (side : ℕ) (p : List ℕ) → IsAssignment (restricted left square) side p → IsAssignment square side p
  IsAssignment-from_restricted side p a = record {
    over = a.over;
    apart = a.apart;
    present = λ r h. (if_there (left r (get_or p r 0)) (square r (get_or p r 0)) (a.present r h)).1;
  }

  IsIn-restricted : (side : ℕ) (p : List ℕ) → IsAssignment (restricted left square) side p → IsIn left side p
  IsIn-restricted side p a r h = (if_there (left r (get_or p r 0)) (square r (get_or p r 0)) (a.present r h)).0

  HasSide-restricted : (side : ℕ) → HasSide side square → HasSide side (restricted left square)
  HasSide-restricted side within r k h = within r k (if_there (left r k) (square r k) h).1

  HasValues-restricted : (M : Monoid V) (side : ℕ) → HasValues M side square → HasValues M side (restricted left square)
  HasValues-restricted M side values r k x hr hk e = values r k x hr hk (if_is (left r k) (square r k) x e)

  -- the values of an assignment whose cells are left
  values_restricted : (M : Monoid V) (side : ℕ) (p : List ℕ) → IsAssignment square side p → IsIn left side p → assignment_values (restricted left square) side p ≡ assignment_values square side p
  values_restricted M side p a inside =
      all_there (λ r. restricted left square r (get_or p r 0)) (value_at M square p) 0 side
      (λ r from below. same_if (left r (get_or p r 0)) (square r (get_or p r 0)) (inside r (omega arith)) ∙ there_is (square r (get_or p r 0)) M.unit (a.present r (omega arith)))
      ∙ sym (all_there (λ r. square r (get_or p r 0)) (value_at M square p) 0 side
      (λ r from below. there_is (square r (get_or p r 0)) M.unit (a.present r (omega arith))))

-- ---- cells that are 0

zero_is : (o : Option ℕ) → is_zero o ≡ true → is_some o ≡ true
zero_is None e = absurd (false≢true e)
zero_is (Some x) e = refl

is_zero_at : (o : Option ℕ) → IsSome o → unwrap_or o 0 ≡ 0 → is_zero o ≡ true
is_zero_at None h e = absurd (false≢true h)
is_zero_at (Some x) h e = grind (arith, nat_tests, e)

zero_at : (o : Option ℕ) → is_zero o ≡ true → unwrap_or o 0 ≡ 0
zero_at None e = refl
zero_at (Some x) e = grind (arith, nat_tests, e)

no_more : (n m : ℕ) → n < 2 ^ 120 → min n (2 ^ 120) ≡ min (n + m) (2 ^ 120) → m ≡ 0
no_more n m few same = omega (arith, few, same)

-- ---- the law

-- what the square law says of the values of cells
pub record HasSquareLaw (V : Type 0) : Type 0 where
  pub values : (X : Problem) (free : V) (enter : Cost → V) (p : List ℕ) (r : ℕ) → IsAssignment (square_cell X free enter) (square_side X) p → r < square_side X → square_cell X free enter r (get_or p r 0) ≡ Some (entered_or_free X free enter (choice_of X p) r)
  pub presence : (X : Problem) (free : V) (enter : Cost → V) (r c : ℕ) → is_some (square_cell X free enter r c) ≡ has_cell X Whole r c

pub sums_laws : IsOrderedMonoid level_sums
sums_laws = bounded_laws (2 ^ 120)

counts_value : (z : ℤ) (X : Problem) (r c : ℕ) → IfSome (live_at X r c) (λ cost. IsValue level_sums (counted_as z cost))
counts_value z X r c = each (live_at X r c)
  where
    small : (b : Bool) → IsValue level_sums (cond b 1 0)
    small true = refl
    small false = refl

    each : (o : Option Cost) → IfSome o (λ cost. IsValue level_sums (counted_as z cost))
    each None = tt
    each (Some cost) = small _

module _ (numbers : HasSquareLaw ℕ) (bools : HasSquareLaw Bool)
    (folds : (X : Problem) (enter : Cost → ℕ) (p : List ℕ) → IsInstance X → ((r c : ℕ) → IfSome (live_at X r c) (λ cost. IsValue level_sums (enter cost))) → IsAssignment (square_cell X 0 enter) (square_side X) p → fold_of level_sums (assignment_values (square_cell X 0 enter) (square_side X) p) ≡ costs_fold level_sums enter (costs_of X (choice_of X p)))
    (values_of : (X : Problem) (z : ℤ) → HasValues level_sums (square_side X) (square_cell X 0 (counted_as z)))
    (X : Problem) (instance : IsInstance X) (few : (p : List ℕ) → IsAssignment (square_cell X false (λ cost. true)) (square_side X) p → length (costs_of X (choice_of X p)) < 2 ^ 120)
  where
    -- how often an assignment has a cost
    abbrev count_of : List ℕ → ℤ → ℕ
    count_of p z = times z (first_parts (costs_of X (choice_of X p)))

    -- a perfect assignment of the square
    abbrev IsPerm : List ℕ → Type 0
    IsPerm p = IsAssignment (square_cell X false (λ cost. true)) (square_side X) p

    for_numbers : (z : ℤ) (p : List ℕ) → IsPerm p → IsAssignment (square_cell X 0 (counted_as z)) (square_side X) p
    for_numbers z p a =
        IsAssignment-same (square_cell X false (λ cost. true)) (square_cell X 0 (counted_as z)) (square_side X) p
        (λ r k. numbers.presence X 0 (counted_as z) r k ∙ sym (bools.presence X false (λ cost. true) r k)) a

    for_tests : (passes : ℤ → Bool) (p : List ℕ) → IsPerm p → IsAssignment (square_cell X false (λ cost. passes cost.a)) (square_side X) p
    for_tests passes p a =
        IsAssignment-same (square_cell X false (λ cost. true)) (square_cell X false (λ cost. passes cost.a)) (square_side X) p
        (λ r k. bools.presence X false (λ cost. passes cost.a) r k ∙ sym (bools.presence X false (λ cost. true) r k)) a

    -- whether the cost of an assignment's cell passes is whether that of the choice's does
    has_cost_at : (passes : ℤ → Bool) (p : List ℕ) → IsPerm p → (r : ℕ) → r < square_side X → has_cost X passes r (get_or p r 0) ≡ entered_or_free X false (λ cost. passes cost.a) (choice_of X p) r
    has_cost_at passes p a r h =
        ap (λ o. option_map_or (λ b. b) o false) (bools.values X false (λ cost. passes cost.a) p r (for_tests passes p a) h)

    given_if : (passes : ℤ → Bool) (o : Option Cost) → option_map_or (λ cost. passes cost.a) o false ≡ true → (cost : Cost) × (o ≡ Some cost) × (passes cost.a ≡ true)
    given_if passes None e = absurd (false≢true e)
    given_if passes (Some cost) e = (cost, refl, e)

    -- a cost that the choice gives is counted
    given_within : (p : List ℕ) (r : ℕ) (cost : Cost) → chosen_cost X (choice_of X p) r ≡ Some cost → r < length (choice_of X p)
    given_within p r cost e =
        ⊎_elim
        (λ (within : r < length (choice_of X p)). within)
        (λ (past : length (choice_of X p) ≤ r).
        absurd (none-some cost (sym (ap (option_and_then (λ chosen. option_and_then (live_at X r) chosen)) (slice_get_past (choice_of X p) r past)) ∙ e)))
        (cases_lt r (length (choice_of X p)))

    counted : (p : List ℕ) (r : ℕ) (cost : Cost) → chosen_cost X (choice_of X p) r ≡ Some cost → 1 ≤ count_of p cost.a
    counted p r cost e = times_given (chosen_cost X (choice_of X p)) 0 (length (choice_of X p)) r cost (omega arith) (omega (arith, given_within p r cost e)) e

    -- a cell whose cost passes: such a cost is counted
    some_counted : (passes : ℤ → Bool) (p : List ℕ) → IsPerm p → (r : ℕ) → r < square_side X → has_cost X passes r (get_or p r 0) ≡ true → (z : ℤ) × (passes z ≡ true) × (1 ≤ count_of p z)
    some_counted passes p a r h e =
        let found = given_if passes (chosen_cost X (choice_of X p) r) (sym (has_cost_at passes p a r h) ∙ e) in
        (found.0.a, found.2, counted p r found.0 found.1)

    length-choice : (p : List ℕ) → length (choice_of X p) ≡ length X.rows
    length-choice p = length-map (range_with_len 0 (length X.rows)) (chosen_by X p) ∙ length-range_with_len 0 (length X.rows)

    passes_if : (passes : ℤ → Bool) (o : Option Cost) (cost : Cost) → o ≡ Some cost → passes cost.a ≡ true → option_map_or (λ c. passes c.a) o false ≡ true
    passes_if passes o cost e h = ap (λ o. option_map_or (λ (c : Cost). passes c.a) o false) e ∙ h

    -- what is left without the costs that pass has none of an assignment's cells where such a cost
    -- is counted
    none_counted : (passes : ℤ → Bool) (left : ℕ → ℕ → Bool) (p : List ℕ) (z : ℤ) → IsPerm p → IsIn (without X passes left) (square_side X) p → passes z ≡ true → 1 ≤ count_of p z → ⊥
    none_counted passes left p z a inside is some =
        let found = given_where_counted z (chosen_cost X (choice_of X p)) (range_with_len 0 (length (choice_of X p))) some in
        let r = found.0 in
        let below : r < square_side X = omega (arith, given_within p r found.1 found.2, length-choice p, rows_within X instance.well_formed.place_in_range) in
        let has = has_cost_at passes p a r below ∙ passes_if passes (chosen_cost X (choice_of X p) r) found.1 found.2 (ap passes found.3 ∙ is) in
        let kept = and_parts (left r (get_or p r 0)) (not (has_cost X passes r (get_or p r 0))) (inside r below) in
        false≢true (sym (ap not has) ∙ kept.1)

    and_not : (b c : Bool) → b ≡ true → (c ≡ true → ⊥) → (b && not c) ≡ true
    and_not true true e h = absurd (h refl)
    and_not true false e h = refl
    and_not false c e h = absurd (false≢true e)

    -- an assignment that has none of the costs that pass stays in
    stays_in : (passes : ℤ → Bool) (left : ℕ → ℕ → Bool) (p : List ℕ) → IsPerm p → IsIn left (square_side X) p → ((z : ℤ) → passes z ≡ true → count_of p z ≡ 0) → IsIn (without X passes left) (square_side X) p
    stays_in passes left p a inside none r h =
        and_not (left r (get_or p r 0)) (has_cost X passes r (get_or p r 0)) (inside r h)
        (λ e. let some = some_counted passes p a r h e in absurd (omega (arith, none some.0 some.1, some.2)))

    -- what is left only grows less
    IsIn-without : (passes : ℤ → Bool) (left : ℕ → ℕ → Bool) (p : List ℕ) → IsIn (without X passes left) (square_side X) p → IsIn left (square_side X) p
    IsIn-without passes left p inside r h = (and_parts (left r (get_or p r 0)) (not (has_cost X passes r (get_or p r 0))) (inside r h)).0

    IsIn-after : (before : Option ℤ) (left : ℕ → ℕ → Bool) (level : Level) (p : List ℕ) → IsIn (left_after X before left level) (square_side X) p → IsIn (left_for X before left level) (square_side X) p
    IsIn-after before left level p inside r h =
        let there = zero_is (after_phases level_sums bounded_difference (numbers_of level.phases) (level_square X (left_for X before left level) level.cost) r (get_or p r 0)) (inside r h) in
        (if_there (left_for X before left level) (square_cell X 0 (counted_as level.cost)) (left_for X before left level r (get_or p r 0)) (square_cell X 0 (counted_as level.cost) r (get_or p r 0))
        (sym (is_some-phases level_sums bounded_difference (numbers_of level.phases) (level_square X (left_for X before left level) level.cost) r (get_or p r 0)) ∙ there)).0

    IsIn-last : (levels : List Level) (before : Option ℤ) (left : ℕ → ℕ → Bool) (p : List ℕ) → IsIn (left_last X before left levels) (square_side X) p → IsIn left (square_side X) p
    IsIn-last [] before left p inside = IsIn-without (is_after before) left p inside
    IsIn-last (level ∷ rest) before left p inside =
        IsIn-without (is_between before level.cost) left p
        (IsIn-after before left level p (IsIn-last rest (Some level.cost) (left_after X before left level) p inside))

    -- ---- a level

    module _ (before : Option ℤ) (left : ℕ → ℕ → Bool) (level : Level) (q : List ℕ) (a : IsPerm q) (inside : IsIn (left_for X before left level) (square_side X) q) where
      abbrev square : ℕ → ℕ → Option ℕ
      square = level_square X (left_for X before left level) level.cost

      whole : IsAssignment (square_cell X 0 (counted_as level.cost)) (square_side X) q
      whole = for_numbers level.cost q a

      assigned : IsAssignment square (square_side X) q
      assigned = IsAssignment-restricted (left_for X before left level) (square_cell X 0 (counted_as level.cost)) (square_side X) q whole inside

      within : HasSide (square_side X) square
      within = HasSide-restricted (left_for X before left level) (square_cell X 0 (counted_as level.cost)) (square_side X) (HasSide-square_cell X 0 (counted_as level.cost))

      values : HasValues level_sums (square_side X) square
      values = HasValues-restricted (left_for X before left level) (square_cell X 0 (counted_as level.cost)) level_sums (square_side X) (values_of X level.cost)

      -- the sum of an assignment's cells counts those of the level's cost
      level_fold : fold_of level_sums (assignment_values square (square_side X) q) ≡ min (count_of q level.cost) (2 ^ 120)
      level_fold =
          ap (fold_of level_sums) (values_restricted (left_for X before left level) (square_cell X 0 (counted_as level.cost)) level_sums (square_side X) q whole inside)
          ∙ folds X (counted_as level.cost) q instance (counts_value level.cost X) whole
          ∙ fold_counted level.cost (costs_of X (choice_of X q))

      at_most_is : (n m : ℕ) → m ≡ min n (2 ^ 120) → (k : ℕ) → nat_le k m ≡ true → k ≤ n
      at_most_is n m e k h = grind (arith, nat_tests)

      -- it has at least as many of them as the level says
      at_least : (phases : List (PhaseOf ℕ)) → AreAdmittedPhases level_sums bounded_difference (square_side X) phases square → index_of level_sums phases ≤ count_of q level.cost
      at_least phases admitted =
          at_most_is (count_of q level.cost) (fold_of level_sums (assignment_values square (square_side X) q)) level_fold (index_of level_sums phases)
          (index_le_fold level_sums sums_laws bounded_difference (bounded_difference_laws (2 ^ 120)) (square_side X) phases square q within values admitted assigned)

      few_of : count_of q level.cost < 2 ^ 120
      few_of =
          let few_costs = few q a in
          let part = count_by-le-length (λ x. int_eq x level.cost) (first_parts (costs_of X (choice_of X q))) in
          let size = length-map (costs_of X (choice_of X q)) (λ (cost : Cost). cost.a) in
          omega (arith, few_costs, part, size)

      zero_of : (n m : ℕ) → m ≡ min n (2 ^ 120) → m ≡ 0 → n ≡ 0
      zero_of n m e h = omega (arith, e, h)

      -- an assignment with just so many of them lies in what is left after the level
      tight : (phases : List (PhaseOf ℕ)) → AreAdmittedPhases level_sums bounded_difference (square_side X) phases square → index_of level_sums phases ≡ count_of q level.cost
          → (r : ℕ) → r < square_side X → is_zero (after_phases level_sums bounded_difference phases square r (get_or q r 0)) ≡ true
      tight phases admitted same r h =
          let after = after_phases level_sums bounded_difference phases square in
          let assigned_after = IsAssignment-phases level_sums bounded_difference (square_side X) phases square q assigned in
          let rest = fold_of level_sums (assignment_values after (square_side X) q) in
          let taken = fold-phases level_sums sums_laws bounded_difference (bounded_difference_laws (2 ^ 120)) (square_side X) phases square q within values admitted assigned in
          let nothing : rest ≡ 0 = no_more (count_of q level.cost) rest few_of (sym level_fold ∙ taken ∙ ap (λ n. min (n + rest) (2 ^ 120)) same) in
          let listed = ap (fold_of level_sums) (values_are level_sums after (square_side X) q assigned_after) in
          let sums = bounded_fold (2 ^ 120) (map (value_at level_sums after q) (range_with_len 0 (square_side X))) in
          let each = each_zero (value_at level_sums after q) 0 (square_side X) (zero_of (sum (map (value_at level_sums after q) (range_with_len 0 (square_side X)))) rest (listed ∙ sums) nothing) r (omega arith) (omega arith) in
          is_zero_at (after r (get_or q r 0)) (assigned_after.present r h) each

      exactly : (n k m : ℕ) → n < 2 ^ 120 → m ≡ min n (2 ^ 120) → m ≡ min (k + 0) (2 ^ 120) → n ≡ k
      exactly n k m few e h = omega (arith, few, e, h)

      -- an assignment that lies in what is left after the level has just so many cells of its cost
      pub has_count : (phases : List (PhaseOf ℕ)) → AreAdmittedPhases level_sums bounded_difference (square_side X) phases square
          → ((r : ℕ) → r < square_side X → is_zero (after_phases level_sums bounded_difference phases square r (get_or q r 0)) ≡ true)
          → count_of q level.cost ≡ index_of level_sums phases
      has_count phases admitted zeros =
          let after = after_phases level_sums bounded_difference phases square in
          let assigned_after = IsAssignment-phases level_sums bounded_difference (square_side X) phases square q assigned in
          let taken = fold-phases level_sums sums_laws bounded_difference (bounded_difference_laws (2 ^ 120)) (square_side X) phases square q within values admitted assigned in
          let listed = ap (fold_of level_sums) (values_are level_sums after (square_side X) q assigned_after) in
          let sums = bounded_fold (2 ^ 120) (map (value_at level_sums after q) (range_with_len 0 (square_side X))) in
          let none = all_zero (value_at level_sums after q) 0 (square_side X) (λ r from below. zero_at (after r (get_or q r 0)) (zeros r (omega arith))) in
          let nothing = listed ∙ sums ∙ ap (λ n. min n (2 ^ 120)) none in
          exactly (count_of q level.cost) (index_of level_sums phases) (fold_of level_sums (assignment_values square (square_side X) q)) few_of level_fold
          (taken ∙ ap (λ n. min (index_of level_sums phases + n) (2 ^ 120)) nothing)

    -- ---- along the levels

    between_if : (before : Option ℤ) (next z : ℤ) → is_after before z ≡ true → next <ℤ z → is_between before next z ≡ true
    between_if before next z e above = and_from (is_after before z) (int_lt next z) e (less next z above)
      where
        less : (x y : ℤ) → x <ℤ y → int_lt x y ≡ true
        less x y h = grind (arith, ints)

    above_of : (before : Option ℤ) (next z : ℤ) → is_between before next z ≡ true → next <ℤ z
    above_of before next z e = more next z (and_parts (is_after before z) (int_lt next z) e).1
      where
        more : (x y : ℤ) → int_lt x y ≡ true → x <ℤ y
        more x y h = grind (arith, ints)

    int_less : (x y : ℤ) → x <ℤ y → int_lt x y ≡ true
    int_less x y h = grind (arith, ints)

    zero_unless : (n : ℕ) → (1 ≤ n → ⊥) → n ≡ 0
    zero_unless zero none = refl
    zero_unless (suc n) none = absurd (none (omega arith))

    less_than : {n m count : ℕ} → n < m → m ≡ count → count ≤ n → ⊥
    less_than h e k = omega (arith, h, e, k)

    -- the numbers of which an assignment has none, since they have no level and it lies in what is
    -- left
    no_level : (before : Option ℤ) (left : ℕ → ℕ → Bool) (level : Level) (rest : List Level) (p : List ℕ) → IsPerm p → IsIn (left_last X (Some level.cost) (left_after X before left level) rest) (square_side X) p → (z : ℤ) → is_between before level.cost z ≡ true → count_of p z ≡ 0
    no_level before left level rest p a inside z between =
        zero_unless (count_of p z)
        (none_counted (is_between before level.cost) left p z a (IsIn-after before left level p (IsIn-last rest (Some level.cost) (left_after X before left level) p inside)) between)

    -- no assignment within what is left has fewer of a cost than the proved one, and equally many
    -- of each greater one
    pub none_fewer : (levels : List Level) (before : Option ℤ) (left : ℕ → ℕ → Bool) (p q : List ℕ) (z : ℤ) → IsPerm p → IsPerm q → AreLevelsFrom X p before left levels → IsIn (left_last X before left levels) (square_side X) p → IsIn left (square_side X) q → is_after before z ≡ true → count_of q z < count_of p z → ((w : ℤ) → z <ℤ w → count_of q w ≡ count_of p w) → ⊥
    none_fewer [] before left p q z ap aq hold last inside falls fewer same =
        none_counted (is_after before) left p z ap last falls (omega (arith, fewer))
    none_fewer (level ∷ rest) before left p q z ap aq hold last inside falls fewer same =
        let has = sym (length-costs_at level.cost (costs_of X (choice_of X p))) ∙ hold.0.cells in
        let none_between = no_level before left level rest p ap last in
        by_lt_z level.cost z
        (λ above. absurd (less_than fewer (none_between z (between_if before level.cost z falls above)) (omega arith)))
        (λ upto.
        let inside_for = stays_in (is_between before level.cost) left q aq inside
        (λ w between. same w (far z level.cost w upto (above_of before level.cost w between)) ∙ none_between w between) in
        let bound = at_least before left level q aq inside_for (numbers_of level.phases) hold.0.proved.admitted in
        by_lt_z z level.cost
        (λ below.
        let equal = same level.cost below ∙ has in
        none_fewer rest (Some level.cost) (left_after X before left level) p q z ap aq hold.1 last
        (tight before left level q aq inside_for (numbers_of level.phases) hold.0.proved.admitted (hold.0.proved.index ∙ sym equal))
        (int_less z level.cost below) fewer same)
        (λ downto.
        let is : z ≡ level.cost = both z level.cost upto downto in
        less_than (subst (λ w. count_of q w < count_of p w) is fewer) has (subst (λ n. n ≤ count_of q level.cost) hold.0.proved.index bound)))
      where
        far : (z v w : ℤ) → z ≤ℤ v → v <ℤ w → z <ℤ w
        far z v w h k = omega (arith, ints, h, k)

        both : (z v : ℤ) → z ≤ℤ v → v ≤ℤ z → z ≡ v
        both z v h k = omega (arith, ints, h, k)

    -- levels that are proved hold for each assignment that lies in what is left after them
    pub levels_from_proved : (levels : List Level) (before : Option ℤ) (left : ℕ → ℕ → Bool) (p : List ℕ) → IsPerm p → AreProvedFrom X before left levels → IsIn (left_last X before left levels) (square_side X) p → AreLevelsFrom X p before left levels
    levels_from_proved [] before left p a proved last = tt
    levels_from_proved (level ∷ rest) before left p a proved last =
        let after = IsIn-last rest (Some level.cost) (left_after X before left level) p last in (
          record {
            proved = proved.0;
            cells = length-costs_at level.cost (costs_of X (choice_of X p)) ∙ has_count before left level p a (IsIn-after before left level p after) (numbers_of level.phases) proved.0.admitted after ∙ proved.0.index;
          },
          levels_from_proved rest (Some level.cost) (left_after X before left level) p a proved.1 last,
        )

    -- ---- how many cells the levels count

    parts_of : (before : Option ℤ) (next x : ℤ) → is_after before next ≡ true → cond {A = ℕ} (is_after before x) 1 0 ≡ cond (is_between before next x) 1 0 + cond (int_eq x next) 1 0 + cond (is_after (Some next) x) 1 0
    parts_of None next x falls = grind (arith, ints)
    parts_of (Some before) next x falls = grind (arith, ints, falls)

    -- the levels count all costs of the assignment that are less than that of the level before
    pub counts_after : (levels : List Level) (before : Option ℤ) (left : ℕ → ℕ → Bool) (p : List ℕ) → IsPerm p → AreLevelsFrom X p before left levels → IsIn (left_last X before left levels) (square_side X) p → sum_by (λ level. level.count) levels ≡ count_by (is_after before) (first_parts (costs_of X (choice_of X p)))
    counts_after [] before left p a hold last =
        sym (none_passes (is_after before) (first_parts (costs_of X (choice_of X p))) (λ z e. zero_unless (count_of p z) (none_counted (is_after before) left p z a last e)))
    counts_after (level ∷ rest) before left p a hold last =
        let parts = first_parts (costs_of X (choice_of X p)) in
        let more = sum_by-cons (λ level. level.count) level rest in
        let others = counts_after rest (Some level.cost) (left_after X before left level) p a hold.1 last in
        let has = sym (length-costs_at level.cost (costs_of X (choice_of X p))) ∙ hold.0.cells in
        let none = none_passes (is_between before level.cost) parts (λ z e. no_level before left level rest p a last z e) in
        let split = split_three (is_after before) (is_between before level.cost) (is_after (Some level.cost)) level.cost parts (λ x. parts_of before level.cost x hold.0.proved.falls) in
        omega (arith, more, others, has, none, split)

-- what the square law says whole
pub record IsSquaredFor (V : Type 0) : Type 0 where
  pub choices : (X : Problem) (free : V) (enter : Cost → V) (f : List (Option ℕ)) → IsInstance X → IsValid X f ↔ IsSquareChoice X free enter f
  pub values : (X : Problem) (free : V) (enter : Cost → V) (p : List ℕ) (r : ℕ) → IsAssignment (square_cell X free enter) (square_side X) p → r < square_side X → square_cell X free enter r (get_or p r 0) ≡ Some (entered_or_free X free enter (choice_of X p) r)
  pub folds : (N : Monoid V) (X : Problem) (enter : Cost → V) (p : List ℕ) → IsOrderedMonoid N → IsInstance X → ((r c : ℕ) → IfSome (live_at X r c) (λ cost. IsValue N (enter cost))) → IsAssignment (square_cell X N.unit enter) (square_side X) p → fold_of N (assignment_values (square_cell X N.unit enter) (square_side X) p) ≡ costs_fold N enter (costs_of X (choice_of X p))
  pub presence : (X : Problem) (free : V) (enter : Cost → V) (r c : ℕ) → is_some (square_cell X free enter r c) ≡ has_cell X Whole r c

module _ (numbers : IsSquaredFor ℕ) (bools : IsSquaredFor Bool)
    (moved : (xs : List ℤ) → IsPermutation xs (descending xs)) (down : (xs : List ℤ) → IsDescending (descending xs))
    (X : Problem) (instance : IsInstance X)
  where
    -- a perfect assignment of the square gives no more costs than there are rows
    few_costs : (p : List ℕ) → IsAssignment (square_cell X false (λ cost. true)) (square_side X) p → length (costs_of X (choice_of X p)) < 2 ^ 120
    few_costs p a =
        let f = choice_of X p in
        let valid = (bools.choices X false (λ cost. true) f instance).1 (p, a, refl) in
        omega (arith, length-costs_of X f valid, valid.counted, valid.over, count_by-le-length is_some f, instance.well_formed.few_rows)

    first_left : (q : List ℕ) → IsAssignment (square_cell X false (λ cost. true)) (square_side X) q → IsIn (has_cell X Whole) (square_side X) q
    first_left q a r h = sym (bools.presence X false (λ cost. true) r (get_or q r 0)) ∙ a.present r h

    -- no valid choice is better than one that levels prove
    pub IsBest-from_levels : (f : List (Option ℕ)) (perm : List ℕ) (levels : List Level) → IsValid X f → ProvesLevels X f perm levels → IsBest Lex X f
    IsBest-from_levels f perm levels valid proof = record {
      valid = valid;
      none_better = λ g is_valid better.
          let left = left_last X None (has_cell X Whole) levels in
          let cells = square_cell X false (λ cost. true) in
          let whole = IsAssignment-from_restricted left cells (square_side X) perm proof.assignment in
          let last = IsIn-restricted left cells (square_side X) perm proof.assignment in
          let some = (bools.choices X false (λ cost. true) g instance).0 is_valid in
          let q = some.0 in
          let fewer = fewer_where_less moved down (first_parts (costs_of X g)) (first_parts (costs_of X f)) better in
          let z = fewer.0 in
          let of = λ (w : ℤ) (h : List (Option ℕ)). times w (first_parts (costs_of X h)) in
          none_fewer (record { values = numbers.values; presence = numbers.presence }) (record { values = bools.values; presence = bools.presence })
          (λ X enter p instance values a. numbers.folds level_sums X enter p sums_laws instance values a)
          (λ X z. HasValues-square_cell level_sums sums_laws (counted_as z) X (counts_value z X))
          X instance few_costs levels None (has_cell X Whole) perm q z whole some.1 proof.levels_hold last (first_left q some.1) refl
          (fewer_so (ap (of z) some.2) (ap (of z) proof.chosen) fewer.1.fewer)
          (λ w above. ap (of w) some.2 ∙ fewer.1.same w above ∙ sym (ap (of w) proof.chosen));
    }
      where
        fewer_so : {a b c d : ℕ} → a ≡ b → c ≡ d → b < d → a < c
        fewer_so e k h = omega (arith, e, k, h)

    all_pass : (xs : List ℤ) → count_by (is_after None) xs ≡ length xs
    all_pass [] = refl
    all_pass (x ∷ xs) = let more = sum_by-cons (λ (y : ℤ). cond {A = ℕ} (is_after None y) 1 0) x xs in omega (arith, more, all_pass xs)

    -- levels with an assignment that is left in the end count as many cells as the place rule
    -- places rows
    pub total_placed : (perm : List ℕ) (levels : List Level) → AreLevels X perm levels → IsLeftAssignment X perm levels → sum_by (λ level. level.count) levels ≡ placed X
    total_placed perm levels hold assignment =
        let left = left_last X None (has_cell X Whole) levels in
        let cells = square_cell X false (λ cost. true) in
        let whole = IsAssignment-from_restricted left cells (square_side X) perm assignment in
        let last = IsIn-restricted left cells (square_side X) perm assignment in
        let f = choice_of X perm in
        let valid = (bools.choices X false (λ cost. true) f instance).1 (perm, whole, refl) in
        counts_after (record { values = numbers.values; presence = numbers.presence }) (record { values = bools.values; presence = bools.presence })
        (λ X enter p instance values a. numbers.folds level_sums X enter p sums_laws instance values a)
        (λ X z. HasValues-square_cell level_sums sums_laws (counted_as z) X (counts_value z X))
        X instance few_costs levels None (has_cell X Whole) perm whole hold last
        ∙ all_pass (first_parts (costs_of X f))
        ∙ length-map (costs_of X f) (λ (cost : Cost). cost.a)
        ∙ length-costs_of X f valid

    -- proved levels hold for each assignment that is left after them
    pub levels_hold : (perm : List ℕ) (levels : List Level) → AreProvedLevels X levels → IsLeftAssignment X perm levels → AreLevels X perm levels
    levels_hold perm levels proved assignment =
        let left = left_last X None (has_cell X Whole) levels in
        let cells = square_cell X false (λ cost. true) in
        levels_from_proved (record { values = numbers.values; presence = numbers.presence }) (record { values = bools.values; presence = bools.presence })
        (λ X enter p instance values a. numbers.folds level_sums X enter p sums_laws instance values a)
        (λ X z. HasValues-square_cell level_sums sums_laws (counted_as z) X (counts_value z X))
        X instance few_costs levels None (has_cell X Whole) perm
        (IsAssignment-from_restricted left cells (square_side X) perm assignment) proved (IsIn-restricted left cells (square_side X) perm assignment)
