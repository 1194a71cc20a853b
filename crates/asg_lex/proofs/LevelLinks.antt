-- The work at a level and the definition of levels.
use Rattle.asg_lex.proofs.Common.{◌≡◌, ℕ, ◌≤◌, Bool, true, false, cond, not, ◌&&◌, ◌↔◌, List, length, ℤ, IsSome, nat_lt, Some, None, Option, option_map, int_eq, sym, refl, ap, ◌∙◌, subst, eqb-true, false≢true, option_map_or, BitTable, has_bit, extra_column_cell, corner_cell, labelled_cell, bit_square, IsMarked, live_at, Problem, square_side, Cost, Place, bounded_difference, level_sums, level_square, has_cost, is_after, left_for, numbers_of, is_zero, left_after, IsProvedLevel, AreAdmittedPhases, after_phases, Level, square_cell, row_label, column_label}
use Rattle.asg_lex.proofs.WorkSteps.{ArePhasesSoFar}
use Rattle.asg_model.specs.declared.parts.Place.TheVariants.{All as PlaceAll, Exactly}

-- ---- the square of a level by tests

module _ {V W : Type 0} (h : V → W) (X : Problem) (free : V) (enter : Cost → V) where
  map_map : (o : Option Cost) → option_map (λ cost. h (enter cost)) o ≡ option_map h (option_map enter o)
  map_map None = refl
  map_map (Some cost) = refl

  map_extra : (place : Place) → extra_column_cell place (h free) ≡ option_map h (extra_column_cell place free)
  map_extra PlaceAll = refl
  map_extra (Exactly k) = refl

  map_corner : (place : Place) → corner_cell place (h free) ≡ option_map h (corner_cell place free)
  map_corner PlaceAll = refl
  map_corner (Exactly k) = refl

  map_labelled : (row column : Option ℕ) → labelled_cell X (h free) (λ cost. h (enter cost)) row column ≡ option_map h (labelled_cell X free enter row column)
  map_labelled (Some r) (Some d) = map_map (live_at X r d)
  map_labelled (Some r) None = map_extra X.place
  map_labelled None (Some d) = refl
  map_labelled None None = map_corner X.place

  map_if : (b : Bool) (o : Option V) (p : Option W) → p ≡ option_map h o → cond b p None ≡ option_map h (cond b o None)
  map_if true o p e = e
  map_if false o p e = refl

  -- a square of other values is the square with its values changed
  map_cell : (r c : ℕ) → square_cell X (h free) (λ cost. h (enter cost)) r c ≡ option_map h (square_cell X free enter r c)
  map_cell r c =
      map_if (nat_lt r (square_side X) && nat_lt c (square_side X)) (labelled_cell X free enter (row_label X r) (column_label X c)) (labelled_cell X (h free) (λ cost. h (enter cost)) (row_label X r) (column_label X c))
      (map_labelled (row_label X r) (column_label X c))

abbrev one_if : Bool → ℕ
one_if b = cond b 1 0

by_bits : (left : Bool) (o : Option Bool) → (left ≡ true → IsSome o) → (zero one : Bool) → zero ≡ (left && not (option_map_or (λ b. b) o false)) → one ≡ left
    → cond {A = Option ℕ} zero (Some 0) (cond one (Some 1) None) ≡ cond left (option_map one_if o) None
by_bits false o there zero one e h = ap (λ b. cond {A = Option ℕ} b (Some 0) (cond one (Some 1) None)) e ∙ ap (λ b. cond {A = Option ℕ} b (Some 1) None) h
by_bits true None there zero one e h = absurd (false≢true (there refl))
by_bits true (Some true) there zero one e h = ap (λ b. cond {A = Option ℕ} b (Some 0) (cond one (Some 1) None)) e ∙ ap (λ b. cond {A = Option ℕ} b (Some 1) None) h
by_bits true (Some false) there zero one e h = ap (λ b. cond {A = Option ℕ} b (Some 0) (cond one (Some 1) None)) e

module _ (X : Problem) (before : Option ℤ) (left : ℕ → ℕ → Bool) (level : Level) (zeros ones : BitTable)
    (there : (r c : ℕ) → left_for X before left level r c ≡ true → IsSome (square_cell X false (λ cost. int_eq cost.a level.cost) r c))
    (zeros_are : (r c : ℕ) → has_bit zeros r c ≡ (left_for X before left level r c && not (has_cost X (λ a. int_eq a level.cost) r c)))
    (ones_are : (r c : ℕ) → has_bit ones r c ≡ left_for X before left level r c)
  where
    -- the square of these bits is that of the level
    pub square_is : bit_square zeros ones ≡ level_square X (left_for X before left level) level.cost
    square_is = λ i r c. at r c i
      where
        at : (r c : ℕ) → bit_square zeros ones r c ≡ level_square X (left_for X before left level) level.cost r c
        at r c =
            by_bits (left_for X before left level r c) (square_cell X false (λ cost. int_eq cost.a level.cost) r c) (there r c) (has_bit zeros r c) (has_bit ones r c) (zeros_are r c) (ones_are r c)
            ∙ ap (λ o. cond (left_for X before left level r c) o None) (sym (map_cell one_if X false (λ cost. int_eq cost.a level.cost) r c))

    module _ (marks : BitTable) (ins outs : List ℕ) (so : ArePhasesSoFar (square_side X) zeros ones marks ins outs level.phases) where
      -- the phases so far make a level
      pub proved_level : is_after before level.cost ≡ true → 1 ≤ level.count → level.count ≡ length level.phases → IsProvedLevel X before left level
      proved_level falls some counted = record {
        falls = falls;
        some = some;
        plain = so.counted.units.plain;
        admitted = subst (λ square. AreAdmittedPhases level_sums bounded_difference (square_side X) (numbers_of level.phases) square) square_is so.counted.units.admitted;
        index = so.counted.units.index ∙ sym counted;
      }

      zero_is : (o : Option ℕ) → (is_zero o ≡ true) ↔ (o ≡ Some 0)
      zero_is None = (λ e. absurd (false≢true e), λ e. ap is_zero e)
      zero_is (Some x) = (λ e. ap Some (eqb-true x 0 e), λ e. ap is_zero e)

      -- and what is marked is what is left after it
      pub marked_is : (r c : ℕ) → IsMarked marks (square_side X) r c ↔ (left_after X before left level r c ≡ true)
      marked_is r c =
          let same = ap (λ square. after_phases level_sums bounded_difference (numbers_of level.phases) square r c) square_is in (
            λ marked. (zero_is (after_phases level_sums bounded_difference (numbers_of level.phases) (level_square X (left_for X before left level) level.cost) r c)).1 (sym same ∙ (so.zeros_marked r c).0 marked),
            λ e. (so.zeros_marked r c).1 (same ∙ (zero_is (after_phases level_sums bounded_difference (numbers_of level.phases) (level_square X (left_for X before left level) level.cost) r c)).0 e),
          )
