-- The cells of a square of costs: which costs they have, and what they count for a level.
use Rattle.asg_verdicts.proofs.LevelCommon.{◌≡◌, ℕ, ◌<◌, ◌≤◌, Bool, true, false, cond, not, ◌&&◌, ℤ, IfSome, nat_lt, unsigned_abs, Some, None, Option, option_map, int_eq, refl, ap, ◌∙◌, ⊎_elim, arith, Decides-int_eq, cases_Bool, ints, option_map_or, BitTable, has_bit, corner_cell, extra_column_cell, labelled_cell, IsCostSquare, IsLeft, counts_for, free_cost, level_value, passes_cost, IsInstance, most_cost, live_at, Problem, square_side, Cost, Place, All, Exactly, counted_as, has_cost, level_square, without, square_cell, Grid, cell_at, column_label, row_label}
use Rattle.asg_proof.specs.laws.LiveCosts.{first_part_in_range}

-- no cost in range is what a free cell holds
far : (a : ℤ) → unsigned_abs a ≤ most_cost → a ≡ free_cost → ⊥
far a near e = omega (arith, ints, near, e)

not_free : (a : ℤ) → unsigned_abs a ≤ most_cost → int_eq a free_cost ≡ false
not_free a near =
    ⊎_elim
    (λ (same : int_eq a free_cost ≡ true). absurd (far a near ((Decides-int_eq a free_cost).0 same)))
    (λ (other : int_eq a free_cost ≡ false). other)
    (cases_Bool (int_eq a free_cost))

pub is_free : int_eq free_cost free_cost ≡ true
is_free = (Decides-int_eq free_cost free_cost).1 refl

pub mapped_or : {V : Type 0} (h : V → Bool) (o : Option V) → option_map_or h o false ≡ option_map_or (λ b. b) (option_map h o) false
mapped_or h None = refl
mapped_or h (Some v) = refl

-- a map that takes what enters for costs in range, and for free cells, to what enters otherwise takes
-- the cells of the square to those
module _ {V W : Type 0} (X : Problem) (instance : IsInstance X) (h : V → W) (free : V) (enter : Cost → V) (other_free : W) (other : Cost → W) (frees : h free ≡ other_free) (costs : (cost : Cost) → unsigned_abs cost.a ≤ most_cost → h (enter cost) ≡ other cost) where
  live_mapped : (o : Option Cost) → IfSome o (λ cost. unsigned_abs cost.a ≤ most_cost) → option_map h (option_map enter o) ≡ option_map other o
  live_mapped None near = refl
  live_mapped (Some cost) near = ap Some (costs cost near)

  extra_mapped : (place : Place) → option_map h (extra_column_cell place free) ≡ extra_column_cell place other_free
  extra_mapped All = refl
  extra_mapped (Exactly k) = ap Some frees

  corner_mapped : (place : Place) → option_map h (corner_cell place free) ≡ corner_cell place other_free
  corner_mapped All = ap Some frees
  corner_mapped (Exactly k) = refl

  labelled_mapped : (row column : Option ℕ) → option_map h (labelled_cell X free enter row column) ≡ labelled_cell X other_free other row column
  labelled_mapped (Some r) (Some d) = live_mapped (live_at X r d) (first_part_in_range X instance r d)
  labelled_mapped (Some r) None = extra_mapped X.place
  labelled_mapped None (Some d) = ap Some frees
  labelled_mapped None None = corner_mapped X.place

  inside_mapped : (b : Bool) (cell : Option V) (to : Option W) → option_map h cell ≡ to → option_map h (cond b cell None) ≡ cond b to None
  inside_mapped true cell to e = e
  inside_mapped false cell to e = refl

  pub cell_mapped : (r c : ℕ) → option_map h (square_cell X free enter r c) ≡ square_cell X other_free other r c
  cell_mapped r c =
      inside_mapped (nat_lt r (square_side X) && nat_lt c (square_side X)) (labelled_cell X free enter (row_label X r) (column_label X c)) (labelled_cell X other_free other (row_label X r) (column_label X c))
      (labelled_mapped (row_label X r) (column_label X c))

module _ (X : Problem) (instance : IsInstance X) where
  -- ---- which costs pass

  module _ (passes : ℤ → Bool) where
    abbrev passes_in : ℤ → Bool
    passes_in = λ cost. not (int_eq cost free_cost) && passes cost

    -- a cell of the square has a cost that passes where that of the instance has
    pub passes_is : (Q : Grid ℤ) → IsCostSquare X Q → (r c : ℕ) → passes_cost passes (cell_at Q r c) ≡ has_cost X passes r c
    passes_is Q square r c =
        ap (passes_cost passes) (square.cells r c)
        ∙ mapped_or passes_in (square_cell X free_cost (λ cost. cost.a) r c)
        ∙ ap (λ o. option_map_or (λ b. b) o false)
        (cell_mapped X instance passes_in free_cost (λ cost. cost.a) false (λ cost. passes cost.a) (ap (λ b. not b && passes free_cost) is_free) (λ cost near. ap (λ b. not b && passes cost.a) (not_free cost.a near)) r c)

    -- what is left without the cells that pass, by bits
    pub left_without : (Q : Grid ℤ) → IsCostSquare X Q → (left : ℕ → ℕ → Bool) (before after : BitTable) → after.rows ≡ square_side X → after.columns ≡ square_side X
        → ((r c : ℕ) → r < square_side X → c < square_side X → has_bit after r c ≡ (has_bit before r c && not (passes_cost passes (cell_at Q r c))))
        → IsLeft (square_side X) left before → IsLeft (square_side X) (without X passes left) after
    left_without Q square left before after rows columns bits is = record {
      rows = rows;
      columns = columns;
      each = λ r c hr hc.
          bits r c hr hc
          ∙ ap (λ b. b && not (passes_cost passes (cell_at Q r c))) (is.each r c hr hc)
          ∙ ap (λ b. left r c && not b) (passes_is Q square r c);
    }

  -- ---- what cells count for a level

  module _ (cost : ℤ) where
    counts_is : (Q : Grid ℤ) → IsCostSquare X Q → (r c : ℕ) → option_map (counts_for cost) (cell_at Q r c) ≡ square_cell X 0 (counted_as cost) r c
    counts_is Q square r c =
        ap (option_map (counts_for cost)) (square.cells r c)
        ∙ cell_mapped X instance (counts_for cost) free_cost (λ found. found.a) 0 (counted_as cost) (ap (λ b. cond {A = ℕ} (not b && int_eq free_cost cost) 1 0) is_free) (λ found near. ap (λ b. cond {A = ℕ} (not b && int_eq found.a cost) 1 0) (not_free found.a near)) r c

    -- a cell of the square of the level, by a bit that says whether it is left
    pub level_cell_is : (Q : Grid ℤ) → IsCostSquare X Q → (left : ℕ → ℕ → Bool) (r c : ℕ) (bit : Bool) → bit ≡ left r c → level_value bit cost (cell_at Q r c) ≡ level_square X left cost r c
    level_cell_is Q square left r c bit is =
        ap (λ b. level_value b cost (cell_at Q r c)) is ∙ ap (λ o. cond (left r c) o None) (counts_is Q square r c)
