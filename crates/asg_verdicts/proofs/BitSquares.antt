-- The square of a level by rows of bits: one cell more, and all cells.
use Rattle.asg_verdicts.proofs.LevelCommon.{◌≡◌, ℕ, zero, suc, ◌+◌, ◌*◌, ◌<◌, ◌≤◌, Bool, true, false, cond, not, ◌&&◌, ltb, ◌⊎◌, List, get_or, ℤ, is_some, slice_get, bit_and, Some, None, Option, int_eq, sym, refl, ap, ◌∙◌, subst, inl, inr, ⊎_elim, arith, Decides-int_eq, cases_Bool, cases_lt, false≢true, get_or-map-range_with_len, get_or_from_slice_get, AreWordsOf, BitTable, IsBitTable, PutsBit, has_bit, is_bit_set, word_count, place_hit, place_missed, bit_in_row, is_and, corner_cell, labelled_cell, value_in, value_of, IsCostSquare, IsLeft, free_cost, passes_cost, Walk, bit_square, IsInstance, Problem, square_side, Place, All, Exactly, is_between, level_square, without, Level, Grid, HasLabelsOf, cell_at, column_label, row_label}
use Rattle.asg_verdicts.proofs.LevelCells.{is_free, level_cell_is, passes_is}
use Rattle.asg_verdicts.proofs.LevelStarts.{outside_level}

-- ---- one cell more

-- a cell that holds nothing is marked neither way
pub no_marks : (b d : Bool) → cond {A = Option ℕ} b (Some 0) (cond d (Some 1) None) ≡ None → (b ≡ false) × (d ≡ false)
no_marks true d e = absurd (cc (e))
no_marks false true e = absurd (cc (e))
no_marks false false e = (refl, refl)

pub one_here : (zeros ones after : BitTable) (row column : ℕ) → PutsBit ones after row column true → bit_square zeros ones row column ≡ None → bit_square zeros after row column ≡ Some 1
one_here zeros ones after row column put clear =
    let none = no_marks (has_bit zeros row column) (has_bit ones row column) clear in
    ap (λ b. cond {A = Option ℕ} b (Some 0) (cond (has_bit after row column) (Some 1) None)) none.0
    ∙ ap (λ d. cond {A = Option ℕ} d (Some 1) None) (put.bits row column ∙ place_hit row row column column true (has_bit ones row column) refl refl)

pub one_kept : (zeros ones after : BitTable) (row column : ℕ) → PutsBit ones after row column true → (r c : ℕ) → (r ≡ row → column ≤ c → c < column + 1 → ⊥) → bit_square zeros after r c ≡ bit_square zeros ones r c
one_kept zeros ones after row column put r c apart =
    ap (λ d. cond {A = Option ℕ} (has_bit zeros r c) (Some 0) (cond d (Some 1) None))
    (put.bits r c ∙ place_missed r row c column true (has_bit ones r c) (λ e f. apart e (omega (arith, f)) (omega (arith, f))))

pub zero_here : (zeros ones after : BitTable) (row column : ℕ) → PutsBit zeros after row column true → bit_square after ones row column ≡ Some 0
zero_here zeros ones after row column put =
    ap (λ b. cond {A = Option ℕ} b (Some 0) (cond (has_bit ones row column) (Some 1) None))
    (put.bits row column ∙ place_hit row row column column true (has_bit zeros row column) refl refl)

pub zero_kept : (zeros ones after : BitTable) (row column : ℕ) → PutsBit zeros after row column true → (r c : ℕ) → (r ≡ row → column ≤ c → c < column + 1 → ⊥) → bit_square after ones r c ≡ bit_square zeros ones r c
zero_kept zeros ones after row column put r c apart =
    ap (λ b. cond {A = Option ℕ} b (Some 0) (cond (has_bit ones r c) (Some 1) None))
    (put.bits r c ∙ place_missed r row c column true (has_bit zeros r c) (λ e f. apart e (omega (arith, f)) (omega (arith, f))))

-- ---- what cells hold

-- 0 or 1 by a test
pub one_by_test : (x : ℕ) → x ≤ 1 → cond (ltb 0 x) 1 0 ≡ x
one_by_test zero h = refl
one_by_test (suc zero) h = refl
one_by_test (suc (suc x)) h = absurd (omega (arith, h))

pub value_none : (is_left : Bool) (before : Option ℤ) (cost : ℤ) (cell : Option ℤ) → is_left ≡ false → None ≡ value_of is_left before cost cell
value_none true before cost cell e = absurd (false≢true (sym e))
value_none false before cost cell e = refl

-- a free cell holds 0 where it is left
value_some : (is_left : Bool) (before : Option ℤ) (cost found : ℤ) → found ≡ free_cost → value_of is_left before cost (Some found) ≡ cond is_left (Some 0) None
value_some false before cost found e = refl
value_some true before cost found e =
    ap (λ (z : ℤ). value_of true before cost (Some z)) e
    ∙ ap (λ b. cond {A = Option ℕ} (true && not (not b && is_between before cost free_cost)) (Some (cond (not b && int_eq free_cost cost) 1 0)) None) is_free

pub value_free : (is_left : Bool) (before : Option ℤ) (cost : ℤ) (cell : Option ℤ) (d : Bool) → ((found : ℤ) → cell ≡ Some found → found ≡ free_cost) → d ≡ false
    → cond {A = Option ℕ} (is_left && is_some cell) (Some 0) (cond d (Some 1) None) ≡ value_of is_left before cost cell
value_free true before cost (Some found) d free none = sym (value_some true before cost found (free found refl))
value_free true before cost None d free none = ap (λ b. cond {A = Option ℕ} b (Some 1) None) none
value_free false before cost (Some found) d free none = ap (λ b. cond {A = Option ℕ} b (Some 1) None) none
value_free false before cost None d free none = ap (λ b. cond {A = Option ℕ} b (Some 1) None) none

-- a row that stands for none of the instance's has free cells alone
pub free_row : (X : Problem) (Q : Grid ℤ) → IsCostSquare X Q → (r c : ℕ) (found : ℤ) → row_label X r ≡ None → cell_at Q r c ≡ Some found → found ≡ free_cost
free_row X Q square r c found none e =
    by_place (ltb r (square_side X) && ltb c (square_side X)) (row_label X r) (column_label X c) none (sym (square.cells r c) ∙ e)
  where
    by_place : (b : Bool) (row column : Option ℕ) → row ≡ None → cond b (labelled_cell X free_cost (λ cost. cost.a) row column) None ≡ Some found → found ≡ free_cost
    by_place false row column is h = absurd (cc (h))
    by_place true (Some r) column is h = absurd (cc (is))
    by_place true None (Some d) is h = cc (h)
    by_place true None None is h = corner X.place h
      where
        corner : (place : Place) → corner_cell place free_cost ≡ Some found → found ≡ free_cost
        corner All h = cc (h)
        corner (Exactly k) h = absurd (cc (h))

-- what a row stands for, as it is read
pub label_read : (X : Problem) (Q : Grid ℤ) → HasLabelsOf X Q → (r : ℕ) (label : Option ℕ) → r < Q.side → slice_get Q.row_labels r ≡ Some label → row_label X r ≡ label
label_read X Q labels r label h read =
    sym (get_or-map-range_with_len (row_label X) 0 (square_side X) r r None (omega (arith, h, labels.side)) (omega arith))
    ∙ sym (ap (λ xs. get_or xs r None) labels.row_labels)
    ∙ get_or_from_slice_get Q.row_labels r label None read

pub none_where : (o : Option ℕ) → is_some o ≡ false → o ≡ None
none_where None e = refl
none_where (Some x) e = absurd (false≢true (sym e))

-- the bits of a word of a row that are present cells
pub word_bits : (left : BitTable) (Q : Grid ℤ) (row number k : ℕ) (words present : List ℕ) → AreWordsOf (has_bit left row) left.columns words → AreWordsOf (λ d. is_some (cell_at Q row d)) Q.side present → left.columns ≡ Q.side → number < word_count Q.side → k < 64
    → is_bit_set (bit_and (get_or words number 0) (get_or present number 0)) k ≡ (has_bit left row (64 * number + k) && is_some (cell_at Q row (64 * number + k)))
word_bits left Q row number k words present words_are present_are same below h =
    is_and (get_or words number 0) (get_or present number 0) k
    ∙ ap (λ b. b && is_bit_set (get_or present number 0) k) (bit_in_row (has_bit left row) left.columns words number k words_are (subst (λ n. number < word_count n) (sym same) below) h)
    ∙ ap (λ b. has_bit left row (64 * number + k) && b) (bit_in_row (λ d. is_some (cell_at Q row d)) Q.side present number k present_are below h)

-- ---- the whole square

module _ (X : Problem) (instance : IsInstance X) (Q : Grid ℤ) (square : IsCostSquare X Q) (walk : Walk) (level : Level) (left : ℕ → ℕ → Bool) (is : IsLeft (square_side X) left walk.left) where
  inside_is : (r c : ℕ) → r < square_side X → c < square_side X → value_in Q walk level r c ≡ level_square X (without X (is_between walk.before level.cost) left) level.cost r c
  inside_is r c hr hc =
      level_cell_is X instance level.cost Q square (without X (is_between walk.before level.cost) left) r c (has_bit walk.left r c && not (passes_cost (is_between walk.before level.cost) (cell_at Q r c)))
      (ap (λ b. b && not (passes_cost (is_between walk.before level.cost) (cell_at Q r c))) (is.each r c hr hc)
      ∙ ap (λ b. left r c && not b) (passes_is X instance (is_between walk.before level.cost) Q square r c))

  -- bits of the cells within a square are the square of the level
  pub level_is : (zeros ones : BitTable) → IsBitTable zeros → IsBitTable ones → zeros.rows ≡ square_side X → zeros.columns ≡ square_side X → ones.rows ≡ square_side X → ones.columns ≡ square_side X
      → ((r c : ℕ) → r < square_side X → c < square_side X → bit_square zeros ones r c ≡ value_in Q walk level r c)
      → (r c : ℕ) → bit_square zeros ones r c ≡ level_square X (without X (is_between walk.before level.cost) left) level.cost r c
  level_is zeros ones of_zeros of_ones zero_rows zero_columns one_rows one_columns cells r c =
      let beyond : (square_side X ≤ r) ⊎ (square_side X ≤ c) → bit_square zeros ones r c ≡ level_square X (without X (is_between walk.before level.cost) left) level.cost r c =
      λ out.
      ap (λ b. cond {A = Option ℕ} b (Some 0) (cond (has_bit ones r c) (Some 1) None)) (no_bit zeros of_zeros zero_rows zero_columns out)
      ∙ ap (λ d. cond {A = Option ℕ} d (Some 1) None) (no_bit ones of_ones one_rows one_columns out)
      ∙ sym (outside_level X (without X (is_between walk.before level.cost) left) level.cost r c out) in
      ⊎_elim
      (λ (hr : r < square_side X). ⊎_elim (λ (hc : c < square_side X). cells r c hr hc ∙ inside_is r c hr hc) (λ (pc : square_side X ≤ c). beyond (inr pc)) (cases_lt c (square_side X)))
      (λ (pr : square_side X ≤ r). beyond (inl pr))
      (cases_lt r (square_side X))
    where
      no_bit : (B : BitTable) → IsBitTable B → B.rows ≡ square_side X → B.columns ≡ square_side X → (square_side X ≤ r) ⊎ (square_side X ≤ c) → has_bit B r c ≡ false
      no_bit B table rows columns out =
          ⊎_elim
          (λ (set : has_bit B r c ≡ true).
          let within = table.inside r c set in
          absurd (⊎_elim (λ (past : square_side X ≤ r). omega (arith, within.0, rows, past)) (λ (past : square_side X ≤ c). omega (arith, within.1, columns, past)) out))
          (λ (clear : has_bit B r c ≡ false). clear)
          (cases_Bool (has_bit B r c))
