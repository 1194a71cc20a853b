-- A walk over all levels: one level more, what is left in the end, and whether they hold in all.
use Rattle.asg_verdicts.proofs.LevelCommon.{◌≡◌, ℕ, ◌+◌, ◌<◌, ◌≤◌, Bool, true, false, cond, not, ◌&&◌, ◌↔◌, List, [], ◌∷◌, ◌++◌, length, get_or, take, ℤ, is_some, slice_get, unsigned_abs, int_lt, Some, None, Option, sym, refl, ap, ◌∙◌, subst, arith, take_all, and_parts, false≢true, ints, option_map_or, same_Some, slice_get-get_or, take_more, BitTable, has_bit, IsColumnList, IsNoLevelAt, cost_before, left_before, HasPassed, IsBehind, IsLeft, free_cost, Walk, IsInstance, most_cost, Problem, square_side, Cost, bounded_difference, IsLevel, IsLeftAssignment, counted_as, has_cost, is_after, is_between, is_zero, last_cost, left_after, left_for, left_last, left_so_far, level_square, level_sums, numbers_of, without, after_phases, Level, is_some-phases, square_cell}
use Rattle.asg_model.specs.declared.bands.Band.TheVariants.{Whole}
use Rattle.asg_square.specs.Presence.{has_cell}
use Rattle.asg_proof.specs.laws.LevelTurns.{last_cost-push, left_last-is, left_so_far-push}
use Rattle.asg_verdicts.specs.laws.Parts.{none_more}
use Rattle.asg_verdicts.proofs.LevelCells.{cell_mapped, mapped_or}

-- ---- one level more

module _ (X : Problem) (perm : List ℕ) (levels : List Level) (n : ℕ) (level : Level) (below : n < length levels) (at : level ≡ get_or levels n level) where
  taken : take (n + 1) levels ≡ take n levels ++ level ∷ []
  taken = take_more levels n level below ∙ ap (λ l. take n levels ++ l ∷ []) (sym at)

  cost_next : cost_before levels (n + 1) ≡ Some level.cost
  cost_next = ap (last_cost None) taken ∙ last_cost-push None (take n levels) level

  left_next : left_before X levels (n + 1) ≡ left_after X (cost_before levels n) (left_before X levels n) level
  left_next = ap (left_so_far X None (has_cell X Whole)) taken ∙ left_so_far-push X None (has_cell X Whole) (take n levels) level

  its_place : slice_get levels n ≡ Some level
  its_place = slice_get-get_or levels n level below ∙ ap Some (sym at)

  -- the level is none
  pub none_there : ¬ IsLevel X perm (cost_before levels n) (left_before X levels n) level → IsNoLevelAt X perm levels n
  none_there fails = record { level = level; there = its_place; fails = fails }

  -- the level is one, and the walk stands behind it
  pub passed_next : (before after : Walk) → HasPassed X perm levels n before → IsLevel X perm (cost_before levels n) (left_before X levels n) level
      → IsBehind X (Some level.cost) (left_after X (cost_before levels n) (left_before X levels n) level) after → HasPassed X perm levels (n + 1) after
  passed_next before after passed is behind = record {
    none = none_more (IsNoLevelAt X perm levels) n passed.none still;
    behind = record {
      left_is = subst (λ left. IsLeft (square_side X) left after.left) (sym left_next) behind.left_is;
      before_is = behind.before_is ∙ sym cost_next;
    };
  }
    where
      still : IsNoLevelAt X perm levels n → ⊥
      still one = one.fails (subst (IsLevel X perm (cost_before levels n) (left_before X levels n)) (same_Some level one.level (sym its_place ∙ one.there)) is)

-- ---- what is left in the end

above_free : (a : ℤ) → unsigned_abs a ≤ most_cost → int_lt free_cost a ≡ true
above_free a near = grind (arith, ints, near)

module _ (X : Problem) (instance : IsInstance X) (p q : ℤ → Bool) (same : (a : ℤ) → unsigned_abs a ≤ most_cost → p a ≡ q a) where
  -- tests that agree on costs in range find the same cells
  pub has_cost_same : (r c : ℕ) → has_cost X p r c ≡ has_cost X q r c
  has_cost_same r c =
      mapped_or (λ (b : Bool). b) (square_cell X false (λ cost. p cost.a) r c)
      ∙ ap (λ o. option_map_or (λ b. b) o false) (cell_mapped X instance (λ (b : Bool). b) false (λ cost. p cost.a) false (λ cost. q cost.a) refl (λ cost near. same cost.a near) r c)

module _ (X : Problem) (instance : IsInstance X) (levels : List Level) where
  and_true : (b other : Bool) → other ≡ true → (b && other) ≡ b
  and_true true other e = e
  and_true false other e = refl

  -- no cost is less than the least: what is between the last and it is all after the last
  pub in_the_end : (bits : BitTable)
      → IsLeft (square_side X) (without X (is_between (cost_before levels (length levels)) free_cost) (left_before X levels (length levels))) bits
      → IsLeft (square_side X) (left_last X None (has_cell X Whole) levels) bits
  in_the_end bits is =
      let all : take (length levels) levels ≡ levels = take_all (length levels) levels (omega arith) in
      let before = cost_before levels (length levels) in
      let left = left_before X levels (length levels) in
      let ends : without X (is_after before) left ≡ left_last X None (has_cell X Whole) levels =
      ap (λ ls. without X (is_after (last_cost None ls)) (left_so_far X None (has_cell X Whole) ls)) all ∙ sym (left_last-is X None (has_cell X Whole) levels) in
      record {
        rows = is.rows;
        columns = is.columns;
        each = λ r c hr hc.
            is.each r c hr hc
            ∙ ap (λ b. left r c && not b) (has_cost_same X instance (is_between before free_cost) (is_after before) (λ a near. and_true (is_after before a) (int_lt free_cost a) (above_free a near)) r c)
            ∙ ap (λ (cells : ℕ → ℕ → Bool). cells r c) ends;
      }

-- ---- what is left is present

module _ (X : Problem) (present : (enter : Cost → ℕ) (r c : ℕ) → is_some (square_cell X 0 enter r c) ≡ has_cell X Whole r c) where
  zero_there : (o : Option ℕ) → is_zero o ≡ true → is_some o ≡ true
  zero_there None e = absurd (false≢true e)
  zero_there (Some x) e = refl

  kept_there : {V : Type 0} (b : Bool) (o : Option V) → is_some (cond b o None) ≡ true → is_some o ≡ true
  kept_there true o e = e
  kept_there false o e = absurd (false≢true e)

  there_after : (before : Option ℤ) (left : ℕ → ℕ → Bool) (level : Level) (r c : ℕ) → left_after X before left level r c ≡ true → has_cell X Whole r c ≡ true
  there_after before left level r c e =
      let square = level_square X (left_for X before left level) level.cost in
      let some = sym (is_some-phases level_sums bounded_difference (numbers_of level.phases) square r c) ∙ zero_there (after_phases level_sums bounded_difference (numbers_of level.phases) square r c) e in
      sym (present (counted_as level.cost) r c) ∙ kept_there (left_for X before left level r c) (square_cell X 0 (counted_as level.cost) r c) some

  there_last : (levels : List Level) (before : Option ℤ) (left : ℕ → ℕ → Bool) → ((r c : ℕ) → left r c ≡ true → has_cell X Whole r c ≡ true)
      → (r c : ℕ) → left_last X before left levels r c ≡ true → has_cell X Whole r c ≡ true
  there_last [] before left each r c e = each r c (and_parts (left r c) (not (has_cost X (is_after before) r c)) e).0
  there_last (level ∷ rest) before left each r c e = there_last rest (Some level.cost) (left_after X before left level) (there_after before left level) r c e

-- ---- whether they hold in all

module _ (X : Problem) (present : (enter : Cost → ℕ) (r c : ℕ) → is_some (square_cell X 0 enter r c) ≡ has_cell X Whole r c) (perm : List ℕ) (levels : List Level) (cells : (r c : ℕ) → is_some (square_cell X false (λ cost. true) r c) ≡ has_cell X Whole r c) where
  both_there : (b : Bool) (o : Option Bool) → b ≡ true → is_some o ≡ true → is_some (cond b o None) ≡ true
  both_there true o e h = h
  both_there false o e h = absurd (false≢true e)

  only_left : (b : Bool) (o : Option Bool) → is_some (cond b o None) ≡ true → b ≡ true
  only_left true o e = refl
  only_left false o e = absurd (false≢true e)

  -- a list of different columns is an assignment by what is left, where each of its cells is left
  pub left_by_bits : (bits : BitTable) → IsColumnList X perm → IsLeft (square_side X) (left_last X None (has_cell X Whole) levels) bits
      → ((r : ℕ) → r < length perm → has_bit bits r (get_or perm r 0) ≡ true) ↔ IsLeftAssignment X perm levels
  left_by_bits bits columns is = (
    λ each. record {
      over = columns.over;
      apart = columns.apart;
      present = λ r h.
          let here : r < length perm = subst (λ n. r < n) (sym columns.over) h in
          let left = sym (is.each r (get_or perm r 0) h (columns.within r 0 here)) ∙ each r here in
          both_there (left_last X None (has_cell X Whole) levels r (get_or perm r 0)) (square_cell X false (λ cost. true) r (get_or perm r 0)) left
          (cells r (get_or perm r 0) ∙ there_last X present levels None (has_cell X Whole) (λ s d e. e) r (get_or perm r 0) left);
    },
    λ a r here.
        let h : r < square_side X = subst (λ n. r < n) columns.over here in
        is.each r (get_or perm r 0) h (columns.within r 0 here)
        ∙ only_left (left_last X None (has_cell X Whole) levels r (get_or perm r 0)) (square_cell X false (λ cost. true) r (get_or perm r 0)) (a.present r h),
  )
