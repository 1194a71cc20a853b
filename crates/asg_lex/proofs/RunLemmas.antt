-- One cost gone through: left out, or made a level.
use Rattle.asg_lex.proofs.Common.{◌≡◌, ℕ, zero, suc, ◌+◌, ◌<◌, ◌≤◌, Bool, true, false, cond, not, ◌&&◌, List, [], ◌∷◌, ◌++◌, length, get_or, ℤ, ◌≤ℤ◌, is_some, IsSome, int_lt, int_le, Some, None, Option, int_eq, sym, refl, ap, ◌∙◌, subst, ⊎_elim, arith, Decides-int_eq, and_from, and_parts, cases_Bool, cases_lt, false≢true, get_or_default, ints, none-some, not_from_false, option_map_or, same_Some, BitTable, has_bit, LeavesOut, TakesLevel, is_gone, before_of, left_of, AreMarksOf, Work, grade_of, free_grade, cost_of, entry_of, entry_at, AreEntriesUnder, IsPlaceOf, IsMarked, MarksFewer, Entry, Matches, IsPerfect, has_cell-within, IsInstance, Problem, square_side, Whole, Cost, bounded_difference, level_sums, counted_as, has_cost, without, is_after, is_between, left_for, left_after, level_square, numbers_of, is_zero, left_last, IsLeftAssignment, after_phases, Level, left_last-is, AreProvedFrom-push, last_cost-push, left_so_far-push, is_some-phases, square_cell, Grid, cell_at, IsSquareOf, has_cell}
use Rattle.asg_lex.proofs.LevelLinks.{proved_level, marked_is}
use Rattle.asg_lex.proofs.RunSteps.{passes_at, passes_some, has_cost_by, below_bound, grade_some, cell_from, named_from, left_is, stays_is}
use Rattle.asg_lex.proofs.WorkSteps.{ArePhasesSoFar}
use Rattle.asg_bit_rows.specs.laws.Words.{same_bool}

upto_cost : (m n : ℕ) (v : ℤ) → m < n → cost_of n ≤ℤ v → cost_of m ≤ℤ v
upto_cost m n v h k = omega (arith, ints, h, k)

same_cost : (m n : ℕ) → cost_of m ≡ cost_of n → m ≡ n
same_cost m n e = omega (arith, ints, e)

after_it : (m n : ℕ) (v : ℤ) → m < n → cost_of n ≤ℤ v → int_lt (cost_of m) v ≡ true
after_it m n v h k = grind (arith, ints, h, k)

le_self : (m : ℕ) → int_le (cost_of m) (cost_of m) ≡ true
le_self m = grind (arith, ints)

module _ (X : Problem) (instance : IsInstance X) (presence : (enter : Cost → Bool) (r c : ℕ) → is_some (square_cell X false enter r c) ≡ has_cell X Whole r c)
    (Q : Grid ℕ) (square : IsSquareOf X free_grade grade_of Q) (limit : ℕ) (entries : List Entry) (are : AreEntriesUnder Q limit entries) (bound grade from to last : ℕ) (reach : bound ≤ limit)
    (upper : IsPlaceOf entries bound to) (lower : IsPlaceOf entries grade from) (end : last + 1 ≡ to) (is : (entry_at entries last).grade ≡ grade)
    (levels : List Level) (marks : BitTable) (so : AreMarksOf X (square_side X) bound levels marks)
  where
    side_is : Q.side ≡ square_side X
    side_is = square.labels.side

    below : grade < bound
    below = below_bound Q limit entries are bound grade from to last reach upper lower end is

    -- a cell of the grade has its cost, and no other has
    costs_it : (r c : ℕ) → cell_at Q r c ≡ Some grade → has_cost X (λ a. int_eq a (cost_of grade)) r c ≡ true
    costs_it r c cell =
        has_cost_by (λ a. int_eq a (cost_of grade)) X instance Q square r c
        ∙ ap (λ o. option_map_or (passes_at (λ a. int_eq a (cost_of grade))) o false) cell
        ∙ some grade (grade_some Q limit entries are bound grade from to last reach upper lower end is)
      where
        some : (g : ℕ) → 0 < g → passes_at (λ a. int_eq a (cost_of g)) g ≡ true
        some g h = passes_some (λ a. int_eq a (cost_of g)) g h ∙ (Decides-int_eq (cost_of g) (cost_of g)).1 refl

    of_it : (r c : ℕ) → has_cost X (λ a. int_eq a (cost_of grade)) r c ≡ true → cell_at Q r c ≡ Some grade
    of_it r c e = at (cell_at Q r c) refl (sym (has_cost_by (λ a. int_eq a (cost_of grade)) X instance Q square r c) ∙ e)
      where
        by_grade : (g : ℕ) → passes_at (λ a. int_eq a (cost_of grade)) g ≡ true → g ≡ grade
        by_grade zero e = absurd (false≢true e)
        by_grade (suc g) e = same_cost (suc g) grade ((Decides-int_eq (cost_of (suc g)) (cost_of grade)).0 (sym (passes_some (λ a. int_eq a (cost_of grade)) (suc g) (omega arith)) ∙ e))

        at : (o : Option ℕ) → cell_at Q r c ≡ o → option_map_or (passes_at (λ a. int_eq a (cost_of grade))) o false ≡ true → cell_at Q r c ≡ Some grade
        at None is e = absurd (false≢true e)
        at (Some g) is e = is ∙ ap Some (by_grade g e)

    after_before : (before : Option ℤ) → ((v : ℤ) → before ≡ Some v → cost_of bound ≤ℤ v) → is_after before (cost_of grade) ≡ true
    after_before None order = refl
    after_before (Some v) order = after_it grade bound v below (order v refl)

    after : is_after (before_of levels) (cost_of grade) ≡ true
    after = after_before (before_of levels) so.order

    gone_it : (r c : ℕ) → cell_at Q r c ≡ Some grade → has_cost X (is_gone (before_of levels) grade) r c ≡ true
    gone_it r c cell =
        has_cost_by (is_gone (before_of levels) grade) X instance Q square r c
        ∙ ap (λ o. option_map_or (passes_at (is_gone (before_of levels) grade)) o false) cell
        ∙ some grade (grade_some Q limit entries are bound grade from to last reach upper lower end is) (and_from (is_after (before_of levels) (cost_of grade)) (int_le (cost_of grade) (cost_of grade)) after (le_self grade))
      where
        some : (g : ℕ) → 0 < g → is_gone (before_of levels) grade (cost_of g) ≡ true → passes_at (is_gone (before_of levels) grade) g ≡ true
        some g h e = passes_some (is_gone (before_of levels) grade) g h ∙ e

    inside : (r c : ℕ) → left_of X levels r c ≡ true → (r < Q.side) × (c < Q.side)
    inside r c e =
        let both = has_cell-within X Whole r c (so.present r c e) in (
          subst (λ n. r < n) (sym side_is) both.0,
          subst (λ n. c < n) (sym side_is) both.1,
        )

    -- the cost left out
    pub marks_out : (marks_after : BitTable) → LeavesOut (square_side X) marks marks_after entries from to → AreMarksOf X (square_side X) grade levels marks_after
    marks_out marks_after out = record {
      proved = so.proved;
      present = so.present;
      marked = λ r c. (
        λ marked.
            let was = (out r c).0 marked in
            let hr = subst (λ n. r < n) (sym side_is) marked.row in
            let hc = subst (λ n. c < n) (sym side_is) marked.column in
            sym (stays_is Q limit entries are bound grade from to last reach upper lower end is (before_of levels) X instance square (left_of X levels) r c hr hc
            (λ cell. was.1 (named_from Q limit entries are bound grade from to last reach upper lower end is r c hr hc cell)))
            ∙ (so.marked r c).0 was.0,
        λ e.
            let parts = and_parts (left_of X levels r c) (not (has_cost X (is_gone (before_of levels) grade) r c)) e in
            let within = inside r c parts.0 in
            let other : (cell_at Q r c ≡ Some grade → ⊥) = λ cell. false≢true (sym (ap not (gone_it r c cell)) ∙ parts.1) in
            (out r c).1 (
              (so.marked r c).1 (stays_is Q limit entries are bound grade from to last reach upper lower end is (before_of levels) X instance square (left_of X levels) r c within.0 within.1 other ∙ e),
              λ n. other (cell_from Q limit entries are bound grade from to last reach upper lower end is r c n).2,
            ),
      );
      order = λ v e. upto_cost grade bound v below (so.order v e);
    }

    -- ---- the cost made a level

    module _ (before after_work : Work) (level : Level) (marks_are : before.marks.bits ≡ marks) (takes : TakesLevel (square_side X) before after_work entries from to)
        (cost : level.cost ≡ cost_of grade) (count : level.count ≡ length level.phases) (phases : after_work.phases.items ≡ level.phases)
      where
        so_far : ArePhasesSoFar (square_side X) after_work.zeros after_work.ones after_work.marks.bits after_work.ins.items after_work.outs.items level.phases
        so_far =
            subst (ArePhasesSoFar (square_side X) after_work.zeros after_work.ones after_work.marks.bits after_work.ins.items after_work.outs.items) phases
            (record { counted = record { units = record { plain = takes.underway.plain; admitted = takes.underway.admitted; index = takes.underway.index }; duals = takes.underway.duals }; zeros_marked = takes.underway.marks })

        for_it : (r c : ℕ) → left_for X (before_of levels) (left_of X levels) level r c ≡ without X (is_between (before_of levels) (cost_of grade)) (left_of X levels) r c
        for_it r c = ap (λ v. without X (is_between (before_of levels) v) (left_of X levels) r c) cost

        left_for_left : (r c : ℕ) → left_for X (before_of levels) (left_of X levels) level r c ≡ true → left_of X levels r c ≡ true
        left_for_left r c e = (and_parts (left_of X levels r c) (not (has_cost X (is_between (before_of levels) level.cost) r c)) e).0

        marked_bit : (r c : ℕ) → has_bit marks r c ≡ true → IsMarked marks (square_side X) r c
        marked_bit r c e =
            let within = takes.underway.ones.inside r c (ap (λ B. has_bit B r c) (takes.ones ∙ marks_are) ∙ e) in
            record { row = within.0; column = within.1; bit = e }

        -- the bits that were marked are what is left for the level
        ones_are : (r c : ℕ) → has_bit marks r c ≡ left_for X (before_of levels) (left_of X levels) level r c
        ones_are r c =
            same_bool (has_bit marks r c) (left_for X (before_of levels) (left_of X levels) level r c)
            (λ e.
            let marked = marked_bit r c e in
            for_it r c ∙ sym (left_is Q limit entries are bound grade from to last reach upper lower end is (before_of levels) X instance square (left_of X levels) r c (subst (λ n. r < n) (sym side_is) marked.row) (subst (λ n. c < n) (sym side_is) marked.column)) ∙ (so.marked r c).0 marked)
            (λ e.
            let within = inside r c (left_for_left r c e) in
            ((so.marked r c).1 (left_is Q limit entries are bound grade from to last reach upper lower end is (before_of levels) X instance square (left_of X levels) r c within.0 within.1 ∙ sym (for_it r c) ∙ e)).bit)

        fewer : MarksFewer marks after_work.zeros entries from to
        fewer = subst (λ B. MarksFewer B after_work.zeros entries from to) marks_are takes.zeros

        zeros_are : (r c : ℕ) → has_bit after_work.zeros r c ≡ (left_for X (before_of levels) (left_of X levels) level r c && not (has_cost X (λ a. int_eq a level.cost) r c))
        zeros_are r c =
            same_bool (has_bit after_work.zeros r c) (left_for X (before_of levels) (left_of X levels) level r c && not (has_cost X (λ a. int_eq a level.cost) r c))
            (λ e.
            let both = (fewer r c).0 e in
            let marked = marked_bit r c both.0 in
            and_from (left_for X (before_of levels) (left_of X levels) level r c) (not (has_cost X (λ a. int_eq a level.cost) r c))
            (sym (ones_are r c) ∙ both.0)
            (none r c (λ has. both.1 (named_from Q limit entries are bound grade from to last reach upper lower end is r c (subst (λ n. r < n) (sym side_is) marked.row) (subst (λ n. c < n) (sym side_is) marked.column) (of_it r c (sym (ap (λ v. has_cost X (λ a. int_eq a v) r c) cost) ∙ has))))))
            (λ e.
            let parts = and_parts (left_for X (before_of levels) (left_of X levels) level r c) (not (has_cost X (λ a. int_eq a level.cost) r c)) e in
            (fewer r c).1 (
              ones_are r c ∙ parts.0,
              λ n. false≢true (sym (ap not (ap (λ v. has_cost X (λ a. int_eq a v) r c) cost ∙ costs_it r c (cell_from Q limit entries are bound grade from to last reach upper lower end is r c n).2)) ∙ parts.1),
            ))
          where
            none : (r c : ℕ) → (has_cost X (λ a. int_eq a level.cost) r c ≡ true → ⊥) → not (has_cost X (λ a. int_eq a level.cost) r c) ≡ true
            none r c lacks =
                ⊎_elim (λ (has : has_cost X (λ a. int_eq a level.cost) r c ≡ true). absurd (lacks has)) (λ (hasnt : has_cost X (λ a. int_eq a level.cost) r c ≡ false). not_from_false (has_cost X (λ a. int_eq a level.cost) r c) hasnt) (cases_Bool (has_cost X (λ a. int_eq a level.cost) r c))

        there : (r c : ℕ) → left_for X (before_of levels) (left_of X levels) level r c ≡ true → IsSome (square_cell X false (λ cost. int_eq cost.a level.cost) r c)
        there r c e = presence (λ cost. int_eq cost.a level.cost) r c ∙ so.present r c (left_for_left r c e)

        ones_bits : (r c : ℕ) → has_bit after_work.ones r c ≡ left_for X (before_of levels) (left_of X levels) level r c
        ones_bits r c = ap (λ B. has_bit B r c) (takes.ones ∙ marks_are) ∙ ones_are r c

        zero_there : (o : Option ℕ) → is_zero o ≡ true → is_some o ≡ true
        zero_there None e = absurd (false≢true e)
        zero_there (Some x) e = refl

        if_there : (b : Bool) (o : Option ℕ) → is_some (cond b o None) ≡ true → b ≡ true
        if_there true o e = refl
        if_there false o e = absurd (false≢true e)

        left_after_left : (r c : ℕ) → left_after X (before_of levels) (left_of X levels) level r c ≡ true → left_of X levels r c ≡ true
        left_after_left r c e =
            let cells = level_square X (left_for X (before_of levels) (left_of X levels) level) level.cost in
            let some = zero_there (after_phases level_sums bounded_difference (numbers_of level.phases) cells r c) e in
            left_for_left r c
            (if_there (left_for X (before_of levels) (left_of X levels) level r c) (square_cell X 0 (counted_as level.cost) r c)
            (sym (is_some-phases level_sums bounded_difference (numbers_of level.phases) cells r c) ∙ some))

        never : (before : Option ℤ) → before ≡ Some (cost_of grade) → (z : ℤ) → is_gone before grade z ≡ false
        never None e z = absurd (none-some (cost_of grade) e)
        never (Some v) e z = not_both z v (cost_of grade) (same_Some v (cost_of grade) e)
          where
            not_both : (z v w : ℤ) → v ≡ w → (int_lt z v && int_le w z) ≡ false
            not_both z v w e = grind (arith, ints, e)

        none_gone : (before : Option ℤ) → before ≡ Some (cost_of grade) → (left : ℕ → ℕ → Bool) (r c : ℕ) → without X (is_gone before grade) left r c ≡ left r c
        none_gone before e left r c =
            ap (λ b. left r c && not b) (has_cost_by (is_gone before grade) X instance Q square r c ∙ at (cell_at Q r c)) ∙ and_true (left r c)
          where
            by_grade : (g : ℕ) → passes_at (is_gone before grade) g ≡ false
            by_grade zero = refl
            by_grade (suc g) = passes_some (is_gone before grade) (suc g) (omega arith) ∙ never before e (cost_of (suc g))

            at : (o : Option ℕ) → option_map_or (passes_at (is_gone before grade)) o false ≡ false
            at None = refl
            at (Some g) = by_grade g

            and_true : (b : Bool) → (b && true) ≡ b
            and_true true = refl
            and_true false = refl

        last_is : before_of (levels ++ level ∷ []) ≡ Some (cost_of grade)
        last_is = last_cost-push None levels level ∙ ap Some cost

        left_now : left_of X (levels ++ level ∷ []) ≡ left_after X (before_of levels) (left_of X levels) level
        left_now = left_so_far-push X None (has_cell X Whole) levels level

        pub marks_level : AreMarksOf X (square_side X) grade (levels ++ level ∷ []) after_work.marks.bits
        marks_level = record {
          proved =
              AreProvedFrom-push X None (has_cell X Whole) levels level so.proved
              (proved_level X (before_of levels) (left_of X levels) level after_work.zeros after_work.ones there zeros_are ones_bits after_work.marks.bits after_work.ins.items after_work.outs.items so_far
              (ap (is_after (before_of levels)) cost ∙ after) (subst (λ n. 1 ≤ n) (sym count) (subst (λ xs. 1 ≤ length xs) phases takes.some)) count);
          present = λ r c e. so.present r c (left_after_left r c (sym (ap (λ left. left r c) left_now) ∙ e));
          marked = λ r c.
              let left = marked_is X (before_of levels) (left_of X levels) level after_work.zeros after_work.ones there zeros_are ones_bits after_work.marks.bits after_work.ins.items after_work.outs.items so_far r c in
              let same = none_gone (before_of (levels ++ level ∷ [])) last_is (left_of X (levels ++ level ∷ [])) r c ∙ ap (λ left. left r c) left_now in (
                λ marked. same ∙ left.0 marked,
                λ e. left.1 (sym same ∙ e),
              );
          order = λ v e. subst (λ w. cost_of grade ≤ℤ w) (same_Some (cost_of grade) v (sym last_is ∙ e)) (le_cost grade);
        }
          where
            le_cost : (n : ℕ) → cost_of n ≤ℤ cost_of n
            le_cost n = omega (arith, ints)

-- ---- all costs gone through

module _ (X : Problem) (instance : IsInstance X) (presence : (enter : Cost → Bool) (r c : ℕ) → is_some (square_cell X false enter r c) ≡ has_cell X Whole r c)
    (Q : Grid ℕ) (square : IsSquareOf X free_grade grade_of Q) (limit : ℕ) (entries : List Entry) (are : AreEntriesUnder Q limit entries) (bound : ℕ) (reach : bound ≤ limit) (upper : IsPlaceOf entries bound 0)
    (levels : List Level) (marks : BitTable) (so : AreMarksOf X (square_side X) bound levels marks)
  where
    low_cost : (g : ℕ) → bound ≤ g → int_le (cost_of bound) (cost_of g) ≡ true
    low_cost g h = grind (arith, ints, h)

    and_one : (a x : Bool) → x ≡ true → (a && x) ≡ a
    and_one true x e = e
    and_one false x e = refl

    -- each live cell has a grade from the bound on
    from_bound : (r c g : ℕ) → r < Q.side → c < Q.side → 0 < g → cell_at Q r c ≡ Some g → bound ≤ g
    from_bound r c g hr hc live cell =
        ⊎_elim
        (λ (under : g < limit).
        let has = are.every r c g hr hc live under cell in
        let same = get_or_default entries has.0 (entry_of 0 0 0) (entry_of g r c) has.1 ∙ has.2 in
        subst (λ n. bound ≤ n) (ap (λ (e : Entry). e.grade) same) (upper.from has.0 (omega arith) has.1))
        (λ (past : limit ≤ g). omega (arith, past, reach))
        (cases_lt g limit)

    all_gone : (r c : ℕ) → r < Q.side → c < Q.side → has_cost X (is_gone (before_of levels) bound) r c ≡ has_cost X (is_after (before_of levels)) r c
    all_gone r c hr hc =
        has_cost_by (is_gone (before_of levels) bound) X instance Q square r c ∙ at (cell_at Q r c) refl ∙ sym (has_cost_by (is_after (before_of levels)) X instance Q square r c)
      where
        by_grade : (g : ℕ) → cell_at Q r c ≡ Some g → passes_at (is_gone (before_of levels) bound) g ≡ passes_at (is_after (before_of levels)) g
        by_grade zero e = refl
        by_grade (suc g) e =
            passes_some (is_gone (before_of levels) bound) (suc g) (omega arith)
            ∙ and_one (is_after (before_of levels) (cost_of (suc g))) (int_le (cost_of bound) (cost_of (suc g))) (low_cost (suc g) (from_bound r c (suc g) hr hc (omega arith) e))
            ∙ sym (passes_some (is_after (before_of levels)) (suc g) (omega arith))

        at : (o : Option ℕ) → cell_at Q r c ≡ o → option_map_or (passes_at (is_gone (before_of levels) bound)) o false ≡ option_map_or (passes_at (is_after (before_of levels))) o false
        at None e = refl
        at (Some g) e = by_grade g e

    -- what is marked is left in the end
    left_in_end : (r c : ℕ) → IsMarked marks (square_side X) r c → left_last X None (has_cell X Whole) levels r c ≡ true
    left_in_end r c marked =
        let hr = subst (λ n. r < n) (sym square.labels.side) marked.row in
        let hc = subst (λ n. c < n) (sym square.labels.side) marked.column in
        ap (λ left. left r c) (left_last-is X None (has_cell X Whole) levels)
        ∙ ap (λ b. left_of X levels r c && not b) (sym (all_gone r c hr hc))
        ∙ (so.marked r c).0 marked

    both_there : (b : Bool) (o : Option Bool) → b ≡ true → is_some o ≡ true → is_some (cond b o None) ≡ true
    both_there true o e h = h
    both_there false o e h = absurd (false≢true e)

    -- the columns of a perfect matching by marked cells
    pub left_assignment : (m : List (Option ℕ)) (p : List ℕ) → IsPerfect (IsMarked marks (square_side X)) (square_side X) m → length p ≡ square_side X → ((r : ℕ) → r < square_side X → Matches m r (get_or p r 0)) → IsLeftAssignment X p levels
    left_assignment m p perfect count matches = record {
      over = count;
      apart = λ i j d before within e.
          let hj : j < square_side X = subst (λ n. j < n) count within in
          let hi : i < square_side X = omega (arith, before, hj) in
          let at_i = matches i hi in
          let at_j = matches j hj in
          let same = get_or_default p i d 0 (subst (λ n. i < n) (sym count) hi) in
          let other = get_or_default p j d 0 within in
          let columns : get_or p i 0 ≡ get_or p j 0 = sym same ∙ e ∙ other in
          absurd (omega (arith, before, perfect.columns.apart i j (get_or p j 0) (subst (Matches m i) columns at_i) at_j));
      present = λ r h.
          let c = get_or p r 0 in
          let marked = perfect.cells r c (matches r h) in
          let left = left_in_end r c marked in
          let present = so.present r c ((and_parts (left_of X levels r c) (not (has_cost X (is_gone (before_of levels) bound) r c)) ((so.marked r c).0 marked)).0) in
          both_there (left_last X None (has_cell X Whole) levels r c) (square_cell X false (λ cost. true) r c) left (presence (λ cost. true) r c ∙ present);
    }
