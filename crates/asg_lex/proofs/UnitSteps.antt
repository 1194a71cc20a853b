-- A step by 1 over the rows of a stuck tree is admitted; marks of the cells that are 0, and matched
-- cells, after it.
use Rattle.asg_lex.proofs.Common.{◌≡◌, ℕ, zero, suc, ◌+◌, ◌<◌, Bool, true, false, not, ltb, leb, ◌≢◌, ◌↔◌, List, length, get_or, is_some, nat_le, Some, All, Contains, Option, option_map, AllPairs, sym, refl, ap, ◌∙◌, subst, arith, eqb-true, All-contains, Decides-eqb, false≢true, nat_tests, BitTable, has_bit, is_tight, AreDuals, unit_phase, entered_test, staying_test, tight_where, zero_where, MarksZeros, SplitsTree, IsStuck, Matches, IsMatching, bounded_difference, level_sums, entered_at, staying_at, after_phase, AreAdmittedSteps, IsAdmittedPhase, moved, count_below, HasSide}
use Rattle.asg_proof.specs.laws.CountsBelow.{count_below-list, count_below-not}

module _ (allows : ℕ → ℕ → Type 0) (side : ℕ) (m : List (Option ℕ)) (root : ℕ) (rows enters leaves : List ℕ) (matching : IsMatching m) (matching_side : length m ≡ side)
    (stuck : IsStuck allows m root rows) (below : All (λ r. r < side) rows) (apart : AllPairs ◌≢◌ rows) (split : SplitsTree side m rows enters leaves)
  where
    entered_is : (r : ℕ) → (entered_at enters 0 r ≡ true) ↔ (get_or enters r 0 ≡ 0)
    entered_is r = (λ e. zero_of (get_or enters r 0) e, λ e. of_zero (get_or enters r 0) e)
      where
        zero_of : (x : ℕ) → leb x 0 ≡ true → x ≡ 0
        zero_of x e = grind (arith, nat_tests, e)

        of_zero : (x : ℕ) → x ≡ 0 → leb x 0 ≡ true
        of_zero x e = grind (arith, nat_tests, e)

    staying_is : (c : ℕ) → (not (staying_at leaves 0 c) ≡ true) ↔ (get_or leaves c 0 ≡ 0)
    staying_is c = (λ e. zero_of (get_or leaves c 0) e, λ e. of_zero (get_or leaves c 0) e)
      where
        zero_of : (x : ℕ) → not (ltb 0 x) ≡ true → x ≡ 0
        zero_of x e = grind (arith, nat_tests, e)

        of_zero : (x : ℕ) → x ≡ 0 → not (ltb 0 x) ≡ true
        of_zero x e = grind (arith, nat_tests, e)

    rows_counted : count_below (entered_at enters 0) side ≡ length rows
    rows_counted =
        count_below-list (entered_at enters 0) side rows apart
        (λ q has.
        let h : q < side = All-contains (λ r. r < side) rows q below has in
        (h, (entered_is q).1 ((split.rows_are q h).1 has)))
        (λ q h passes. (split.rows_are q h).0 ((entered_is q).0 passes))

    columns_counted : count_below (λ c. not (staying_at leaves 0 c)) side + 1 ≡ length rows
    columns_counted =
        let columns = stuck.count.0 in
        let same = count_below-list (λ c. not (staying_at leaves 0 c)) side columns stuck.count.1.apart
        (λ q has.
        let w = (stuck.exact q).0 ((stuck.count.1.exact q).0 has) in
        let h : q < side = subst (λ n. q < n) matching_side (matching.below w.0 q w.2) in
        (h, (staying_is q).1 ((split.columns_are q h).1 w)))
        (λ q h passes. (stuck.count.1.exact q).1 ((stuck.exact q).1 ((split.columns_are q h).0 ((staying_is q).0 passes)))) in
        omega (arith, same, stuck.count.2)

    -- the rows of the tree and the columns that aren't theirs are one more than the side
    split_count : count_below (entered_at enters 0) side + count_below (staying_at leaves 0) side ≡ side + 1
    split_count = omega (arith, rows_counted, columns_counted, count_below-not (staying_at leaves 0) side)

    module _ (square : ℕ → ℕ → Option ℕ) (zeros_allowed : (r c : ℕ) → square r c ≡ Some 0 → allows r c) where
      -- no cell of the tree's rows in another column is 0
      positive : (r k x : ℕ) → r < side → k < side → entered_at enters 0 r ≡ true → staying_at leaves 0 k ≡ true → square r k ≡ Some x → nat_le 1 x ≡ true
      positive r k zero hr hk e s at =
          let in_tree = (split.rows_are r hr).0 ((entered_is r).0 e) in
          let column = (stuck.exact k).0 (r, in_tree, zeros_allowed r k at) in
          let left = (staying_is k).1 ((split.columns_are k hk).1 column) in
          absurd (false≢true (sym (ap not s) ∙ left))
      positive r k (suc x) hr hk e s at = one_le x
        where
          one_le : (x : ℕ) → nat_le 1 (suc x) ≡ true
          one_le x = grind (arith, nat_tests)

      -- the phase of one step by 1 over them is admitted
      pub unit_admitted : IsAdmittedPhase level_sums bounded_difference side (unit_phase enters leaves) square
      unit_admitted = record { rows = split.row_count; columns = split.column_count; admitted = steps }
        where
          steps : AreAdmittedSteps level_sums bounded_difference side (unit_phase enters leaves) square 1
          steps zero h = record { value = refl; count = split_count; least = positive }
          steps (suc t) h = absurd (omega (arith, h))

-- ---- the marks of the cells that are 0

-- marks by the counts are those of the cells that are 0
pub marks_zeros : (side count : ℕ) (zeros ones marks : BitTable) (ins outs : List ℕ) (square : ℕ → ℕ → Option ℕ) → HasSide side square → AreDuals side count zeros ones ins outs square
    → ((r c : ℕ) → r < side → has_bit marks r c ≡ is_tight zeros ones ins outs r c) → MarksZeros side marks square
marks_zeros side count zeros ones marks ins outs square within duals by r c = (
  λ marked. zero_where side count zeros ones ins outs square duals r c (sym (by r c marked.row) ∙ marked.bit),
  λ e.
      let inside = within r c (ap is_some e) in
      record { row = inside.0; column = inside.1; bit = by r c inside.0 ∙ tight_where side count zeros ones ins outs square duals r c e },
)

-- ---- matched cells stay

module _ (allows : ℕ → ℕ → Type 0) (side : ℕ) (m : List (Option ℕ)) (rows enters leaves : List ℕ) (square : ℕ → ℕ → Option ℕ) (matching : IsMatching m) (split : SplitsTree side m rows enters leaves) where
  stays : (e s : Bool) → e ≡ not s → moved level_sums bounded_difference e s 1 0 ≡ 0
  stays true true h = absurd (false≢true (sym h))
  stays true false h = refl
  stays false true h = refl
  stays false false h = absurd (false≢true h)

  same_test : (a b : Bool) → (a ≡ true → b ≡ true) → (b ≡ true → a ≡ true) → a ≡ b
  same_test true true f g = refl
  same_test true false f g = sym (f refl)
  same_test false true f g = g refl
  same_test false false f g = refl

  -- a matched row is in the step exactly where its column is out of it
  both_sides : (r c : ℕ) → r < side → c < side → Matches m r c → entered_at enters 0 r ≡ not (staying_at leaves 0 c)
  both_sides r c hr hc has =
      same_test (entered_at enters 0 r) (not (staying_at leaves 0 c))
      (λ e. staying_test (get_or leaves c 0) ∙ (Decides-eqb (get_or leaves c 0) 0).1 ((split.columns_are c hc).1 (r, (split.rows_are r hr).0 (eqb-true (get_or enters r 0) 0 (sym (entered_test (get_or enters r 0)) ∙ e)), has)))
      (λ e.
      let column = (split.columns_are c hc).0 (eqb-true (get_or leaves c 0) 0 (sym (staying_test (get_or leaves c 0)) ∙ e)) in
      let same : column.0 ≡ r = matching.apart column.0 r c column.2 has in
      entered_test (get_or enters r 0) ∙ (Decides-eqb (get_or enters r 0) 0).1 ((split.rows_are r hr).1 (subst (Contains rows) same column.1)))

  -- so its cell is as it was
  pub matched_stays : (r c : ℕ) → r < side → c < side → Matches m r c → square r c ≡ Some 0 → after_phase level_sums bounded_difference (unit_phase enters leaves) square r c ≡ Some 0
  matched_stays r c hr hc has e =
      ap (option_map (moved level_sums bounded_difference (entered_at enters 0 r) (staying_at leaves 0 c) 1)) e
      ∙ ap Some (stays (entered_at enters 0 r) (staying_at leaves 0 c) (both_sides r c hr hc has))
