-- The moves of a search over absorbed cells.
use Rattle.std.proofs.Common.{◌≡◌, ◌≢◌, ◌↔◌, ℕ, ◌<◌, Bool, true, false, not, List, [], ◌∷◌, ◌++◌, length, Option, Some, None, get_or, is_some, refl, sym, ◌∙◌, ap, subst, arith, ⊎_elim}
use Rattle.std.specs.Option.{option_map}
use Rattle.std.proofs.lemmas.Bool.{true≢false, false≢true, not_from_true, false_from_ne_true}
use Rattle.std.proofs.lemmas.List.{get_or_append_left}
use Rattle.std.proofs.lemmas.List.Elements.{Contains-get_or}
use Rattle.asg_match.specs.laws.Deficiency.{IsDeficient-from_tree}
use Rattle.asg_match.specs.laws.Matchings.{Matches-below}
use Rattle.asg_match.specs.laws.Trees.{IsTree-push, parent_cases}
use Rattle.asg_match.specs.Matching.{Matches, AllAllowed}
use Rattle.asg_match.specs.Alternating.{HasParent}
use Rattle.asg_match.specs.Flipped.{Flips}
use Rattle.asg_match.specs.Deficient.{IsDeficient}
use Rattle.asg_order.specs.Monoid.{Monoid, IsValue, IsLe, IsOrderedMonoid}
use Rattle.asg_order.specs.Differences.{HasDifferences}
use Rattle.asg_order.specs.laws.Orders.{reflexive}
use Rattle.asg_order.specs.laws.Products.{neutral_right}
use Rattle.asg_proof.specs.Steps.{moved, stepped, IsAdmittedStep, HasValues}
use Rattle.asg_square.specs.Cells.{IsPresent}
use Rattle.asg_proof.specs.laws.Stepped.{HasValues-stepped}
use Rattle.asg_growth.specs.Growing.{IsAbsorbed, IsSplit, IsGrowing}
use Rattle.asg_growth.specs.laws.SplitCounts.{matched_both, split_count}

module _ {V : Type 0} (M : Monoid V) (laws : IsOrderedMonoid M) (difference : V → V → V) (has : HasDifferences M difference) where
  -- the difference of a value from itself is the unit
  pub difference_of_itself : (c : V) → IsValue M c → difference c c ≡ M.unit
  difference_of_itself c vc =
      let vd = has.difference_is_value c c vc vc in
      laws.antisymmetric (difference c c) M.unit vd laws.unit_is_value
      ((has.least c c M.unit vc vc laws.unit_is_value).1 (subst (IsLe M c) (sym (neutral_right M laws c vc)) (reflexive M laws c vc)))
      (laws.unit_least (difference c c) vd)

  -- what an index absorbs, a greater one absorbs
  pub absorbed_on : (z c x : V) → IsValue M z → IsValue M c → IsValue M x → M.product z x ≡ z → M.product (M.product z c) x ≡ M.product z c
  absorbed_on z c x vz vc vx e =
      laws.associative z c x vz vc vx
      ∙ ap (M.product z) (laws.commutative c x vc vx)
      ∙ sym (laws.associative z x c vz vx vc)
      ∙ ap (λ y. M.product y c) e

  -- a cell in I or in J but not in both stays
  stays : (e s : Bool) (c : V) (o : Option V) → s ≡ not e → option_map (moved M difference e s c) o ≡ o
  stays true true c o h = absurd (true≢false h)
  stays false false c o h = absurd (false≢true h)
  stays true false c None h = refl
  stays true false c (Some x) h = refl
  stays false true c None h = refl
  stays false true c (Some x) h = refl

  pub IsAbsorbed-stays : (side : ℕ) (square : ℕ → ℕ → Option V) (entered staying : ℕ → Bool) (z c : V) (r k : ℕ) → HasValues M side square → r < side → k < side → IsValue M z → IsValue M c → staying k ≡ not (entered r) → IsAbsorbed M z square r k → IsAbsorbed M (M.product z c) (stepped M difference entered staying c square) r k
  IsAbsorbed-stays side square entered staying z c r k values hr hk vz vc apart at = record {
    value = at.value;
    there = stays (entered r) (staying k) c (square r k) apart ∙ at.there;
    is = absorbed_on z c at.value vz vc (values r k at.value hr hk at.there) at.is;
  }

  -- the least cell becomes the unit, which every index absorbs
  least_becomes : (e s : Bool) (c : V) (o : Option V) → IsValue M c → e ≡ true → s ≡ true → o ≡ Some c → option_map (moved M difference e s c) o ≡ Some M.unit
  least_becomes true true c o vc he hs h = ap (option_map (λ x. difference x c)) h ∙ ap Some (difference_of_itself c vc)
  least_becomes true false c o vc he hs h = absurd (false≢true hs)
  least_becomes false s c o vc he hs h = absurd (false≢true he)

  pub IsAbsorbed-least : (square : ℕ → ℕ → Option V) (entered staying : ℕ → Bool) (z c : V) (r k : ℕ) → IsValue M z → IsValue M c → entered r ≡ true → staying k ≡ true → square r k ≡ Some c → IsAbsorbed M (M.product z c) (stepped M difference entered staying c square) r k
  IsAbsorbed-least square entered staying z c r k vz vc hr hk at = record {
    value = M.unit;
    there = least_becomes (entered r) (staying k) c (square r k) vc hr hk at;
    is = neutral_right M laws (M.product z c) (laws.product_is_value z c vz vc);
  }

  opposite : (e s : Bool) → ((e ≡ true) ↔ (s ≡ false)) → s ≡ not e
  opposite true true h = h.0 refl
  opposite true false h = refl
  opposite false true h = refl
  opposite false false h = absurd (false≢true (h.1 refl))

  module _ (side : ℕ) (square : ℕ → ℕ → Option V) (z : V) (m : List (Option ℕ)) (rows : List ℕ) (parents : ℕ → Option ℕ) (state : IsGrowing M side square z m rows parents) where
    column_below : (r k : ℕ) → Matches m r k → k < side
    column_below r k h = subst (λ n. k < n) state.matching_side (state.columns.below r k h)

    row_below : (r k : ℕ) → Matches m r k → r < side
    row_below r k h = subst (λ n. r < n) state.matching_side (Matches-below m r k h)

    parent_below : (k p : ℕ) → HasParent parents k p → k < side
    parent_below k p e = let f = state.tree.followed k p e in column_below (get_or rows f.place 0) k f.has

    place_within : (k p : ℕ) → HasParent parents k p → p < length rows
    place_within k p e = let f = state.tree.followed k p e in omega (arith, f.later, f.within)

    tree_row_below : (p : ℕ) → p < length rows → get_or rows p 0 < side
    tree_row_below p h = subst (λ n. get_or rows p 0 < n) state.matching_side (state.tree.below p 0 h)

    module _ (entered staying : ℕ → Bool) (split : IsSplit side rows parents entered staying) where
      -- a matched cell lies in I or in J, and not in both
      matched_apart : (r k : ℕ) → Matches m r k → staying k ≡ not (entered r)
      matched_apart r k h =
          let both = matched_both m rows parents state.columns state.tree r k h in
          let in_rows = split.rows_are r (row_below r k h) in
          let in_columns = split.columns_are k (column_below r k h) in
          opposite (entered r) (staying k) (λ e. in_columns.1 (both.0 (in_rows.0 e)), λ e. in_rows.1 (both.1 (in_columns.0 e)))

      -- a cell of the tree lies in I and not in J
      tree_apart : (k p : ℕ) → HasParent parents k p → staying k ≡ not (entered (get_or rows p 0))
      tree_apart k p e =
          let h = place_within k p e in
          let in_rows = (split.rows_are (get_or rows p 0) (tree_row_below p h)).1 (Contains-get_or rows p 0 h) in
          let in_columns = (split.columns_are k (parent_below k p e)).1 (ap (is_some {T = ℕ}) e) in
          in_columns ∙ sym (not_from_true (entered (get_or rows p 0)) in_rows)

      -- a value at most each present cell of I and J gives an admitted step
      pub IsAdmittedStep-from_tree : (c : V) → IsValue M c → ((r k : ℕ) (x : V) → r < side → k < side → entered r ≡ true → staying k ≡ true → square r k ≡ Some x → IsLe M c x) → IsAdmittedStep M side entered staying c square
      IsAdmittedStep-from_tree c vc least = record {
        value = vc;
        count = split_count m rows parents state.columns state.tree side entered staying state.matching_side split;
        least = least;
      }

      -- the step keeps the tree
      pub IsGrowing-step : (c : V) → IsValue M c → IsGrowing M side (stepped M difference entered staying c square) (M.product z c) m rows parents
      IsGrowing-step c vc = record {
        values = HasValues-stepped M laws difference has side entered staying c square vc state.values;
        index_is_value = laws.product_is_value z c state.index_is_value vc;
        matching_side = state.matching_side;
        columns = state.columns;
        tree = state.tree;
        tree_cells = λ k p e. IsAbsorbed-stays side square entered staying z c (get_or rows p 0) k state.values (tree_row_below p (place_within k p e)) (parent_below k p e) state.index_is_value vc (tree_apart k p e) (state.tree_cells k p e);
        matched_cells = λ r k h. IsAbsorbed-stays side square entered staying z c r k state.values (row_below r k h) (column_below r k h) state.index_is_value vc (matched_apart r k h) (state.matched_cells r k h);
      }

      -- where no cell of I and J is present, the rows have too few columns with present cells
      pub IsDeficient-from_none : ((r k : ℕ) → r < side → k < side → entered r ≡ true → staying k ≡ true → square r k ≡ None) → IsDeficient (λ r k. (k < side) × IsPresent square r k) side rows
      IsDeficient-from_none none =
          subst (λ n. IsDeficient (λ r k. (k < side) × IsPresent square r k) n rows) state.matching_side
          (IsDeficient-from_tree m rows parents (λ r k. (k < side) × IsPresent square r k) state.columns state.tree
          (λ k p e. let at = state.tree_cells k p e in (parent_below k p e, ap (is_some {T = V}) at.there))
          (λ i h k w.
          let in_rows = (split.rows_are (get_or rows i 0) (tree_row_below i h)).1 (Contains-get_or rows i 0 h) in
          (split.columns_are k w.0).0 (false_from_ne_true (staying k) (λ e. false≢true (sym (ap (is_some {T = V}) (none (get_or rows i 0) k (tree_row_below i h) w.0 in_rows e)) ∙ w.1)))))

    -- a row enters: an unreached column that it has, by an absorbed cell of a row of the tree
    pub IsGrowing-enter : (after : ℕ → Option ℕ) (p k next : ℕ) → after k ≡ Some p → ((d : ℕ) → d ≢ k → after d ≡ parents d) → p < length rows → k < side → parents k ≡ None → Matches m next k → IsAbsorbed M z square (get_or rows p 0) k → IsGrowing M side square z m (rows ++ next ∷ []) after
    IsGrowing-enter after p k next here others hp hk unreached h cell =
        record {
          values = state.values;
          index_is_value = state.index_is_value;
          matching_side = state.matching_side;
          columns = state.columns;
          tree = IsTree-push m rows parents after p k next state.tree hp unreached here others h;
          tree_cells = λ d q e.
              ⊎_elim
              (λ there. subst (λ r. IsAbsorbed M z square r d) (sym (get_or_append_left rows (next ∷ []) 0 q (place_within d q there))) (state.tree_cells d q there))
              (λ new. subst (λ r. IsAbsorbed M z square r d) (sym (get_or_append_left rows (next ∷ []) 0 q (subst (λ i. i < length rows) (sym new.1) hp)))
              (subst (λ i. IsAbsorbed M z square (get_or rows i 0) d) (sym new.1) (subst (IsAbsorbed M z square (get_or rows p 0)) (sym new.0) cell)))
              (parent_cases m rows parents after p k next state.tree hp unreached here others h d q e);
          matched_cells = state.matched_cells;
        }

    -- after the path is flipped all matched cells are absorbed
    pub AllAllowed-flipped : (p k : ℕ) (after : List (Option ℕ)) → IsAbsorbed M z square (get_or rows p 0) k → Flips rows parents p k m after → AllAllowed (IsAbsorbed M z square) after
    AllAllowed-flipped p k after cell flipped r c e =
        ⊎_elim
        (state.matched_cells r c)
        (⊎_elim
        (λ end. subst (λ s. IsAbsorbed M z square s c) (sym end.0) (subst (IsAbsorbed M z square (get_or rows p 0)) (sym end.1) cell))
        (λ link. subst (λ s. IsAbsorbed M z square s c) (sym link.1) (state.tree_cells c link.0 link.2)))
        (flipped.cells r c e)
