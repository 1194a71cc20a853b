-- What leads say of the square as the steps so far leave it.
use Rattle.std.proofs.Common.{◌≡◌, ℕ, zero, suc, ◌<◌, ◌≤◌, true, cond, leb, min, List, [], ◌∷◌, ◌++◌, length, Option, Some, None, get_or, set, refl, sym, ◌∙◌, ap, subst, arith, ⊎_elim}
use Rattle.std.specs.Prelude.{All}
use Rattle.std.specs.Option.{option_map}
use Rattle.std.proofs.lemmas.Bool.{cases_lt, leb-true, ltb-true}
use Rattle.std.proofs.lemmas.List.{take_all, get_or_default, get_or_append_left, get_or_push, length_push, get_or-set_other}
use Rattle.std.proofs.lemmas.Grind.{get_or-set_at}
use Rattle.std.proofs.lemmas.List.Elements.{All-cons, All-nil, Contains-get_or}
use Rattle.std.proofs.lemmas.Option.{none-some, same_Some}
use Rattle.asg_order.specs.Monoid.{Monoid, IsValue, IsLe, IsOrderedMonoid, fold_of}
use Rattle.asg_order.specs.Differences.{HasDifferences}
use Rattle.asg_order.specs.laws.Differences.{difference_of_difference}
use Rattle.asg_order.specs.laws.Orders.{reflexive}
use Rattle.asg_order.specs.laws.Products.{fold_of-append}
use Rattle.asg_proof.specs.Steps.{HasValues}
use Rattle.asg_proof.specs.Phases.{phase_of, entered_at, staying_at, square_after}
use Rattle.asg_proof.specs.laws.Stepped.{option_map_cases}
use Rattle.asg_growth.specs.Growing.{IsAbsorbed}
use Rattle.asg_growth.specs.Searching.{IsSearching}
use Rattle.asg_growth.specs.laws.SearchingLaws.{values_so_far}
use Rattle.asg_admit.specs.Settled.{step_of, between, cell_after}
use Rattle.asg_admit.specs.laws.SettledCells.{IsTwice, between-split, between_is_value, between-all, between-fold, cell_after-inside, square_after-cell}
use Rattle.asg_growth.specs.laws.KeyLaws.{key_admitted, key_absorbed}
use Rattle.asg_growth.specs.Keys.{IsKeyBy, IsLead, AreSums}

module _ {V : Type 0} (M : Monoid V) (laws : IsOrderedMonoid M) (difference : V → V → V) (has : HasDifferences M difference) where
  twice : IsTwice M difference
  twice = difference_of_difference M laws difference has

  module _ (side never : ℕ) (start : ℕ → ℕ → Option V) (index : V) (steps : List V) (enters leaves : List ℕ) (m : List (Option ℕ)) (rows : List ℕ) (parents : ℕ → Option ℕ) (vi : IsValue M index) (start_values : HasValues M side start) (state : IsSearching M difference side never start index steps enters leaves m rows parents) (sums : List V) (sum : V) (are : AreSums M steps enters rows sums sum) where
    all_values : All (IsValue M) steps
    all_values = values_so_far M laws difference has side never start index steps enters leaves m rows parents vi start_values state

    row_below : (i : ℕ) → i < length rows → get_or rows i 0 < side
    row_below i h = subst (λ n. get_or rows i 0 < n) state.growing.matching_side (state.growing.tree.below i 0 h)

    step_values : (t : ℕ) → t < length steps → IsValue M (step_of M steps t)
    step_values t h = all_values t M.unit h

    -- the product of the steps since the row at a place entered
    abbrev pub since : ℕ → V
    since i = between M (step_of M steps) (get_or enters (get_or rows i 0) 0) (length steps)

    entry_within : (i : ℕ) → i < length rows → get_or enters (get_or rows i 0) 0 ≤ length steps
    entry_within i h = state.entered.taken (get_or rows i 0) (Contains-get_or rows i 0 h)

    since_is_value : (i : ℕ) → IsValue M (since i)
    since_is_value i = between_is_value M laws difference has twice (step_of M steps) (length steps) step_values (get_or enters (get_or rows i 0) 0) (length steps) (omega arith)

    sum_at_is_value : (i : ℕ) → i < length rows → IsValue M (get_or sums i M.unit)
    sum_at_is_value i h = subst (IsValue M) (sym (are.at_entry i h)) (between_is_value M laws difference has twice (step_of M steps) (length steps) step_values 0 (get_or enters (get_or rows i 0) 0) (entry_within i h))

    -- the sum is the sum at the entry of a row and the steps since
    sum_split : (i : ℕ) → i < length rows → sum ≡ M.product (get_or sums i M.unit) (since i)
    sum_split i h =
        let entry = get_or enters (get_or rows i 0) 0 in
        are.now
        ∙ sym (between-all M laws difference has twice steps all_values)
        ∙ between-split M laws difference has twice (step_of M steps) (length steps) step_values 0 entry (length steps) (omega arith) (entry_within i h) (omega arith)
        ∙ ap (λ y. M.product y (since i)) (sym (are.at_entry i h))

    -- the cell of a row of the tree in a column that was not reached
    pub cell_now : (i k : ℕ) (x : V) → i < length rows → k < side → length steps < get_or leaves k 0 → start (get_or rows i 0) k ≡ Some x → square_after M difference (phase_of steps enters leaves) start (length steps) (get_or rows i 0) k ≡ Some (difference x (since i))
    cell_now i k x hi hk late e =
        let r = get_or rows i 0 in
        let enter = get_or enters r 0 in
        let leave = get_or leaves k 0 in
        let within = entry_within i hi in
        let vx = start_values r k x (row_below i hi) hk e in
        let at : min leave (length steps) ≡ length steps = omega arith in
        square_after-cell M difference (phase_of steps enters leaves) start (length steps) r k
        ∙ ap (option_map (λ y. cell_after M difference (step_of M steps) enter leave y (length steps))) e
        ∙ ap Some (cell_after-inside M laws difference has twice (step_of M steps) (length steps) step_values enter leave x vx (omega arith) (length steps) (omega arith) ∙ ap (λ n. difference x (between M (step_of M steps) enter n)) at)

    -- the difference of the sum from a key that is at most each lead is a step
    pub key_step : (leads : ℕ → Option V) (places : ℕ → ℕ) → ((k : ℕ) → k < side → length steps < get_or leaves k 0 → IsLead M start rows sums (length rows) k (leads k) (places k)) → (key : V) → IsValue M key → ((k : ℕ) (other : V) → k < side → length steps < get_or leaves k 0 → leads k ≡ Some other → IsLe M key other) → (r k : ℕ) (y : V) → r < side → k < side → entered_at enters (length steps) r ≡ true → staying_at leaves (length steps) k ≡ true → square_after M difference (phase_of steps enters leaves) start (length steps) r k ≡ Some y → IsLe M (difference key sum) y
    key_step leads places are_leads key vk least r k y hr hk entered staying e =
        let late = ltb-true (length steps) (get_or leaves k 0) staying in
        let place = state.entered.marked r hr (leb-true (get_or enters r 0) (length steps) entered) in
        let i = place.0 in
        let at : get_or rows i 0 ≡ r = get_or_default rows i 0 r place.1 ∙ place.2 in
        let here = subst (λ q. square_after M difference (phase_of steps enters leaves) start (length steps) q k ≡ Some y) (sym at) e in
        let from = option_map_cases (λ x. cell_after M difference (step_of M steps) (get_or enters (get_or rows i 0) 0) (get_or leaves k 0) x (length steps)) (start (get_or rows i 0) k) y (sym (square_after-cell M difference (phase_of steps enters leaves) start (length steps) (get_or rows i 0) k) ∙ here) in
        let x = from.0 in
        let vx = start_values (get_or rows i 0) k x (row_below i place.1) hk from.1 in
        let is : difference x (since i) ≡ y = same_Some (difference x (since i)) y (sym (cell_now i k x place.1 hk late from.1) ∙ here) in
        let lead = (are_leads k hk late).least i x place.1 from.1 in
        let vs = sum_at_is_value i place.1 in
        let v_lead = ((are_leads k hk late).found lead.0 lead.1).value in
        let small = laws.transitive key lead.0 (M.product (get_or sums i M.unit) x) vk v_lead (laws.product_is_value (get_or sums i M.unit) x vs vx) (least k lead.0 hk late lead.1) lead.2 in
        subst (IsLe M (difference key sum)) is
        (subst (λ z. IsLe M (difference key z) (difference x (since i))) (sym (sum_split i place.1))
        (key_admitted M laws difference has (get_or sums i M.unit) x (since i) key vs vx (since_is_value i) vk small))

    -- where the lead's key is at most the sum, the column's cell in the lead's row is absorbed
    pub lead_absorbed : (k place : ℕ) (key : V) → k < side → length steps < get_or leaves k 0 → IsKeyBy M start rows sums (length rows) k key place → IsLe M key sum → IsAbsorbed M (M.product index (fold_of M steps)) (square_after M difference (phase_of steps enters leaves) start (length steps)) (get_or rows place 0) k
    lead_absorbed k place key hk late by low =
        let i = place in
        let s = get_or sums i M.unit in
        let p = since i in
        let x = by.cell in
        let vs = sum_at_is_value i by.within in
        let vx = start_values (get_or rows i 0) k x (row_below i by.within) hk by.there in
        let vp = since_is_value i in
        let vd = has.difference_is_value x p vx vp in
        let split = sum_split i by.within in
        let now : fold_of M steps ≡ M.product s p = sym are.now ∙ split in
        let vf = subst (IsValue M) (sym now) (laws.product_is_value s p vs vp) in
        let le : IsLe M (M.product s x) (M.product s p) = subst (λ q. IsLe M q (M.product s p)) by.is (subst (IsLe M key) split low) in
        record {
          value = difference x p;
          there = cell_now i k x by.within hk late by.there;
          is =
              laws.associative index (fold_of M steps) (difference x p) vi vf vd
              ∙ ap (M.product index) (ap (λ q. M.product q (difference x p)) now ∙ key_absorbed M laws difference has s x p vs vx vp le ∙ sym now);
        }

  -- a lead that was not changed by a row that has no cell there
  pub IsLead-none : (start : ℕ → ℕ → Option V) (rows : List ℕ) (sums : List V) (seen k : ℕ) (lead : Option V) (place : ℕ) → start (get_or rows seen 0) k ≡ None → IsLead M start rows sums seen k lead place → IsLead M start rows sums (suc seen) k lead place
  IsLead-none start rows sums seen k lead place none is = record {
    found = λ key e. let by = is.found key e in record { value = by.value; within = omega (arith, by.within); cell = by.cell; there = by.there; is = by.is };
    least = λ i x h e.
        ⊎_elim
        (λ before. is.least i x before e)
        (λ last.
        let at : i ≡ seen = omega arith in
        absurd (none-some x (sym none ∙ ap (λ j. start (get_or rows j 0) k) (sym at) ∙ e)))
        (cases_lt i seen);
  }

  -- a lead that is at most the new key
  pub IsLead-kept : (start : ℕ → ℕ → Option V) (rows : List ℕ) (sums : List V) (seen k : ℕ) (lead : Option V) (place : ℕ) (old cell : V) → start (get_or rows seen 0) k ≡ Some cell → lead ≡ Some old → IsLe M old (M.product (get_or sums seen M.unit) cell) → IsLead M start rows sums seen k lead place → IsLead M start rows sums (suc seen) k lead place
  IsLead-kept start rows sums seen k lead place old cell there e low is = record {
    found = λ key f. let by = is.found key f in record { value = by.value; within = omega (arith, by.within); cell = by.cell; there = by.there; is = by.is };
    least = λ i x h f.
        ⊎_elim
        (λ before. is.least i x before f)
        (λ last.
        let at : i ≡ seen = omega arith in
        let same : cell ≡ x = same_Some cell x (sym there ∙ ap (λ j. start (get_or rows j 0) k) (sym at) ∙ f) in
        (old, e, subst (λ y. IsLe M old (M.product (get_or sums i M.unit) y)) same (subst (λ j. IsLe M old (M.product (get_or sums j M.unit) cell)) (sym at) low)))
        (cases_lt i seen);
  }

  -- the new key takes the lead
  pub IsLead-new : (start : ℕ → ℕ → Option V) (rows : List ℕ) (sums : List V) (seen k : ℕ) (lead : Option V) (place : ℕ) (key cell : V) → IsValue M key → ((i : ℕ) (x : V) → i < seen → start (get_or rows i 0) k ≡ Some x → IsValue M (M.product (get_or sums i M.unit) x)) → start (get_or rows seen 0) k ≡ Some cell → key ≡ M.product (get_or sums seen M.unit) cell → ((old : V) → lead ≡ Some old → IsLe M key old) → IsLead M start rows sums seen k lead place → IsLead M start rows sums (suc seen) k (Some key) seen
  IsLead-new start rows sums seen k lead place key cell vk values there e low is = record {
    found = λ other f.
        let same = same_Some key other f in
        record { value = subst (IsValue M) same vk; within = omega arith; cell = cell; there = there; is = sym same ∙ e };
    least = λ i x h f.
        ⊎_elim
        (λ before.
        let was = is.least i x before f in
        let vw = (is.found was.0 was.1).value in
        (key, refl, laws.transitive key was.0 (M.product (get_or sums i M.unit) x) vk vw (values i x before f) (low was.0 was.1) was.2))
        (λ last.
        let at : i ≡ seen = omega arith in
        let same : cell ≡ x = same_Some cell x (sym there ∙ ap (λ j. start (get_or rows j 0) k) (sym at) ∙ f) in
        let is_now : key ≡ M.product (get_or sums i M.unit) x = e ∙ ap (M.product (get_or sums seen M.unit)) same ∙ ap (λ j. M.product (get_or sums j M.unit) x) (sym at) in
        (key, refl, subst (IsLe M key) is_now (reflexive M laws key vk)))
        (cases_lt i seen);
  }

  -- rows that enter later change no lead
  pub IsLead-push : (start : ℕ → ℕ → Option V) (rows : List ℕ) (sums : List V) (seen k : ℕ) (lead : Option V) (place next : ℕ) (sum : V) → seen ≤ length rows → seen ≤ length sums → IsLead M start rows sums seen k lead place → IsLead M start (rows ++ next ∷ []) (sums ++ sum ∷ []) seen k lead place
  IsLead-push start rows sums seen k lead place next sum h g is =
      let same_row = λ (i : ℕ) (l : i < seen). get_or_append_left rows (next ∷ []) 0 i (omega arith) in
      let same_sum = λ (i : ℕ) (l : i < seen). get_or_append_left sums (sum ∷ []) M.unit i (omega arith) in
      record {
        found = λ key e.
            let by = is.found key e in
            record {
              value = by.value;
              within = by.within;
              cell = by.cell;
              there = ap (λ r. start r k) (same_row place by.within) ∙ by.there;
              is = by.is ∙ ap (λ s. M.product s by.cell) (sym (same_sum place by.within));
            };
        least = λ i x l e.
            let was = is.least i x l (ap (λ r. start r k) (sym (same_row i l)) ∙ e) in
            (was.0, was.1, subst (λ s. IsLe M was.0 (M.product s x)) (sym (same_sum i l)) was.2);
      }

  -- steps that agree below a place have the same products below it
  pub between-agree : (step step' : ℕ → V) (n : ℕ) → ((t : ℕ) → t < n → step' t ≡ step t) → (from to : ℕ) → to ≤ n → between M step' from to ≡ between M step from to
  between-agree step step' n agree from zero h = refl
  between-agree step step' n agree from (suc to) h =
      let before = between-agree step step' n agree from to (omega arith) in
      let last = agree to (omega arith) in
      λ i. cond (leb from to) (M.product (before i) (last i)) M.unit

  -- a step multiplies the sum
  pub AreSums-step : (steps : List V) (enters rows : List ℕ) (sums : List V) (sum c : V) → All (IsValue M) steps → IsValue M c → ((i : ℕ) → i < length rows → get_or enters (get_or rows i 0) 0 ≤ length steps) → AreSums M steps enters rows sums sum → AreSums M (steps ++ c ∷ []) enters rows sums (M.product sum c)
  AreSums-step steps enters rows sums sum c vs vc entry are = record {
    sums_side = are.sums_side;
    now =
        ap (λ y. M.product y c) are.now
        ∙ ap (M.product (fold_of M steps)) (sym (laws.unit_neutral c vc))
        ∙ sym (fold_of-append M laws steps (c ∷ []) vs (All-cons (IsValue M) c [] vc (All-nil (IsValue M))));
    at_entry = λ i h.
        are.at_entry i h
        ∙ sym (between-agree (step_of M steps) (step_of M (steps ++ c ∷ [])) (length steps) (λ t l. get_or_append_left steps (c ∷ []) M.unit t l) 0 (get_or enters (get_or rows i 0) 0) (entry i h));
  }

  -- a row enters at the sum
  pub AreSums-enter : (steps : List V) (enters rows : List ℕ) (sums : List V) (sum : V) (next : ℕ) → All (IsValue M) steps → next < length enters → ((i : ℕ) → i < length rows → get_or rows i 0 ≡ next → ⊥) → AreSums M steps enters rows sums sum → AreSums M steps (set enters next (length steps)) (rows ++ next ∷ []) (sums ++ sum ∷ []) sum
  AreSums-enter steps enters rows sums sum next vs below apart are =
      let n = length steps in
      let marks = set enters next n in
      record {
        sums_side = omega (arith, length_push sums sum, length_push rows next, are.sums_side);
        now = are.now;
        at_entry = λ i h.
            ⊎_elim
            (λ before.
            let row = get_or_append_left rows (next ∷ []) 0 i before in
            let mark = get_or-set_other enters next (get_or rows i 0) n 0 (apart i before) in
            get_or_append_left sums (sum ∷ []) M.unit i (omega (arith, are.sums_side))
            ∙ are.at_entry i before
            ∙ ap (between M (step_of M steps) 0) (sym mark)
            ∙ ap (λ r. between M (step_of M steps) 0 (get_or marks r 0)) (sym row))
            (λ last.
            let at : length rows ≡ i = omega (arith, length_push rows next) in
            let row : get_or (rows ++ next ∷ []) i 0 ≡ next = get_or_push rows next 0 i at in
            let mark : get_or marks next 0 ≡ n = get_or-set_at enters next next n 0 refl below in
            get_or_push sums sum M.unit i (omega (arith, are.sums_side))
            ∙ are.now
            ∙ sym (between-fold M laws difference has twice steps n (omega arith) vs ∙ ap (fold_of M) (take_all n steps (omega arith)))
            ∙ ap (between M (step_of M steps) 0) (sym mark)
            ∙ ap (λ r. between M (step_of M steps) 0 (get_or marks r 0)) (sym row))
            (cases_lt i (length rows));
      }
