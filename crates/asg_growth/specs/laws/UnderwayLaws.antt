-- The moves of a search that is under way.
use Rattle.std.proofs.Common.{◌≡◌, ◌≢◌, ℕ, suc, ◌<◌, ◌≤◌, List, [], ◌∷◌, ◌++◌, length, Option, Some, None, get_or, set, is_some, refl, sym, ◌∙◌, ap, subst, arith, ⊎_elim}
use Rattle.std.specs.Prelude.{All}
use Rattle.std.specs.Option.{option_map}
use Rattle.std.proofs.lemmas.Bool.{cases_lt, leb-true, ltb-true, false_from_ne_true}
use Rattle.std.proofs.lemmas.List.{get_or_default, get_or_append_left, get_or_push, length_push}
use Rattle.std.proofs.lemmas.List.Elements.{All-push, Contains-get_or}
use Rattle.std.proofs.lemmas.Option.{none-some}
use Rattle.asg_match.specs.laws.Matchings.{None-from_test, Some-from_test, Matches-below}
use Rattle.asg_model.specs.laws.Listing.{length-le_from_below}
use Rattle.asg_match.specs.Matching.{Matches}
use Rattle.asg_match.specs.Deficient.{IsDeficient}
use Rattle.asg_order.specs.Monoid.{Monoid, IsValue, IsLe, IsOrderedMonoid, fold_of}
use Rattle.asg_order.specs.Differences.{HasDifferences}
use Rattle.asg_order.specs.laws.Differences.{product_of_difference}
use Rattle.asg_order.specs.laws.Orders.{reflexive}
use Rattle.asg_proof.specs.Phases.{phase_of, entered_at, staying_at, square_after}
use Rattle.asg_square.specs.Cells.{IsPresent}
use Rattle.asg_growth.specs.Growing.{IsAbsorbed}
use Rattle.asg_growth.specs.laws.GrowingLaws.{IsDeficient-from_none}
use Rattle.asg_growth.specs.Searching.{IsSearching}
use Rattle.asg_growth.specs.laws.SearchingLaws.{IsSearching-step, IsSearching-enter, IsSplit-now, values_so_far}
use Rattle.asg_growth.specs.Keys.{IsKeyBy, IsLead, AreSums}
use Rattle.asg_growth.specs.laws.KeyStates.{key_step, lead_absorbed, AreSums-step, AreSums-enter, IsLead-push}
use Rattle.asg_admit.specs.Settled.{step_of, cell_after}
use Rattle.asg_admit.specs.laws.SettledCells.{square_after-cell}
use Rattle.asg_growth.specs.Leads.{IsLeast, Picks}
use Rattle.asg_growth.specs.Underway.{IsUnderway, Advances}

module _ {V : Type 0} (M : Monoid V) (laws : IsOrderedMonoid M) (difference : V → V → V) (has : HasDifferences M difference) (never side : ℕ) (start : ℕ → ℕ → Option V) (index : V) (m : List (Option ℕ)) (rows : List ℕ) (parents : ℕ → Option ℕ) (sums : List V) (leads : ℕ → Option V) (places : ℕ → ℕ) (enters leaves : List ℕ) (steps : List V) (sum : V) (seen : ℕ) (state : IsUnderway M difference never side start index m rows parents sums leads places enters leaves steps sum seen) where
  -- the columns that weren't reached
  abbrev pub IsOpen : ℕ → Type 0
  IsOpen k = (k < side) × (parents k ≡ None)

  -- the leads now count more rows
  pub IsUnderway-relaxed : (leads' : ℕ → Option V) (places' : ℕ → ℕ) (seen' : ℕ) → ((k : ℕ) → k < side → parents k ≡ None → IsLead M start rows sums seen' k (leads' k) (places' k)) → IsUnderway M difference never side start index m rows parents sums leads' places' enters leaves steps sum seen'
  IsUnderway-relaxed leads' places' seen' are = record {
    index_is_value = state.index_is_value;
    searching = state.searching;
    sums_are = state.sums_are;
    scanned = state.scanned;
    sum_is_value = state.sum_is_value;
    leads_are = are;
  }

  pub leads_are_values : (k : ℕ) (key : V) → IsOpen k → leads k ≡ Some key → IsValue M key
  leads_are_values k key unreached e = ((state.leads_are k unreached.0 unreached.1).found key e).value

  -- a column whose mark is later was not reached, and the other way round
  late_unreached : (k : ℕ) → length steps < get_or leaves k 0 → parents k ≡ None
  late_unreached k late =
      None-from_test (parents k) (false_from_ne_true (is_some (parents k)) (λ reached. let early = state.searching.left.taken k reached in absurd (omega arith)))

  unreached_late : (k : ℕ) → k < side → parents k ≡ None → length steps < get_or leaves k 0
  unreached_late k hk free =
      ⊎_elim
      (λ late. late)
      (λ early.
      let from = Some-from_test (parents k) (state.searching.left.marked k hk early) in
      absurd (none-some from.0 (sym free ∙ from.1)))
      (cases_lt (length steps) (get_or leaves k 0))

  all_values : All (IsValue M) steps
  all_values = values_so_far M laws difference has side never start index steps enters leaves m rows parents state.index_is_value state.scanned.values state.searching

  entry_within : (i : ℕ) → i < length rows → get_or enters (get_or rows i 0) 0 ≤ length steps
  entry_within i h = state.searching.entered.taken (get_or rows i 0) (Contains-get_or rows i 0 h)

  module _ (all_seen : seen ≡ length rows) (column : ℕ) (w : IsLeast M leads IsOpen column) where
    column_below : column < side
    column_below = w.among.0

    leads_all : (k : ℕ) → k < side → parents k ≡ None → IsLead M start rows sums (length rows) k (leads k) (places k)
    leads_all k h unreached = subst (λ n. IsLead M start rows sums n k (leads k) (places k)) all_seen (state.leads_are k h unreached)

    pub key_is_value : IsValue M w.key
    key_is_value = leads_are_values column w.key w.among w.has

    -- the sum goes up to the least key
    pub IsUnderway-advance : suc (length steps) < never → (steps' : List V) (sum' : V) → Advances M difference w.key steps sum steps' sum' → IsUnderway M difference never side start index m rows parents sums leads places enters leaves steps' sum' seen × IsLe M w.key sum'
    IsUnderway-advance room steps' sum' advances =
        ⊎_elim
        (λ same. (
          subst (λ s. IsUnderway M difference never side start index m rows parents sums leads places enters leaves s sum' seen) (sym same.0)
              (subst (λ s. IsUnderway M difference never side start index m rows parents sums leads places enters leaves steps s seen) (sym same.1) state),
          subst (IsLe M w.key) (sym same.1) same.2,
        ))
        (λ more.
        let c = difference w.key sum in
        let vc = has.difference_is_value w.key sum key_is_value state.sum_is_value in
        let whole : M.product sum c ≡ w.key = product_of_difference M laws difference has w.key sum key_is_value state.sum_is_value more.2 in
        let least = key_step M laws difference has side never start index steps enters leaves m rows parents state.index_is_value state.scanned.values state.searching sums sum state.sums_are
        leads places (λ k hk late. leads_all k hk (late_unreached k late)) w.key key_is_value
        (λ k other hk late e. w.least k other (hk, late_unreached k late) e) in
        let searching = IsSearching-step M laws difference has side never start index steps enters leaves m rows parents state.index_is_value state.scanned.values state.searching c vc room least in
        let now : IsUnderway M difference never side start index m rows parents sums leads places enters leaves (steps ++ c ∷ []) w.key seen = record {
          index_is_value = state.index_is_value;
          searching = searching;
          sums_are = subst (AreSums M (steps ++ c ∷ []) enters rows sums) whole (AreSums-step M laws difference has steps enters rows sums sum c all_values vc entry_within state.sums_are);
          scanned = state.scanned;
          sum_is_value = key_is_value;
          leads_are = state.leads_are;
        } in (
          subst (λ s. IsUnderway M difference never side start index m rows parents sums leads places enters leaves s sum' seen) (sym more.0)
              (subst (λ s. IsUnderway M difference never side start index m rows parents sums leads places enters leaves (steps ++ c ∷ []) s seen) (sym more.1) now),
          subst (IsLe M w.key) (sym more.1) (reflexive M laws w.key key_is_value),
        ))
        advances.either

    by_lead : IsKeyBy M start rows sums (length rows) column w.key (places column)
    by_lead = (leads_all column column_below w.among.1).found w.key w.has

    -- the least column's cell in the row of its lead is absorbed
    pub lead_is_absorbed : IsLe M w.key sum → IsAbsorbed M (M.product index (fold_of M steps)) (square_after M difference (phase_of steps enters leaves) start (length steps)) (get_or rows (places column) 0) column
    lead_is_absorbed low =
        lead_absorbed M laws difference has side never start index steps enters leaves m rows parents state.index_is_value state.scanned.values state.searching sums sum state.sums_are
        column (places column) w.key column_below (unreached_late column column_below w.among.1) by_lead low

    pub lead_place_within : places column < length rows
    lead_place_within = by_lead.within

    module _ (low : IsLe M w.key sum) (next : ℕ) (matched : Matches m next column) (after : ℕ → Option ℕ) (here : after column ≡ Some (places column)) (others : (d : ℕ) → d ≢ column → after d ≡ parents d) where
      entered_search : IsSearching M difference side never start index steps (set enters next (length steps)) (set leaves column (length steps)) m (rows ++ next ∷ []) after
      entered_search =
          IsSearching-enter M laws difference has side never start index steps enters leaves m rows parents state.index_is_value state.scanned.values state.searching
          after (places column) column next here others lead_place_within column_below w.among.1 matched (lead_is_absorbed low)

      -- there was room for one more row
      pub rows_room : length rows < side
      rows_room =
          let tree = entered_search.growing.tree in
          omega (arith, length-le_from_below (rows ++ next ∷ []) (length m) tree.apart tree.below, length_push rows next, state.searching.growing.matching_side)

      next_below : next < side
      next_below = subst (λ n. next < n) state.searching.growing.matching_side (Matches-below m next column matched)

      next_apart : (i : ℕ) → i < length rows → get_or rows i 0 ≡ next → ⊥
      next_apart i h e = entered_search.growing.tree.apart i (length rows) 0 h (omega (arith, length_push rows next)) (get_or_append_left rows (next ∷ []) 0 i h ∙ e ∙ sym (get_or_push rows next 0 (length rows) refl))

      -- a row enters
      pub IsUnderway-enter : IsUnderway M difference never side start index m (rows ++ next ∷ []) after (sums ++ sum ∷ []) leads places (set enters next (length steps)) (set leaves column (length steps)) steps sum seen
      IsUnderway-enter = record {
        index_is_value = state.index_is_value;
        searching = entered_search;
        sums_are = AreSums-enter M laws difference has steps enters rows sums sum next all_values (subst (λ n. next < n) (sym state.searching.entered.marks_side) next_below) next_apart state.sums_are;
        scanned = record {
          values = state.scanned.values;
          below = All-push (λ r. r < side) rows next state.scanned.below next_below;
          sums_side = omega (arith, length_push sums sum, length_push rows next, state.scanned.sums_side);
          sums_values = All-push (IsValue M) sums sum state.scanned.sums_values state.sum_is_value;
        };
        sum_is_value = state.sum_is_value;
        leads_are = λ k h unreached.
            IsLead-push M laws difference has start rows sums seen k (leads k) (places k) next sum (omega arith) (omega (arith, state.scanned.sums_side))
            (state.leads_are k h (sym (others k (λ e. none-some (places column) (sym unreached ∙ ap after e ∙ here))) ∙ unreached));
      }

  -- where no column has a key, the rows are short of columns
  pub IsDeficient-now : seen ≡ length rows → Picks M leads IsOpen None → IsDeficient (λ r k. (k < side) × IsPresent (square_after M difference (phase_of steps enters leaves) start (length steps)) r k) side rows
  IsDeficient-now all_seen none =
      IsDeficient-from_none M laws difference has side (square_after M difference (phase_of steps enters leaves) start (length steps)) (M.product index (fold_of M steps)) m rows parents state.searching.growing
      (entered_at enters (length steps)) (staying_at leaves (length steps))
      (IsSplit-now M laws difference has side never start index steps enters leaves m rows parents state.index_is_value state.scanned.values state.searching)
      (λ r k hr hk entered staying.
      let late = ltb-true (length steps) (get_or leaves k 0) staying in
      let place = state.searching.entered.marked r hr (leb-true (get_or enters r 0) (length steps) entered) in
      let at : get_or rows place.0 0 ≡ r = get_or_default rows place.0 0 r place.1 ∙ place.2 in
      let free = late_unreached k late in
      let no_key = none k (hk, free) in
      let gone : start r k ≡ None = none_from (start r k) (λ x e. let lead = (state.leads_are k hk free).least place.0 x (subst (λ n. place.0 < n) (sym all_seen) place.1) (ap (λ q. start q k) at ∙ e) in none-some lead.0 (sym no_key ∙ lead.1)) in
      square_after-cell M difference (phase_of steps enters leaves) start (length steps) r k
      ∙ ap (option_map (λ x. cell_after M difference (step_of M steps) (get_or enters r 0) (get_or leaves k 0) x (length steps))) gone)
    where
      none_from : (o : Option V) → ((x : V) → o ≡ Some x → ⊥) → o ≡ None
      none_from None no_value = refl
      none_from (Some x) no_value = absurd (no_value x refl)
