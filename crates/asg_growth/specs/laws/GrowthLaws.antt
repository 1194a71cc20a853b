-- The moves of a search, on its growth.
use Rattle.std.proofs.Common.{◌≡◌, ℕ, suc, ◌+◌, ◌/◌, ◌%◌, ◌<◌, ◌≤◌, ◌&&◌, List, length, Option, Some, None, get_or, refl, sym, ◌∙◌, ap, subst, arith, ⊎_elim, cond, eqb, ltb, is_some}
use Rattle.std.specs.Prelude.{vec_len, vec_capacity, IsSome}
use Rattle.std.specs.Int.{bit_at}
use Rattle.std.proofs.lemmas.Bool.{false≢true, cases_Bool}
use Rattle.std.proofs.lemmas.List.{get_or_read, length_push}
use Rattle.std.proofs.lemmas.Option.{none-some, same_Some, get_or_from_slice_get}
use Rattle.asg_match.specs.Alternating.{parent_of}
use Rattle.asg_match.specs.ColumnSet.{HasColumn, IsColumnSet}
use Rattle.asg_match.specs.Searched.{parents_in}
use Rattle.asg_match.specs.laws.Columns.{parent-unseen, unseen_or_reached}
use Rattle.asg_model.specs.laws.Listing.{length-le_from_below}
use Rattle.asg_match.specs.laws.Matchings.{Some-from_test}
use Rattle.asg_order.specs.Monoid.{Monoid, IsValue, IsLe, IsOrderedMonoid, fold_of}
use Rattle.asg_order.specs.Differences.{HasDifferences}
use Rattle.asg_proof.specs.Phases.{phase_of, square_after}
use Rattle.asg_cell_tables.specs.CellTable.{AreValuesOf}
use Rattle.asg_square.specs.Grid.{Grid, cell_at}
use Rattle.asg_growth.specs.declared.growth.Growth.{Growth}
use Rattle.asg_growth.specs.Growing.{IsAbsorbed}
use Rattle.asg_growth.specs.Growths.{never, leads_in, IsSearch, IsReady, Climbs}
use Rattle.asg_growth.specs.Keys.{IsLead}
use Rattle.asg_growth.specs.Leads.{leads_of, lead_at, place_at, IsLeast, Relaxes}
use Rattle.asg_growth.specs.Nearest.{AreNearest}
use Rattle.asg_growth.specs.Underway.{IsUnderway, Advances}
use Rattle.asg_growth.specs.laws.KeyStates.{IsLead-none, IsLead-kept, IsLead-new}
use Rattle.asg_growth.specs.laws.WordLemmas.{cases_column}
use Rattle.asg_growth.specs.laws.LeadLemmas.{lead_there, lead_has}
use Rattle.asg_growth.specs.laws.UnderwayLaws.{IsUnderway-relaxed, IsUnderway-advance, leads_are_values, lead_place_within, lead_is_absorbed}

-- the present columns of a row, as its words tell them
pub some_value : {V : Type 0} (o : Option V) → IsSome o → (x : V) × (o ≡ Some x)
some_value None e = absurd (false≢true e)
some_value (Some x) e = (x, refl)

none_value : {V : Type 0} (o : Option V) → (IsSome o → ⊥) → o ≡ None
none_value None e = refl
none_value (Some x) e = absurd (e refl)

-- the value of a present cell
pub value_read : {V : Type 0} (row : ℕ → Option V) (side : ℕ) (values : List V) → AreValuesOf row side values → (k : ℕ) (x d : V) → row k ≡ Some x → get_or values k d ≡ x
value_read row side values are k x d e = get_or_from_slice_get values k x d (are.each k (ap is_some e) ∙ e)

module _ {V : Type 0} {M : Monoid V} (laws : IsOrderedMonoid M) {difference : V → V → V} (has : HasDifferences M difference) {Q : Grid V} {index : V} {m : List (Option ℕ)} {b : Growth V} {sum : V} {seen : ℕ} (search : IsSearch M difference Q index m b sum seen) where
  abbrev pub unseen : List ℕ
  unseen = b.tree.unseen.items

  abbrev pub lead : ℕ → Option V
  lead = lead_at M (leads_in b)

  parents_len : length b.tree.parents.items ≡ Q.side
  parents_len = sym b.tree.parents.ok.0 ∙ search.roomy.parents_side

  -- the columns of the set are those that weren't reached
  pub unseen_open : (k : ℕ) → HasColumn unseen k → (k < Q.side) × (parents_in b.tree k ≡ None)
  unseen_open k h = (omega (arith, search.unseen.below (k / 64) (k % 64) h), parent-unseen b.tree.parents.items unseen k h)

  pub open_unseen : (k : ℕ) → k < Q.side → parents_in b.tree k ≡ None → HasColumn unseen k
  open_unseen k h open_here =
      ⊎_elim
      (λ there. there)
      (λ reached. let from = Some-from_test (parents_in b.tree k) reached in absurd (none-some from.0 (sym open_here ∙ from.1)))
      (unseen_or_reached b.tree.parents.items unseen k (subst (λ n. k < n) (sym parents_len) h))

  pub search_leads : (k : ℕ) (key : V) → HasColumn unseen k → lead k ≡ Some key → IsValue M key
  search_leads k key h e = leads_are_values M laws difference has never Q.side (cell_at Q) index m b.tree.rows.items (parents_in b.tree) b.sums.items (lead_at M (leads_in b)) (place_at (leads_in b)) b.enters.items b.leaves.items b.steps.items sum seen search.underway k key (unseen_open k h) e

  -- a search has at most as many rows as the side
  pub few_rows : vec_len b.tree.rows ≤ Q.side
  few_rows =
      let tree = search.underway.searching.growing.tree in
      omega (arith, length-le_from_below b.tree.rows.items (length m) tree.apart tree.below, b.tree.rows.ok.0, search.underway.searching.growing.matching_side)

  -- the leads count one more row, which entered last
  module _ (place : ℕ) (at_place : seen ≡ place) (within : place < length b.tree.rows.items) (values : List V) (row : ℕ) (s : V) (row_is : row ≡ get_or b.tree.rows.items place 0) (s_is : s ≡ get_or b.sums.items place M.unit) (are_values : AreValuesOf (cell_at Q row) Q.side values) where
    pub row_below : row < Q.side
    row_below = subst (λ r. r < Q.side) (sym row_is) (search.underway.scanned.below place 0 within)

    s_value : IsValue M s
    s_value = subst (IsValue M) (sym s_is) (search.underway.scanned.sums_values place M.unit (subst (λ n. place < n) (sym search.underway.scanned.sums_side) within))

    pub sum_there : IsValue M s
    sum_there = s_value

    -- a present cell is a value, which is read
    present_value : (k : ℕ) → IsSome (cell_at Q row k) → HasColumn unseen k → IsValue M (get_or values k M.unit)
    present_value k in_row h =
        let below = (unseen_open k h).0 in
        let cell = some_value (cell_at Q row k) in_row in
        subst (IsValue M) (sym (value_read (cell_at Q row) Q.side values are_values k cell.0 M.unit cell.1)) (search.underway.scanned.values row k cell.0 row_below below cell.1)

    pub search_looked : (keys : List V) (keyed places : List ℕ) → Relaxes M values s place (λ k. IsSome (cell_at Q row k) × HasColumn unseen k) (leads_in b) (leads_of keys keyed places) → IsUnderway M difference never Q.side (cell_at Q) index m b.tree.rows.items (parent_of places unseen) b.sums.items (lead_at M (leads_of keys keyed places)) (place_at (leads_of keys keyed places)) b.enters.items b.leaves.items b.steps.items sum (place + 1)
    search_looked keys keyed places relaxed =
        let after = leads_of keys keyed places in
        let one : suc place ≡ place + 1 = omega arith in
        let start = cell_at Q in
        let rows = b.tree.rows.items in
        let sums = b.sums.items in
        let same : (k : ℕ) → parents_in b.tree k ≡ parent_of places unseen k = λ k.
        ⊎_elim
        (λ here. parent-unseen b.tree.parents.items unseen k here ∙ sym (parent-unseen places unseen k here))
        (λ gone.
        let keeps = relaxed.others k (λ p. gone p.1) in
        ap (λ n. cond (eqb (bit_at (get_or unseen (k / 64) 0) (k % 64)) 0 && ltb k n) (Some (get_or b.tree.parents.items k 0)) None) (sym relaxed.places_side)
        ∙ ap (λ x. cond (eqb (bit_at (get_or unseen (k / 64) 0) (k % 64)) 0 && ltb k (length places)) (Some x) None) (sym keeps.place))
        (cases_column unseen k) in
        let leads : (k : ℕ) → k < Q.side → parents_in b.tree k ≡ None → IsLead M start rows sums (place + 1) k (lead_at M after k) (place_at after k) = λ k h open_here.
        let here = open_unseen k h open_here in
        let was : IsLead M start rows sums place k (lead k) (place_at (leads_in b) k) = subst (λ n. IsLead M start rows sums n k (lead k) (place_at (leads_in b) k)) at_place (search.underway.leads_are k h open_here) in
        subst (λ n. IsLead M start rows sums n k (lead_at M after k) (place_at after k)) one
        (⊎_elim
        (λ in_row.
        let cell = some_value (cell_at Q row k) in_row in
        let there : start (get_or rows place 0) k ≡ Some cell.0 = subst (λ r. start r k ≡ Some cell.0) row_is cell.1 in
        let key = M.product s (get_or values k M.unit) in
        let is : key ≡ M.product (get_or sums place M.unit) cell.0 = ap (λ y. M.product y (get_or values k M.unit)) s_is ∙ ap (M.product (get_or sums place M.unit)) (value_read (cell_at Q row) Q.side values are_values k cell.0 M.unit cell.1) in
        let vk : IsValue M key = laws.product_is_value s (get_or values k M.unit) s_value (present_value k in_row here) in
        ⊎_elim
        (λ new.
        let now = IsLead-new M laws difference has start rows sums place k (lead k) (place_at (leads_in b) k) key cell.0 vk
        (λ i x l e. laws.product_is_value (get_or sums i M.unit) x
        (search.underway.scanned.sums_values i M.unit (omega (arith, l, within, search.underway.scanned.sums_side)))
        (search.underway.scanned.values (get_or rows i 0) k x (search.underway.scanned.below i 0 (omega (arith, l, within))) h e))
        there is new.2 was in
        subst (λ o. IsLead M start rows sums (suc place) k o (place_at after k)) (sym new.0)
        (subst (λ p. IsLead M start rows sums (suc place) k (Some key) p) (sym new.1) now))
        (λ old.
        let now = IsLead-kept M laws difference has start rows sums place k (lead k) (place_at (leads_in b) k) old.0 cell.0 there old.1 (subst (IsLe M old.0) is old.2) was in
        subst (λ o. IsLead M start rows sums (suc place) k o (place_at after k)) (sym old.3.lead)
        (subst (λ p. IsLead M start rows sums (suc place) k (lead k) p) (sym old.3.place) now))
        (relaxed.looked_at k (in_row, here)))
        (λ no.
        let absent : IsSome (cell_at Q row k) → ⊥ = λ yes. false≢true (sym no ∙ yes) in
        let keeps = relaxed.others k (λ p. absent p.0) in
        let gone : start (get_or rows place 0) k ≡ None = subst (λ r. start r k ≡ None) row_is (none_value (cell_at Q row k) absent) in
        let now = IsLead-none M laws difference has start rows sums place k (lead k) (place_at (leads_in b) k) gone was in
        subst (λ o. IsLead M start rows sums (suc place) k o (place_at after k)) (sym keeps.lead)
        (subst (λ p. IsLead M start rows sums (suc place) k (lead k) p) (sym keeps.place) now))
        (cases_Bool (is_some (cell_at Q row k)))) in
        let base = IsUnderway-relaxed M laws difference has never Q.side (cell_at Q) index m b.tree.rows.items (parents_in b.tree) b.sums.items (lead_at M (leads_in b)) (place_at (leads_in b)) b.enters.items b.leaves.items b.steps.items sum seen search.underway (lead_at M after) (place_at after) (place + 1) leads in
        subst (λ p. IsUnderway M difference never Q.side (cell_at Q) index m b.tree.rows.items p b.sums.items (lead_at M after) (place_at after) b.enters.items b.leaves.items b.steps.items sum (place + 1)) (λ i k. same k i) base

  module _ (all_seen : vec_len b.tree.rows ≡ seen) {column : ℕ} (w : IsLeast M lead (HasColumn unseen) column) where
    pub all_rows : seen ≡ length b.tree.rows.items
    all_rows = sym all_seen ∙ b.tree.rows.ok.0

    abbrev pub open_here : ℕ → Type 0
    open_here k = (k < Q.side) × (parents_in b.tree k ≡ None)

    abbrev pub least : IsLeast M lead open_here column
    least = record {
      among = unseen_open column w.among;
      key = w.key;
      has = w.has;
      least = λ k other h e. w.least k other (open_unseen k h.0 h.1) e;
    }

    -- the key that is read is the least one
    pub key_read : get_or b.keys.items column M.unit ≡ w.key
    key_read = same_Some (get_or b.keys.items column M.unit) w.key (sym (lead_there M (leads_in b) column (lead_has M (leads_in b) column w.key w.has)) ∙ w.has)

    pub column_below : column < Q.side
    column_below = (unseen_open column w.among).0

    -- the place that is read is that of the column's parent
    pub place_read : (place : ℕ) → place ≡ get_or b.tree.parents.items column place → place ≡ get_or b.tree.parents.items column 0
    place_read place e = get_or_read b.tree.parents.items column place (omega (arith, column_below, parents_len)) e 0

    pub search_place : get_or b.tree.parents.items column 0 < length b.tree.rows.items
    search_place = lead_place_within M laws difference has never Q.side (cell_at Q) index m b.tree.rows.items (parents_in b.tree) b.sums.items (lead_at M (leads_in b)) (place_at (leads_in b)) b.enters.items b.leaves.items b.steps.items sum seen search.underway all_rows column least

    pub search_cell : IsLe M w.key sum → IsAbsorbed M (M.product index (fold_of M b.steps.items)) (square_after M difference (phase_of b.steps.items b.enters.items b.leaves.items) (cell_at Q) (length b.steps.items)) (get_or b.tree.rows.items (get_or b.tree.parents.items column 0) 0) column
    search_cell low = lead_is_absorbed M laws difference has never Q.side (cell_at Q) index m b.tree.rows.items (parents_in b.tree) b.sums.items (lead_at M (leads_in b)) (place_at (leads_in b)) b.enters.items b.leaves.items b.steps.items sum seen search.underway all_rows column least low

    -- the sum went up
    pub search_climbed : (b' : Growth V) (sum' : V) → vec_len b.steps < seen → Climbs M difference b b' sum sum' column → IsSearch M difference Q index m b' sum' seen × IsReady M b' sum' column
    search_climbed b' sum' few climbs =
        let room : suc (length b.steps.items) < never = omega (arith, b.steps.ok.0, few, few_rows, all_seen, search.small) in
        let advances = subst (λ key. Advances M difference key b.steps.items sum b'.steps.items sum') key_read climbs.advances in
        let now = IsUnderway-advance M laws difference has never Q.side (cell_at Q) index m b.tree.rows.items (parents_in b.tree) b.sums.items (lead_at M (leads_in b)) (place_at (leads_in b)) b.enters.items b.leaves.items b.steps.items sum seen search.underway all_rows column least room b'.steps.items sum' advances in
        let longer : length b'.steps.items ≤ suc (length b.steps.items) =
        ⊎_elim (λ same. omega (arith, ap length same.0)) (λ more. omega (arith, ap length more.0, length_push b.steps.items (difference w.key sum))) advances.either in
        let leads : lead_at M (leads_in b') ≡ lead_at M (leads_in b) = λ i. lead_at M (leads_of (climbs.keys i).items (climbs.keyed i).items (climbs.tree i).parents.items) in (
          record {
            small = search.small;
            roomy = record {
              rows_room = subst (λ t. Q.side ≤ vec_capacity t.rows) (sym climbs.tree) search.roomy.rows_room;
              parents_side = ap (λ t. vec_len t.parents) climbs.tree ∙ search.roomy.parents_side;
              unseen_side = ap (λ t. vec_len t.unseen) climbs.tree ∙ search.roomy.unseen_side;
              sums_room = subst (λ v. Q.side ≤ vec_capacity v) (sym climbs.sums) search.roomy.sums_room;
              keys_room = subst (λ v. Q.side ≤ vec_capacity v) (sym climbs.keys) search.roomy.keys_room;
              keyed_side = ap (λ v. vec_len v) climbs.keyed ∙ search.roomy.keyed_side;
              nearest_side = ap (λ v. vec_len v) climbs.nearest ∙ search.roomy.nearest_side;
              enters_side = ap (λ v. vec_len v) climbs.enters ∙ search.roomy.enters_side;
              leaves_side = ap (λ v. vec_len v) climbs.leaves ∙ search.roomy.leaves_side;
              steps_room = subst (λ n. Q.side ≤ n) (sym climbs.steps_room) search.roomy.steps_room;
              room_room = subst (λ v. Q.side + 1 ≤ vec_capacity v) (sym climbs.room) search.roomy.room_room;
            };
            keys_side = ap (λ v. vec_len v) climbs.keys ∙ search.keys_side;
            unseen = subst (λ t. IsColumnSet Q.side t.unseen.items) (sym climbs.tree) search.unseen;
            underway = subst (λ A. A) (λ i. IsUnderway M difference never Q.side (cell_at Q) index m ((sym climbs.tree) i).rows.items (parents_in ((sym climbs.tree) i)) ((sym climbs.sums) i).items ((sym leads) i) (place_at (leads_of ((sym climbs.keys) i).items ((sym climbs.keyed) i).items ((sym climbs.tree) i).parents.items)) ((sym climbs.enters) i).items ((sym climbs.leaves) i).items b'.steps.items sum' seen) now.0;
            few_steps = omega (arith, longer, b.steps.ok.0, b'.steps.ok.0, few);
            nearest = subst (λ A. A) (λ i. AreNearest M (leads_of ((sym climbs.keys) i).items ((sym climbs.keyed) i).items ((sym climbs.tree) i).parents.items) ((sym climbs.tree) i).unseen.items ((sym climbs.nearest) i).items) search.nearest;
          },
          record {
            least = record {
              among = subst (λ t. HasColumn t.unseen.items column) (sym climbs.tree) w.among;
              key = w.key;
              has = ap (λ f. f column) leads ∙ w.has;
              least = λ k other h e. w.least k other (subst (λ t. HasColumn t.unseen.items k) climbs.tree h) (sym (ap (λ f. f k) leads) ∙ e);
            };
            low = now.1;
          },
        )
