use Rattle.asg_growth.proofs.Common.{◌≡◌, ◌+◌, ◌<◌, length, Some, sym, refl, ap, subst, arith, get_or_read, with_items_is, never, leads_of, lead_at, place_at, OffersRow, Picks, AreNearest, IsUnderway, search_leads, search_looked, HasColumn, IsColumnSet, IsValue, cell_at}
use Rattle.asg_match.specs.Alternating.{parent_of}
use Rattle.asg_growth.proofs.growth.look.Goals as goal

pub offer_row-requires-clause-reduced : goal.offer_row-requires-clause-reduced
offer_row-requires-clause-reduced g c =
    let s = c.requires.search in
    record { cells = s.underway.scanned.values; index = s.underway.index_is_value }

pub offer_row-requires-clause-row : goal.offer_row-requires-clause-row
offer_row-requires-clause-row g c =
    let whole = g.S.RowSquare.as_reduced c.args.reduced.now in
    let b = c.args.growth.now in
    let s = c.requires.search in
    let place = c.args.place in
    let within : place < length b.tree.rows.items = omega (arith, c.requires.last, b.tree.rows.ok.0) in
    subst (λ r. r < whole.now.side) (sym (get_or_read b.tree.rows.items place c.index-row.result.now within c.index-row.ensures 0)) (s.underway.scanned.below place 0 within)

pub offer_row-requires-clause-sum : goal.offer_row-requires-clause-sum
offer_row-requires-clause-sum g c =
    let m = c.args.m.now in
    let M = g.M.Ordered.monoid_of m in
    let b = c.args.growth.now in
    let s = c.requires.search in
    let place = c.args.place in
    let within : place < length b.sums.items = omega (arith, c.requires.last, b.tree.rows.ok.0, s.underway.scanned.sums_side) in
    subst (IsValue M) (sym (get_or_read b.sums.items place c.index-entered.result.now within c.index-entered.ensures M.unit)) (s.underway.scanned.sums_values place M.unit within)

pub offer_row-requires-clause-unseen : goal.offer_row-requires-clause-unseen
offer_row-requires-clause-unseen g c =
    let whole = g.S.RowSquare.as_reduced c.args.reduced.now in
    subst (IsColumnSet whole.now.side) (sym c.deref.ensures.value) c.requires.search.unseen

pub offer_row-requires-clause-leads : goal.offer_row-requires-clause-leads
offer_row-requires-clause-leads g c k old here e =
    let m = c.args.m.now in
    let M = g.M.Ordered.monoid_of m in
    let laws = g.met.M.Ordered.laws m in
    let has = g.met.M.DMonoid.difference_laws m in
    let unseen = c.deref.ensures.value in
    let keys = c.deref_mut.ensures.value in
    let keyed = c.deref_mut-2.ensures.value in
    let places = c.deref_mut-3.ensures.value in
    search_leads laws has c.requires.search k old (subst (λ xs. HasColumn xs k) unseen here)
    (subst (λ A. A) (λ i. lead_at M (leads_of (keys i) (keyed i) (places i)) k ≡ Some old) e)

pub offer_row-requires-clause-nearest : goal.offer_row-requires-clause-nearest
offer_row-requires-clause-nearest g c =
    let unseen = sym c.deref.ensures.value in
    let keys = sym c.deref_mut.ensures.value in
    let keyed = sym c.deref_mut-2.ensures.value in
    let places = sym c.deref_mut-3.ensures.value in
    let nearest = sym c.deref_mut-4.ensures.value in
    subst (λ A. A) (λ i. AreNearest (g.M.Ordered.monoid_of c.args.m.now) (leads_of (keys i) (keyed i) (places i)) (unseen i) (nearest i)) c.requires.search.nearest

pub returns-clause-search : goal.returns-clause-search
returns-clause-search g c =
    let m = c.args.m.now in
    let M = g.M.Ordered.monoid_of m in
    let laws = g.met.M.Ordered.laws m in
    let d = g.M.DMonoid.difference m in
    let has = g.met.M.DMonoid.difference_laws m in
    let whole = g.S.RowSquare.as_reduced c.args.reduced.now in
    let b = c.args.growth.now in
    let s = c.requires.search in
    let place = c.args.place in
    let new = c.offer_row.new in
    let unseen = c.deref.ensures.value in
    let keys = c.deref_mut.ensures.value in
    let keyed = c.deref_mut-2.ensures.value in
    let places = c.deref_mut-3.ensures.value in
    let row = c.index-row.result.now in
    let entered = c.index-entered.result.now in
    let within : place < length b.tree.rows.items = omega (arith, c.requires.last, b.tree.rows.ok.0) in
    let within_sums : place < length b.sums.items = omega (arith, within, s.underway.scanned.sums_side) in
    let row_is = get_or_read b.tree.rows.items place row within c.index-row.ensures 0 in
    let sum_is = get_or_read b.sums.items place entered within_sums c.index-entered.ensures M.unit in
    let offers = subst (λ A. A) (λ i. OffersRow M (cell_at whole.now row) whole.now.side entered place (unseen i) (leads_of (keys i) (keyed i) (places i)) (leads_of new.keys new.keyed new.places)) c.offer_row.ensures.offers in
    let relaxed = offers.relaxes in
    let base = search_looked laws has s place refl within offers.values row entered row_is sum_is offers.are_values new.keys new.keyed new.places relaxed in
    let keys_back = sym (with_items_is b.keys new.keys (omega (arith, relaxed.keys_side, b.keys.ok.0))) in
    let keyed_back = sym (with_items_is b.keyed new.keyed (omega (arith, relaxed.keyed_side, b.keyed.ok.0))) in
    let places_back = sym (with_items_is b.tree.parents new.places (omega (arith, relaxed.places_side, b.tree.parents.ok.0))) in
    let are = c.offer_row.ensures.nearest in
    let nearest_back = sym (with_items_is b.nearest new.nearest (omega (arith, are.count, s.nearest.count, ap length unseen, b.nearest.ok.0))) in
    record {
      small = s.small;
      roomy = record {
        rows_room = s.roomy.rows_room;
        parents_side = s.roomy.parents_side;
        unseen_side = s.roomy.unseen_side;
        sums_room = s.roomy.sums_room;
        keys_room = s.roomy.keys_room;
        keyed_side = s.roomy.keyed_side;
        nearest_side = s.roomy.nearest_side;
        enters_side = s.roomy.enters_side;
        leaves_side = s.roomy.leaves_side;
        steps_room = s.roomy.steps_room;
        room_room = s.roomy.room_room;
      };
      keys_side = s.keys_side;
      unseen = s.unseen;
      underway = subst (λ A. A) (λ i. IsUnderway M d never whole.now.side (cell_at whole.now) whole.index c.args.matching.now b.tree.rows.items (parent_of (places_back i) b.tree.unseen.items) b.sums.items (lead_at M (leads_of (keys_back i) (keyed_back i) (places_back i))) (place_at (leads_of (keys_back i) (keyed_back i) (places_back i))) b.enters.items b.leaves.items b.steps.items c.args.sum (place + 1)) base;
      few_steps = omega (arith, s.few_steps);
      nearest = subst (λ A. A) (λ i. AreNearest M (leads_of (keys_back i) (keyed_back i) (places_back i)) (unseen i) (nearest_back i)) are;
    }

pub returns-clause-found : goal.returns-clause-found
returns-clause-found g c =
    let m = c.args.m.now in
    let M = g.M.Ordered.monoid_of m in
    let b = c.args.growth.now in
    let new = c.offer_row.new in
    let offers = c.offer_row.ensures.offers in
    let relaxed = offers.relaxes in
    let unseen = c.deref.ensures.value in
    let keys_len = ap length c.deref_mut.ensures.value in
    let keyed_len = ap length c.deref_mut-2.ensures.value in
    let places_len = ap length c.deref_mut-3.ensures.value in
    let keys_back = sym (with_items_is b.keys new.keys (omega (arith, relaxed.keys_side, keys_len, b.keys.ok.0))) in
    let keyed_back = sym (with_items_is b.keyed new.keyed (omega (arith, relaxed.keyed_side, keyed_len, b.keyed.ok.0))) in
    let places_back = sym (with_items_is b.tree.parents new.places (omega (arith, relaxed.places_side, places_len, b.tree.parents.ok.0))) in
    subst (λ A. A) (λ i. Picks M (lead_at M (leads_of (keys_back i) (keyed_back i) (places_back i))) (HasColumn (unseen i)) c.offer_row.result) c.offer_row.ensures.picks
