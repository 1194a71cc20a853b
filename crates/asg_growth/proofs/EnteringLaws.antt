-- A row that enters the tree of a search.
use Rattle.asg_growth.proofs.Common.{◌≡◌, ℕ, ◌+◌, ◌/◌, ◌<◌, ◌≤◌, true, cond, eqb, ◌≢◌, List, length, get_or, set, Some, vec_len, vec_capacity, Option, sym, refl, ap, ◌∙◌, subst, ⊎_elim, arith, ne_eqb, eqb_tells, never, leads_in, IsSearch, Enters, CanRenew, Renews, leads_of, lead_at, place_at, IsLeast, AreNearest, IsUnderway, search_leads, all_rows, least, column_below, AreNearest-set, HasColumn, IsColumnSet, most_side, Monoid, IsLe, IsOrderedMonoid, Grid, cell_at}
use Rattle.asg_match.specs.Matching.{Matches}
use Rattle.asg_match.specs.Searched.{parents_in}
use Rattle.asg_order.specs.Differences.{HasDifferences}
use Rattle.asg_growth.specs.declared.growth.Growth.{Growth}
use Rattle.asg_growth.specs.laws.UnderwayLaws.{IsUnderway-enter, rows_room}

same_column : (n : ℕ) → eqb n n ≡ true
same_column n = ⊎_elim (λ t. t.0) (λ f. absurd (f.1 refl)) (eqb_tells n n)

module _ {V : Type 0} {M : Monoid V} (laws : IsOrderedMonoid M) {difference : V → V → V} (has : HasDifferences M difference) {Q : Grid V} {index : V} {m : List (Option ℕ)} {b : Growth V} {sum : V} {seen : ℕ} (search : IsSearch M difference Q index m b sum seen) (all_seen : vec_len b.tree.rows ≡ seen) {column : ℕ} (w : IsLeast M (lead_at M (leads_in b)) (HasColumn b.tree.unseen.items) column) (low : IsLe M w.key sum) (next : ℕ) (matched : Matches m next column) where
  abbrev unseen : List ℕ
  unseen = b.tree.unseen.items

  below : column < Q.side
  below = column_below laws has search all_seen w

  -- there was room for one more row
  search_room : vec_len b.tree.rows < Q.side
  search_room =
      let place = get_or b.tree.parents.items column 0 in
      let after = λ (d : ℕ). cond (eqb d column) (Some place) (parents_in b.tree d) in
      let here : after column ≡ Some place = ap (λ x. cond x (Some place) (parents_in b.tree column)) (same_column column) in
      let others : (d : ℕ) → d ≢ column → after d ≡ parents_in b.tree d = λ d n. ap (λ x. cond x (Some place) (parents_in b.tree d)) (ne_eqb d column n) in
      omega (arith, b.tree.rows.ok.0, rows_room M laws difference has never Q.side (cell_at Q) index m b.tree.rows.items (parents_in b.tree) b.sums.items (lead_at M (leads_in b)) (place_at (leads_in b)) b.enters.items b.leaves.items b.steps.items sum seen search.underway (all_rows laws has search all_seen w) column (least laws has search all_seen w) low next matched after here others)

  -- one more row, with its sum and its mark, fits into the memory
  pub can_enter : (vec_len b.tree.rows < vec_capacity b.tree.rows) × (vec_len b.sums < vec_capacity b.sums) × (vec_len b.steps ≤ most_side)
  can_enter =
      let room = search_room in (
        omega (arith, room, search.roomy.rows_room),
        omega (arith, room, search.roomy.sums_room, search.underway.scanned.sums_side, b.tree.rows.ok.0, b.sums.ok.0),
        omega (arith, room, search.small, search.few_steps, all_seen),
      )

  module _ {b' : Growth V} (e : Enters b b' next column sum) where
    lead_kept : lead_at M (leads_in b') ≡ lead_at M (leads_in b)
    lead_kept = λ i. lead_at M (leads_of (e.kept.keys i).items (e.kept.keyed i).items (e.kept.parents i).items)

    -- the nearest column of the word of the column that was reached can be found anew
    pub can_renew : CanRenew M m b' column
    can_renew =
        let keys : vec_len b'.keys ≡ Q.side = ap (λ v. vec_len v) e.kept.keys ∙ search.keys_side in
        record {
          valued = λ k key h f. search_leads laws has search k key ((e.reached k).0 h).0 (sym (ap (λ l. l k) lead_kept) ∙ f);
          unseen = subst (λ n. IsColumnSet n b'.tree.unseen.items) (search.roomy.parents_side ∙ sym keys) e.unseen;
          small = omega (arith, keys, search.small);
          below = omega (arith, keys, below);
          matching_side = search.underway.searching.growing.matching_side ∙ sym keys;
          keyed_side = ap (λ v. vec_len v) e.kept.keyed ∙ search.roomy.keyed_side ∙ sym (e.unseen_len ∙ search.roomy.unseen_side);
          nearest_side = ap (λ v. vec_len v) e.kept.nearest ∙ search.roomy.nearest_side ∙ sym (e.unseen_len ∙ search.roomy.unseen_side);
        }

    -- after that the columns are the nearest ones of their words
    renewed_nearest : (b'' : Growth V) → Renews M b' b'' column → AreNearest M (leads_in b') b'.tree.unseen.items b''.nearest.items
    renewed_nearest b'' r =
        subst (AreNearest M (leads_in b') b'.tree.unseen.items) (sym (r.nearest ∙ ap (λ v. set v.items (column / 64) r.found) e.kept.nearest))
        (AreNearest-set M (leads_in b) (leads_in b') unseen b'.tree.unseen.items b.nearest.items (column / 64) r.found
        (omega (arith, below, search.unseen.count))
        (sym b'.tree.unseen.ok.0 ∙ e.unseen_len ∙ b.tree.unseen.ok.0)
        (λ k other. (λ h. ((e.reached k).0 h).0, λ h. (e.reached k).1 (h, λ same. other (ap (λ n. n / 64) same))))
        (λ k _ _. ap (λ l. l k) lead_kept)
        r.picks search.nearest)

    -- a row entered
    pub search_entered : (b'' : Growth V) → Renews M b' b'' column → IsSearch M difference Q index m b'' sum seen
    search_entered b'' r =
        let now = IsUnderway-enter M laws difference has never Q.side (cell_at Q) index m b.tree.rows.items (parents_in b.tree) b.sums.items (lead_at M (leads_in b)) (place_at (leads_in b)) b.enters.items b.leaves.items b.steps.items sum seen search.underway (all_rows laws has search all_seen w) column (least laws has search all_seen w) low next matched (parents_in b'.tree) e.here e.others in
        let entered : b'.enters.items ≡ set b.enters.items next (length b.steps.items) = e.enters ∙ ap (set b.enters.items next) b.steps.ok.0 in
        let left : b'.leaves.items ≡ set b.leaves.items column (length b.steps.items) = e.leaves ∙ ap (set b.leaves.items column) b.steps.ok.0 in
        let k = e.kept in
        let after : Growth V = record b' { nearest = b''.nearest } in
        let entered_search : IsSearch M difference Q index m after sum seen = record {
          small = search.small;
          roomy = record {
            rows_room = subst (λ n. Q.side ≤ n) (sym e.rows_room) search.roomy.rows_room;
            parents_side = ap (λ v. vec_len v) k.parents ∙ search.roomy.parents_side;
            unseen_side = e.unseen_len ∙ search.roomy.unseen_side;
            sums_room = subst (λ n. Q.side ≤ n) (sym e.sums_room) search.roomy.sums_room;
            keys_room = subst (λ v. Q.side ≤ vec_capacity v) (sym k.keys) search.roomy.keys_room;
            keyed_side = ap (λ v. vec_len v) k.keyed ∙ search.roomy.keyed_side;
            nearest_side = b''.nearest.ok.0 ∙ (renewed_nearest b'' r).count ∙ sym b'.tree.unseen.ok.0 ∙ e.unseen_len ∙ search.roomy.unseen_side;
            enters_side = e.enters_len ∙ search.roomy.enters_side;
            leaves_side = e.leaves_len ∙ search.roomy.leaves_side;
            steps_room = subst (λ v. Q.side ≤ vec_capacity v) (sym k.steps) search.roomy.steps_room;
            room_room = subst (λ v. Q.side + 1 ≤ vec_capacity v) (sym k.room) search.roomy.room_room;
          };
          keys_side = ap (λ v. vec_len v) k.keys ∙ search.keys_side;
          unseen = subst (λ n. IsColumnSet n b'.tree.unseen.items) search.roomy.parents_side e.unseen;
          underway = subst (λ A. A) (λ i. IsUnderway M difference never Q.side (cell_at Q) index m ((sym e.rows) i) (parents_in b'.tree) ((sym e.sums) i) (lead_at M (leads_of ((sym k.keys) i).items ((sym k.keyed) i).items ((sym k.parents) i).items)) (place_at (leads_of ((sym k.keys) i).items ((sym k.keyed) i).items ((sym k.parents) i).items)) ((sym entered) i) ((sym left) i) ((sym k.steps) i).items sum seen) now;
          few_steps = subst (λ v. vec_len v ≤ seen) (sym k.steps) search.few_steps;
          nearest = renewed_nearest b'' r;
        } in
        subst (λ n. IsSearch M difference Q index m n sum seen) (sym r.kept) entered_search
