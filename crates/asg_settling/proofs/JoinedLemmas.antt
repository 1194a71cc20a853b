-- Joined steps: what they make of a cell is what the steps make of it.
use Rattle.asg_settling.proofs.Common.{◌≡◌, ℕ, zero, suc, ◌+◌, ◌<◌, ◌≤◌, min, cond, leb, List, length, get_or, set, slice_index, All, sym, refl, ap, ◌∙◌, subst, ⊎_elim, arith, get_or-set_other, get_or-set_same, le-leb, cases_lt, get_or_default, lt-leb, step_of, between, settled, SettlesPhase, map_alike, Monoid, IsValue, IsOrderedMonoid, IsJoined, PlacesFrom, Grid, cell_at}
use Rattle.asg_order.specs.Differences.{HasDifferences}
use Rattle.asg_proof.specs.Phases.{phase_of}
use Rattle.asg_proof.specs.Steps.{HasValues}
use Rattle.asg_admit.specs.LeastCells.{HasNoneBetween}
use Rattle.asg_admit.specs.laws.SettledCells.{IsTwice, between-none, between-more, between-split, between_is_value, cell_after-inside, cell_after-outside, cell_after-cut}

module _ {V : Type 0} (M : Monoid V) (steps : List V) (enters leaves : List ℕ) where
  abbrev product_of : ℕ → ℕ → V
  product_of = between M (step_of M steps)

  -- nothing is joined yet
  pub joined_none : (products : List V) (rows columns : List ℕ) → ((r : ℕ) → r < length enters → slice_index rows r ≡ 0) → ((k : ℕ) → k < length leaves → slice_index columns k ≡ 0) → IsJoined M steps enters leaves 0 products 0 rows columns
  joined_none products rows columns row column = record {
    mark = λ i. 0;
    first = refl;
    last = refl;
    grows = λ i h. absurd (omega (arith, h));
    product = λ i h. absurd (omega (arith, h));
    row = λ r h. (omega (arith, row r h), omega arith);
    column = λ k h. (omega (arith, column k h), omega arith);
  }

  module _ (upto : ℕ) (products : List V) (count : ℕ) (rows columns : List ℕ) (joined : IsJoined M steps enters leaves upto products count rows columns) where
    -- there are no more places than steps
    pub place_le : (i : ℕ) → i ≤ count → i ≤ joined.mark i
    place_le zero h = omega arith
    place_le (suc i) h =
        let next : i + 1 ≡ suc i = omega arith in
        omega (arith, place_le i (omega (arith, h)), joined.grows i (omega (arith, h)), ap joined.mark next)

    pub mark_le : (i j : ℕ) → i ≤ j → j ≤ count → joined.mark i ≤ joined.mark j
    mark_le i zero h k =
        let at : i ≡ 0 = omega (arith, h) in
        omega (arith, ap joined.mark at)
    mark_le i (suc j) h k =
        ⊎_elim
        (λ (before : i < suc j).
        let next : j + 1 ≡ suc j = omega arith in
        omega (arith, mark_le i j (omega (arith, before)) (omega (arith, k)), joined.grows j (omega (arith, k)), ap joined.mark next))
        (λ (last : suc j ≤ i).
        let at : i ≡ suc j = omega (arith, h, last) in
        omega (arith, ap joined.mark at))
        (cases_lt i (suc j))

    module _ (to : ℕ) (order : upto < to) (v : V) (is : v ≡ product_of upto to) (room : count < length products) where
      abbrev mark_to : ℕ → ℕ
      mark_to i = cond (leb i count) (joined.mark i) to

      low : (i : ℕ) → i ≤ count → mark_to i ≡ joined.mark i
      low i h = ap (λ b. cond b (joined.mark i) to) (le-leb i count h)

      high : (i : ℕ) → count < i → mark_to i ≡ to
      high i h = ap (λ b. cond b (joined.mark i) to) (lt-leb i count h)

      -- a mark before the next one has the place that it had, and the others the next place
      placed : (marks before after : List ℕ) → HasNoneBetween marks upto to → PlacesFrom marks to (count + 1) before after → (i : ℕ) → i < length marks
          → (slice_index before i ≤ count) × (joined.mark (slice_index before i) ≡ min (slice_index marks i) upto)
          → (slice_index after i ≤ count + 1) × (mark_to (slice_index after i) ≡ min (slice_index marks i) to)
      placed marks before after none places i h was =
          let mark = slice_index marks i in
          ⊎_elim
          (λ (early : mark < to).
          let by : mark ≤ upto = ⊎_elim (λ (yes : mark ≤ upto). yes) (λ (late : to ≤ mark). absurd (omega (arith, early, late))) (none i h) in
          let same = places.others i h early in
          let cut : min mark upto ≡ min mark to = omega (arith, by, order) in (
            omega (arith, same, was.0),
            ap mark_to same ∙ low (slice_index before i) was.0 ∙ was.1 ∙ cut,
          ))
          (λ (late : to ≤ mark).
          let here = places.here i h late in
          let cut : to ≡ min mark to = omega (arith, late) in
          (omega (arith, here), ap mark_to here ∙ high (count + 1) (omega arith) ∙ cut))
          (cases_lt mark to)

      -- the steps up to the next mark were joined too
      pub joined_more : HasNoneBetween enters upto to → HasNoneBetween leaves upto to → (rows′ columns′ : List ℕ) → PlacesFrom enters to (count + 1) rows rows′ → PlacesFrom leaves to (count + 1) columns columns′ → IsJoined M steps enters leaves to (set products count v) (count + 1) rows′ columns′
      joined_more entering leaving rows′ columns′ row_places column_places = record {
        mark = mark_to;
        first = low 0 (omega arith) ∙ joined.first;
        last = high (count + 1) (omega arith);
        grows = λ i h.
            ⊎_elim
            (λ (early : i < count). omega (arith, low i (omega (arith, early)), low (i + 1) (omega (arith, early)), joined.grows i early))
            (λ (late : count ≤ i).
            let at : i ≡ count = omega (arith, late, h) in
            omega (arith, low i (omega (arith, at)), ap joined.mark at, joined.last, high (i + 1) (omega (arith, at)), order))
            (cases_lt i count);
        product = λ i h.
            ⊎_elim
            (λ (early : i < count).
            get_or-set_other products count i v M.unit (λ e. omega (arith, e, early))
            ∙ joined.product i early
            ∙ ap (λ a. product_of a (joined.mark (i + 1))) (sym (low i (omega (arith, early))))
            ∙ ap (product_of (mark_to i)) (sym (low (i + 1) (omega (arith, early)))))
            (λ (late : count ≤ i).
            let at : i ≡ count = omega (arith, late, h) in
            ap (λ j. get_or (set products count v) j M.unit) at
            ∙ get_or-set_same products count v M.unit room
            ∙ is
            ∙ ap (λ a. product_of a to) (sym (low i (omega (arith, at)) ∙ ap joined.mark at ∙ joined.last))
            ∙ ap (product_of (mark_to i)) (sym (high (i + 1) (omega (arith, at)))))
            (cases_lt i count);
        row = λ r h. placed enters rows rows′ entering row_places r h (joined.row r h);
        column = λ k h. placed leaves columns columns′ leaving column_places k h (joined.column k h);
      }

module _ {V : Type 0} (M : Monoid V) (laws : IsOrderedMonoid M) (difference : V → V → V) (has : HasDifferences M difference) (twice : IsTwice M difference) (steps : List V) (vs : All (IsValue M) steps) (enters leaves : List ℕ) (products : List V) (count : ℕ) (rows columns : List ℕ) (joined : IsJoined M steps enters leaves (length steps) products count rows columns) (joints : List V) (size : length joints ≡ count) (same : (i : ℕ) → i < count → step_of M joints i ≡ get_or products i M.unit) where
  abbrev step : ℕ → V
  step = step_of M steps

  abbrev joint : ℕ → V
  joint = step_of M joints

  abbrev mark : ℕ → ℕ
  mark = joined.mark

  step_value : (t : ℕ) → t < length steps → IsValue M (step t)
  step_value t h = vs t M.unit h

  few : (i : ℕ) → i ≤ count → mark i ≤ length steps
  few i h = omega (arith, mark_le M steps enters leaves (length steps) products count rows columns joined i count h (omega arith), joined.last)

  joint_is : (i : ℕ) → i < count → joint i ≡ between M step (mark i) (mark (i + 1))
  joint_is i h = same i h ∙ joined.product i h

  joint_value : (i : ℕ) → i < length joints → IsValue M (joint i)
  joint_value i h =
      let below : i < count = omega (arith, h, size) in
      subst (IsValue M) (sym (joint_is i below))
      (between_is_value M laws difference has twice step (length steps) step_value (mark i) (mark (i + 1)) (few (i + 1) (omega (arith, below))))

  pub joints_are_values : All (IsValue M) joints
  joints_are_values i d h = subst (IsValue M) (get_or_default joints i M.unit d h) (joint_value i h)

  -- a product of joined steps is one of steps
  joint_between : (i j : ℕ) → i ≤ j → j ≤ count → between M joint i j ≡ between M step (mark i) (mark j)
  joint_between i zero h k =
      let at : i ≡ 0 = omega (arith, h) in
      sym (between-none M laws difference has twice step (mark i) (mark 0) (omega (arith, ap mark at)))
  joint_between i (suc j) h k =
      let next : j + 1 ≡ suc j = omega arith in
      ⊎_elim
      (λ (before : i < suc j).
      let below : j < count = omega (arith, k) in
      let up : mark j ≤ mark (suc j) = omega (arith, joined.grows j below, ap mark next) in
      between-more M laws difference has twice joint i j (omega (arith, before))
      ∙ ap (λ y. M.product y (joint j)) (joint_between i j (omega (arith, before)) (omega (arith, below)))
      ∙ ap (M.product (between M step (mark i) (mark j))) (joint_is j below ∙ ap (λ n. between M step (mark j) (mark n)) next)
      ∙ sym (between-split M laws difference has twice step (length steps) step_value (mark i) (mark j) (mark (suc j))
      (mark_le M steps enters leaves (length steps) products count rows columns joined i j (omega (arith, before)) (omega (arith, below))) up (few (suc j) k)))
      (λ (last : suc j ≤ i).
      let at : i ≡ suc j = omega (arith, h, last) in
      between-none M laws difference has twice joint i (suc j) last
      ∙ sym (between-none M laws difference has twice step (mark i) (mark (suc j)) (omega (arith, ap mark at))))
      (cases_lt i (suc j))

  -- a cell after the joined steps is that after the steps
  pub joined_settled : (r k : ℕ) (x : V) → r < length enters → k < length leaves → IsValue M x → settled M difference joints (slice_index rows r) (slice_index columns k) x ≡ settled M difference steps (slice_index enters r) (slice_index leaves k) x
  joined_settled r k x hr hk vx =
      let n = length steps in
      let i = slice_index rows r in
      let j = slice_index columns k in
      let row = joined.row r hr in
      let column = joined.column k hk in
      let mi : mark i ≤ n = few i row.0 in
      let mj : mark j ≤ n = few j column.0 in
      let cut : settled M difference steps (mark i) (mark j) x ≡ settled M difference steps (slice_index enters r) (slice_index leaves k) x =
      ap (λ a. settled M difference steps a (mark j) x) row.1
      ∙ ap (λ b. settled M difference steps (min (slice_index enters r) n) b x) column.1
      ∙ cell_after-cut M laws difference has twice step (slice_index enters r) (slice_index leaves k) n x n (omega arith) in
      ⊎_elim
      (λ (early : j < i).
      let here : min i (length joints) ≡ i = omega (arith, row.0, size) in
      let there : mark i ≡ min (mark i) n = omega (arith, mi) in
      cell_after-outside M laws difference has twice joint (length joints) joint_value i j x vx (omega (arith, early)) (length joints) (omega arith)
      ∙ ap (λ a. M.product (between M joint j a) x) here
      ∙ ap (λ y. M.product y x) (joint_between j i (omega (arith, early)) row.0 ∙ ap (between M step (mark j)) there)
      ∙ sym (cell_after-outside M laws difference has twice step n step_value (mark i) (mark j) x vx
      (mark_le M steps enters leaves n products count rows columns joined j i (omega (arith, early)) row.0) n (omega arith))
      ∙ cut)
      (λ (late : i ≤ j).
      let here : min j (length joints) ≡ j = omega (arith, column.0, size) in
      let there : mark j ≡ min (mark j) n = omega (arith, mj) in
      cell_after-inside M laws difference has twice joint (length joints) joint_value i j x vx late (length joints) (omega arith)
      ∙ ap (λ b. difference x (between M joint i b)) here
      ∙ ap (difference x) (joint_between i j late column.0 ∙ ap (between M step (mark i)) there)
      ∙ sym (cell_after-inside M laws difference has twice step n step_value (mark i) (mark j) x vx
      (mark_le M steps enters leaves n products count rows columns joined i j late column.0) n (omega arith))
      ∙ cut)
      (cases_lt j i)

  -- so is a square
  pub joined_phase : (before after : Grid V) → length enters ≡ before.side → length leaves ≡ before.side → HasValues M before.side (cell_at before) → SettlesPhase M difference (phase_of joints rows columns) before after → SettlesPhase M difference (phase_of steps enters leaves) before after
  joined_phase before after row_count column_count values settles = record {
    labels = settles.labels;
    cells = λ r k hr hk.
        settles.cells r k hr hk
        ∙ map_alike (settled M difference joints (slice_index rows r) (slice_index columns k)) (settled M difference steps (slice_index enters r) (slice_index leaves k)) (cell_at before r k)
        (λ x is. joined_settled r k x (omega (arith, hr, row_count)) (omega (arith, hk, column_count)) (values r k x hr hk is));
  }
