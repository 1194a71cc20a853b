-- A table of costs, cell by cell.
use Rattle.asg_networks.proofs.Common.{◌≡◌, ℕ, ◌+◌, ◌*◌, ◌/◌, ◌%◌, ◌<◌, ◌≤◌, true, false, cond, not, ◌||◌, List, [], ◌∷◌, map, length, get_or, take, set, replicate, ℤ, pos, IfSome, Some, None, All, Option, option_map, flat_map, option_and_then, int_eq, sym, refl, ap, ◌∙◌, subst, ⊎_elim, div-add-mod', arith, length-append, length-set, length-take-le, get_or-set_other, get_or-set_same, rules, eq-eqb, eqb-true, All-weaker, Decides-eqb, Decides-int_eq, and_from, and_parts, cases_Bool, cases_eq, div-mul-add, div_below, false≢true, get_or-flat_map, get_or-map, get_or-replicate, get_or_default, is_member-Decides, length-map, length-replicate, mod-mul-add, mod_below, same_Some, same_lists, mul-le-mul_right, absent, IsPartInRange, IsLayout, HasCell, cell_between, with_cost, are_same_ends, first_of, IsRightLink, Layout, Link}
use Rattle.asg_networks.specs.Networks.{firsts_between}
use Rattle.asg_networks.proofs.NetworkTables.{target_among}
use Rattle.asg_networks.specs.AsnArcs.{is_among, are_unlike, targets as targets_of}

-- a cell stands within its table
cell_below : (r c n m : ℕ) → r < n → c < m → r * m + c < n * m
cell_below r c n m row column =
    let next : r + 1 ≤ n = omega arith in
    let rows : r * m + m ≤ n * m = omega (arith, mul-le-mul_right m next) in
    omega arith

-- costs from sources to targets
module _ (known : ℕ → ℕ → Option ℤ) where
  pub length-firsts_between : (sources targets : List ℕ) → length (firsts_between known sources targets) ≡ length sources * length targets
  unfolding firsts_between
  length-firsts_between [] targets = omega arith
  length-firsts_between (s ∷ sources) targets =
      omega (arith, length-append (map (λ t. first_of (known s t)) targets) (firsts_between known sources targets), length-map targets (λ t. first_of (known s t)), length-firsts_between sources targets)

  module _ (sources targets : List ℕ) where
    -- the first part at a cell
    pub cell_is : (r c : ℕ) (d : ℤ) → r < length sources → c < length targets → get_or (firsts_between known sources targets) (r * length targets + c) d ≡ first_of (known (get_or sources r 0) (get_or targets c 0))
    unfolding firsts_between
    cell_is r c d row column =
        let f = λ (s : ℕ). map (λ t. first_of (known s t)) targets in
        let front : length (flat_map f (take r sources)) ≡ r * length targets = length-firsts_between (take r sources) targets ∙ ap (λ n. n * length targets) (length-take-le r sources (omega arith)) in
        let wide : c < length (f (get_or sources r 0)) = omega (arith, length-map targets (λ t. first_of (known (get_or sources r 0) t))) in
        ap (λ n. get_or (flat_map f sources) (n + c) d) (sym front) ∙ get_or-flat_map f sources r c 0 d row wide ∙ get_or-map (λ t. first_of (known (get_or sources r 0) t)) targets c 0 d column

    -- numbers with these at the cells are the table
    pub same_table : (xs : List ℤ) → length xs ≡ length sources * length targets → ((r c : ℕ) (d : ℤ) → r < length sources → c < length targets → get_or xs (r * length targets + c) d ≡ first_of (known (get_or sources r 0) (get_or targets c 0))) → xs ≡ firsts_between known sources targets
    same_table xs whole cells = same_lists xs (firsts_between known sources targets) (whole ∙ sym (length-firsts_between sources targets)) at
      where
        at : (k : ℕ) (d : ℤ) → k < length xs → get_or xs k d ≡ get_or (firsts_between known sources targets) k d
        at k d within =
            ⊎_elim
            (λ (none : length targets ≡ 0). absurd (omega (arith, whole, ap (λ m. length sources * m) none)))
            (λ some.
            let wide : 0 < length targets = omega arith in
            let row : k / length targets < length sources = div_below k (length targets) (length sources) wide (omega arith) in
            let column : k % length targets < length targets = mod_below k (length targets) wide in
            let place = div-add-mod' k (length targets) in
            subst (λ k. get_or xs k d ≡ get_or (firsts_between known sources targets) k d) place
            (cells (k / length targets) (k % length targets) d row column ∙ sym (cell_is (k / length targets) (k % length targets) d row column)))
            (cases_eq (length targets) 0)

-- a table without a cost
pub no_costs : (sources targets : List ℕ) (xs : List ℤ) → xs ≡ replicate (length sources * length targets) (first_of None) → xs ≡ firsts_between (λ s t. None) sources targets
no_costs sources targets xs is =
    is ∙ same_table (λ s t. None) sources targets (replicate (length sources * length targets) (first_of None)) (length-replicate (length sources * length targets) (first_of None)) (λ r c d row column. get_or-replicate (length sources * length targets) (r * length targets + c) (first_of None) d (cell_below r c (length sources) (length targets) row column))

-- equal either way
flip : (cost e : ℤ) → int_eq e cost ≡ not (not (int_eq cost e))
flip cost e =
    ⊎_elim
    (λ (same : int_eq e cost ≡ true). same ∙ ap (λ v. not (not v)) (sym ((Decides-int_eq cost e).1 (sym ((Decides-int_eq e cost).0 same)))))
    (λ (other : int_eq e cost ≡ false).
    ⊎_elim
    (λ (same : int_eq cost e ≡ true). absurd (false≢true (sym other ∙ (Decides-int_eq e cost).1 (sym ((Decides-int_eq cost e).0 same)))))
    (λ (still : int_eq cost e ≡ false). other ∙ ap (λ v. not (not v)) (sym still))
    (cases_Bool (int_eq cost e)))
    (cases_Bool (int_eq e cost))

-- the ends of a cell at a place of a table
pub record StandsAt (layout : Layout) (ends : ℕ × ℕ) (cell : ℕ) : Type 0 where
  pub row : ℕ
  pub column : ℕ
  pub row_within : row < length layout.sources.now
  pub column_within : column < length layout.targets.now
  pub source_is : get_or layout.sources.now row 0 ≡ ends.0
  pub target_is : get_or layout.targets.now column 0 ≡ ends.1
  pub cell_is_at : row * length layout.targets.now + column ≡ cell

module _ (layout : Layout) (is : IsLayout layout) (ends : ℕ × ℕ) where
  abbrev sources : List ℕ
  sources = layout.sources.now

  abbrev targets : List ℕ
  targets = layout.targets.now

  pub stands_at : (cell : ℕ) → cell_between layout ends ≡ Some cell → StandsAt layout ends cell
  stands_at cell told = go (get_or layout.rows.items ends.0 None) (get_or layout.columns.items ends.1 None) (is.rows.only ends.0) (is.columns.only ends.1) told
    where
      go : (row column : Option ℕ) → IfSome row (λ k. (k < length sources) × (get_or sources k 0 ≡ ends.0)) → IfSome column (λ k. (k < length targets) × (get_or targets k 0 ≡ ends.1)) → option_and_then (λ row. option_map (λ column. row * length targets + column) column) row ≡ Some cell → StandsAt layout ends cell
      go None column row_is column_is told = cc
      go (Some row) None row_is column_is told = cc
      go (Some row) (Some column) row_is column_is told = record {
        row = row;
        column = column;
        row_within = row_is.0;
        column_within = column_is.0;
        source_is = row_is.1;
        target_is = column_is.1;
        cell_is_at = same_Some _ _ told;
      }

  -- the place is within the table
  pub place_within : (cell : ℕ) → cell_between layout ends ≡ Some cell → cell < length sources * length targets
  place_within cell told =
      let at = stands_at cell told in
      subst (λ k. k < length sources * length targets) at.cell_is_at (cell_below at.row at.column (length sources) (length targets) at.row_within at.column_within)

  -- the place of a cell is told for its ends
  pub told_at : (r c : ℕ) → r < length sources → c < length targets → are_same_ends (get_or sources r 0, get_or targets c 0) ends ≡ true → cell_between layout ends ≡ Some (r * length targets + c)
  told_at r c row column same =
      let parts = and_parts _ _ same in
      let source : get_or sources r 0 ≡ ends.0 = eqb-true _ _ parts.0 in
      let target : get_or targets c 0 ≡ ends.1 = eqb-true _ _ parts.1 in
      let row_told : get_or layout.rows.items ends.0 None ≡ Some r = ap (λ id. get_or layout.rows.items id None) (sym source) ∙ is.rows.each r row in
      let column_told : get_or layout.columns.items ends.1 None ≡ Some c = ap (λ id. get_or layout.columns.items id None) (sym target) ∙ is.columns.each c column in
      (λ i. option_and_then (λ row. option_map (λ column. row * length targets + column) (column_told i)) (row_told i))

  module _ (known : ℕ → ℕ → Option ℤ) (cost : ℤ) where
    -- what stands at a cell once the cost is put
    put_at : (r c : ℕ) → are_same_ends (get_or sources r 0, get_or targets c 0) ends ≡ true → first_of (with_cost known ends cost (get_or sources r 0) (get_or targets c 0)) ≡ cost
    put_at r c same = ap {B = ℤ} (λ v. first_of (cond v (Some cost) (known (get_or sources r 0) (get_or targets c 0)))) same

    kept_at : (r c : ℕ) → are_same_ends (get_or sources r 0, get_or targets c 0) ends ≡ false → first_of (with_cost known ends cost (get_or sources r 0) (get_or targets c 0)) ≡ first_of (known (get_or sources r 0) (get_or targets c 0))
    kept_at r c apart = ap {B = ℤ} (λ v. first_of (cond v (Some cost) (known (get_or sources r 0) (get_or targets c 0)))) apart

    -- the cost is put at its place
    pub put_cell : (cell : ℕ) → cell_between layout ends ≡ Some cell → set (firsts_between known sources targets) cell cost ≡ firsts_between (with_cost known ends cost) sources targets
    put_cell cell told =
        let old = firsts_between known sources targets in
        let at = stands_at cell told in
        same_table (with_cost known ends cost) sources targets (set old cell cost) (length-set old cell cost ∙ length-firsts_between known sources targets)
        (λ r c d row column.
        let here = r * length targets + c in
        ⊎_elim
        (λ (same : are_same_ends (get_or sources r 0, get_or targets c 0) ends ≡ true).
        let is_cell : cell ≡ here = same_Some _ _ (sym told ∙ told_at r c row column same) in
        let within : here < length old = omega (arith, cell_below r c (length sources) (length targets) row column, length-firsts_between known sources targets) in
        ap (λ k. get_or (set old k cost) here d) is_cell ∙ get_or-set_same old here cost d within ∙ sym (put_at r c same))
        (λ (apart : are_same_ends (get_or sources r 0, get_or targets c 0) ends ≡ false).
        get_or-set_other old cell here cost d (λ there. absurd (false≢true (sym apart ∙ is_there at r c row column (there ∙ sym at.cell_is_at))))
        ∙ cell_is known sources targets r c d row column ∙ sym (kept_at r c apart))
        (cases_Bool (are_same_ends (get_or sources r 0, get_or targets c 0) ends)))
      where
        is_there : {cell : ℕ} (at : StandsAt layout ends cell) (r c : ℕ) → r < length sources → c < length targets → r * length targets + c ≡ at.row * length targets + at.column → are_same_ends (get_or sources r 0, get_or targets c 0) ends ≡ true
        is_there at r c row column same =
            let r_is : r ≡ at.row = sym (div-mul-add r (length targets) c column) ∙ ap (λ k. k / length targets) same ∙ div-mul-add at.row (length targets) at.column at.column_within in
            let c_is : c ≡ at.column = sym (mod-mul-add r (length targets) c column) ∙ ap (λ k. k % length targets) same ∙ mod-mul-add at.row (length targets) at.column at.column_within in
            and_from _ _ (eq-eqb _ _ (ap (λ k. get_or sources k 0) r_is ∙ at.source_is)) (eq-eqb _ _ (ap (λ k. get_or targets k 0) c_is ∙ at.target_is))

    -- whether another cost stands at its place
    pub told_alike : (cell : ℕ) → cell_between layout ends ≡ Some cell → (firsts : List ℤ) → firsts ≡ firsts_between known sources targets → IfSome (known ends.0 ends.1) IsPartInRange → (int_eq (get_or firsts cell (pos 0)) absent || int_eq (get_or firsts cell (pos 0)) cost) ≡ not (are_unlike (Some cost) (known ends.0 ends.1))
    told_alike cell told firsts is in_range =
        let at = stands_at cell told in
        let stands : get_or firsts cell (pos 0) ≡ first_of (known ends.0 ends.1) =
        (λ i. get_or (is i) (sym at.cell_is_at i) (pos 0)) ∙ cell_is known sources targets at.row at.column (pos 0) at.row_within at.column_within
        ∙ (λ i. first_of (known (at.source_is i) (at.target_is i))) in
        ap (λ a. int_eq a absent || int_eq a cost) stands ∙ alike (known ends.0 ends.1) in_range
      where
        alike : (o : Option ℤ) → IfSome o IsPartInRange → (int_eq (first_of o) absent || int_eq (first_of o) cost) ≡ not (are_unlike (Some cost) o)
        alike None h = ap (λ v. v || int_eq absent cost) ((Decides-int_eq absent absent).1 refl)
        alike (Some e) h =
            let apart : int_eq e absent ≡ false =
            ⊎_elim
            (λ (same : int_eq e absent ≡ true). let is = (Decides-int_eq e absent).0 same in absurd (omega (arith, subst IsPartInRange is h)))
            (λ (other : int_eq e absent ≡ false). other)
            (cases_Bool (int_eq e absent)) in
            ap (λ v. v || int_eq e cost) apart ∙ flip cost e

-- an arc from one of the sources to another node has a cell
pub right_cell : (layout : Layout) (nodes : ℕ) (link : Link) → IsLayout layout → layout.targets.now ≡ targets_of layout.sources.now nodes → IsRightLink layout.sources.now nodes link → HasCell layout link
right_cell layout nodes link is targets_are right =
    let row = (is_member-Decides Decides-eqb layout.sources.now link.source).0 right.source in
    let among : is_among layout.targets.now link.target ≡ true = ap (λ ids. is_among ids link.target) targets_are ∙ target_among layout.sources.now nodes link.target right.target right.target_above right.target_below in
    let column = (is_member-Decides Decides-eqb layout.targets.now link.target).0 among in
    let told = told_at layout is (link.source, link.target) row.0 column.0 row.1 column.1 (and_from _ _ (eq-eqb _ _ (get_or_default layout.sources.now row.0 0 link.source row.1 ∙ row.2)) (eq-eqb _ _ (get_or_default layout.targets.now column.0 0 link.target column.1 ∙ column.2))) in
    record {
      there = rw told (search rules);
      in_range = right.cost;
    }

pub right_cells : (layout : Layout) (nodes : ℕ) (links : List Link) → IsLayout layout → layout.targets.now ≡ targets_of layout.sources.now nodes → All (IsRightLink layout.sources.now nodes) links → All (HasCell layout) links
right_cells layout nodes links is targets_are right = All-weaker (IsRightLink layout.sources.now nodes) (HasCell layout) (λ link h. right_cell layout nodes link is targets_are h) links right
