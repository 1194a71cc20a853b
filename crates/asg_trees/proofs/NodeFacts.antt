-- What the instance of a node has of the whole one: labels, numbers, counted rows, and valid
-- choices.
use Rattle.asg_trees.proofs.Common.{◌≡◌, ℕ, ◌+◌, ◌<◌, ◌≤◌, Bool, true, false, cond, ◌&&◌, List, length, get_or, is_some, IsSome, nat_lt, Some, None, Option, sym, refl, ap, ◌∙◌, subst, arith, lt-ltb, All-get_or, get_or-map-range_with_len, option_map_or, ChoosesKept, HasKept, capacity_at, is_counted_by, is_live_within, IsInstance, most_capacity, is_active, live_at, Problem, square_side, Chooses, IsValid, Whole, Cost, is_active-from_live, row-from_active, no_column, child, keeps_cell, node_instance, Node, kept-within, Grid, HasLabelsOf, cell_at, OutnumberColumns, masked_grid, has_cell}
use Rattle.asg_model.specs.declared.parts.Column.{Column}
use Rattle.asg_square.specs.Labels.{column_label, first_copy, row_label}
use Rattle.asg_cell_tables.specs.LabelledCells.{is_labelled_within}
use Rattle.asg_square.specs.laws.Copies.{capacity_is, copy_below, label_at}
use Rattle.asg_square.specs.laws.Rows.{copies_within, rows_within}
use Rattle.asg_rankings.specs.laws.ChildCells.{live-from_child}
use Rattle.asg_model.specs.declared.parts.Place.TheVariants.{All as PlaceAll}
use Rattle.asg_values.specs.laws.LiveCells.{column-from_live}
use Rattle.asg_values.specs.laws.Options.{some_there}

module _ (X : Problem) (answers : List (List (Option ℕ))) (nodes : List Node) (n : ℕ) where
  abbrev Z : Problem
  Z = node_instance X answers nodes n

  pub side-of_node : square_side Z ≡ square_side X
  side-of_node = kept-within X answers nodes (λ Y. square_side Y ≡ square_side X) refl (λ Y f branch e. e) n n

  pub active-of_node : (r : ℕ) → is_active Z r ≡ is_active X r
  active-of_node r = kept-within X answers nodes (λ Y. is_active Y r ≡ is_active X r) refl (λ Y f branch e. e) n n

  pub keeps_cell-node : (f : List (Option ℕ)) (branch r k : ℕ) → keeps_cell Z f branch r k ≡ keeps_cell X f branch r k
  keeps_cell-node f branch r k = kept-within X answers nodes (λ Y. keeps_cell Y f branch r k ≡ keeps_cell X f branch r k) refl (λ Y g b e. e) n n

  pub columns-to_node : (has : ℕ → ℕ → Bool) (ids : List ℕ) → OutnumberColumns X has ids → OutnumberColumns Z has ids
  columns-to_node has ids = kept-within X answers nodes (λ Y. OutnumberColumns X has ids → OutnumberColumns Y has ids) (λ o. o) (λ Y f branch up o. let u = up o in record { different = u.different; counted = u.counted; short = u.short }) n n

  pub columns-from_node : (has : ℕ → ℕ → Bool) (ids : List ℕ) → OutnumberColumns Z has ids → OutnumberColumns X has ids
  columns-from_node has ids = kept-within X answers nodes (λ Y. OutnumberColumns Y has ids → OutnumberColumns X has ids) (λ o. o) (λ Y f branch up o. up (record { different = o.different; counted = o.counted; short = o.short })) n n

  -- a valid choice whose cells are live in a node's instance is valid there
  pub valid-to_node : (g : List (Option ℕ)) → IsValid X g → ((r d : ℕ) → Chooses g r d → IsSome (live_at Z r d)) → IsValid Z g
  valid-to_node g valid =
      kept-within X answers nodes (λ Y. ((r d : ℕ) → Chooses g r d → IsSome (live_at Y r d)) → IsValid Y g) (λ alive. valid)
      (λ Y f branch up alive.
      let over = up (λ r d chooses.
      let some = some_there (live_at (child Y f branch) r d) (alive r d chooses) in
      subst IsSome (sym (live-from_child Y f branch r d some.0 some.1).1) refl) in
      record { over = over.over; alive = alive; within = over.within; counted = over.counted })
      n n

whole_live : (o : Option Cost) → option_map_or (λ cost. true) o false ≡ true → IsSome o
whole_live None e = absurd (cc e)
whole_live (Some x) e = refl

live_whole : (o : Option Cost) → IsSome o → option_map_or (λ cost. true) o false ≡ true
live_whole None h = absurd (cc h)
live_whole (Some x) h = refl

module _ {V : Type 0} (Z : Problem) (all : Z.place ≡ PlaceAll) (instance : IsInstance Z) (Q : Grid V) (bits : List ℕ) (labels : HasLabelsOf Z Q) (present : (r k : ℕ) → is_some (cell_at (masked_grid Q bits) r k) ≡ has_cell Z Whole r k) where
  label : (k : ℕ) → k < square_side Z → get_or Q.column_labels k None ≡ column_label Z k
  label k below =
      ap (λ xs. get_or xs k None) labels.column_labels
      ∙ get_or-map-range_with_len (column_label Z) 0 (square_side Z) k k None below (omega arith)

  active_label : (r : ℕ) → is_active Z r ≡ true → row_label Z r ≡ Some r
  active_label r active =
      ap (λ place. cond (is_counted_by place (is_active Z r) (nat_lt r (length Z.rows))) (Some r) None) all
      ∙ ap (λ b. cond b (Some r) None) active

  -- where an active row has a cell in a copy of a column, its cell there is live
  cell_is : (r k d : ℕ) → r < square_side Z → k < square_side Z → is_active Z r ≡ true → column_label Z k ≡ Some d → has_cell Z Whole r k ≡ is_live_within Z Whole r d
  cell_is r k d hr hk active at =
      (λ i. lt-ltb r (square_side Z) hr i && lt-ltb k (square_side Z) hk i && is_labelled_within Z Whole (active_label r active i) (at i))

  active_below : (r : ℕ) → is_active Z r ≡ true → r < square_side Z
  active_below r active =
      let there = row-from_active Z r active in
      let few = rows_within Z instance.well_formed.place_in_range in
      omega (arith, there, few)

  pub live-from_kept : (r d : ℕ) → is_active Z r ≡ true → HasKept Q bits r d → IsSome (live_at Z r d)
  live-from_kept r d active has =
      let hk : has.column < square_side Z = subst (λ n. has.column < n) labels.side has.within in
      let at = sym (label has.column hk) ∙ has.label in
      whole_live (live_at Z r d)
      (sym (cell_is r has.column d (active_below r active) hk active at) ∙ sym (present r has.column) ∙ has.kept)

  pub kept-from_live : (r d : ℕ) → IsSome (live_at Z r d) → HasKept Q bits r d
  kept-from_live r d live =
      let active = is_active-from_live Z r d live in
      let column = column-from_live Z r d live in
      let room : 0 < capacity_at Z d = omega (arith, capacity_is Z d no_column column, (All-get_or (λ (c : Column). (1 ≤ c.cap) × (c.cap ≤ most_capacity)) Z.columns d no_column column instance.well_formed.capacities).0) in
      let k = first_copy Z d + 0 in
      let hk : k < square_side Z = omega (arith, copy_below Z d 0 room, copies_within Z) in
      let at = label_at Z d 0 room in
      record {
        column = k;
        within = subst (λ n. k < n) (sym labels.side) hk;
        label = label k hk ∙ at;
        kept = present r k ∙ cell_is r k d (active_below r active) hk active at ∙ live_whole (live_at Z r d) live;
      }

  -- the cells that a choice takes in active rows are kept where they are live
  pub chooses-from_live : (g : List (Option ℕ)) → ((r d : ℕ) → Chooses g r d → IsSome (live_at Z r d)) → ChoosesKept Q bits g
  chooses-from_live g alive r d chooses = kept-from_live r d (alive r d chooses)

-- a square with the labels of a node's instance has those of the whole one
pub labels-from_node : {V : Type 0} (X : Problem) (answers : List (List (Option ℕ))) (nodes : List Node) (n : ℕ) (Q : Grid V) → HasLabelsOf (node_instance X answers nodes n) Q → HasLabelsOf X Q
labels-from_node X answers nodes n Q =
    kept-within X answers nodes (λ Y. HasLabelsOf Y Q → HasLabelsOf X Q) (λ l. l)
    (λ Y f branch up l. up (record { side = l.side; rows = l.rows; row_labels = l.row_labels; column_labels = l.column_labels })) n n
