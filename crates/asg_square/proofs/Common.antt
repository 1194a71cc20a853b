-- The names that proofs of this crate cite most, passed on from one place. Declares nothing.
pub use Rattle.asg_model.proofs.Kit.{All, AllPairs, Bool, Decides-ltb, IfOk-weaker, IfSome, IsSome, List, None, Option, Some, [], ap, append_assoc, arith, bit_and, cases_Bool, cases_lt, cases_order, cond, cons_option, count_by, eq-eqb, eqb, false, false≢true, fill_by_all, filter_map, fold, get_or, get_or-map-range_with_len, get_or_past, is_some, le-ltb, length, length-map-range_with_len, lt-ltb, ltb, map, map-range_with_len_more, nat_lt, ne_eqb, none-some, not, option_map, option_map_or, range_with_len, refl, same_Some, same_lists, slice_get, slice_get-get_or, slice_get_past, slice_get_within, slice_index, subst, suc, sym, true, zero, ℕ, ⊎_elim, ◌&&◌, ◌*◌, ◌++◌, ◌+◌, ◌-◌, ◌<◌, ◌∙◌, ◌∷◌, ◌≡◌, ◌≢◌, ◌≤◌}
pub use Rattle.asg_cell_tables.specs.CellTable.{IsCellTable, entry_at, is_present_at, table_at}
pub use Rattle.asg_cell_tables.specs.Filling.{AreFilled}
pub use Rattle.asg_cell_tables.specs.LabelledCells.{corner_cell, extra_column_cell, has_corner, is_labelled_within, labelled_cell, leaves_rows}
pub use Rattle.asg_model.specs.Counts.{active_count, capacity_at, counted_by, is_counted, is_counted_by, placed, placed_by, total_capacity}
pub use Rattle.asg_model.specs.Instances.{IsPlaceInRange}
pub use Rattle.asg_model.specs.Live.{is_active, live_at}
pub use Rattle.asg_model.specs.Problem.{Problem}
pub use Rattle.asg_model.specs.Shapes.{side_by, square_side}
pub use Rattle.asg_model.specs.Sums.{count_below, one, passing_below, sum_below}
pub use Rattle.asg_model.specs.ValidChoice.{Chooses, IsValid, takes}
pub use Rattle.asg_model.specs.declared.bands.Band.TheVariants.{Whole}
pub use Rattle.asg_model.specs.declared.parts.Cost.{Cost}
pub use Rattle.asg_model.specs.declared.parts.Place.{Place}
pub use Rattle.asg_model.specs.laws.Counting.{sum_below-add, sum_below-le, sum_below-same, sum_below-zero, sum_by-below, term-le-sum_below}
pub use Rattle.asg_model.specs.laws.Rows.{counted-from_active, counted_total, is_active-from_live, ones_below}
pub use Rattle.asg_square.specs.Cells.{IsAssignment, IsPresent, assignment_values, choice_of, chosen_by, entered_or_free, square_cell}
pub use Rattle.asg_square.specs.ChoiceAssignment.{chosen, own_copy, perm_column, perm_list, takers_before}
pub use Rattle.asg_square.specs.Completion.{completed, free_columns, is_free, lacks}
pub use Rattle.asg_square.specs.Grid.{CoversSquareOf, Grid, HasCellsOf, HasLabelsOf, HasPresenceOf, IsPerm, IsPermOf, IsSquareOf, IsWithinSquareOf, cell_at, grid_choice, grid_chosen}
pub use Rattle.asg_square.specs.Labels.{column_label, copies, first_copy, row_label}
pub use Rattle.asg_square.specs.laws.Bijections.{completed_apart, completed_below, completed_none, completed_some, count-not, permute-count, rank-less, rank_within, same-rank, sum_below-split, sum_below-upto, top_high, top_low}
pub use Rattle.asg_square.specs.laws.Copies.{copy_below, count-copies_at, count-labels, label_at, label_in, label_past, length-copies}
pub use Rattle.asg_square.specs.laws.Rows.{copies_within, count-map, row-from_counted, rows_within}
pub use Rattle.std.specs.Option.{option_and_then, unwrap_or}
