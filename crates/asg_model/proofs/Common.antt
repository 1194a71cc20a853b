-- The names that proofs of this crate cite most, passed on from one place. Declares nothing.
pub use Rattle.asg_model.proofs.Kit.{All, All-cons, All-from_get_or, All-head, All-map, All-nil, All-same, All-tail, All-weaker, AllByRecursion, AllPairs, Bool, Decides-eqb, Decides-int_eq, Decides-ltb, Equal, Err, FoldsTo, Global, Greater, IfSome, IsStrictlySortedBy, Less, List, None, Ok, OnErr, OnOk, OnSome, Option, Ordering, Result, Some, Vec, [], add-zero, and_parts, ap, arith, below_more, cases_Bool, cases_eq, cases_lt, cases_order, cond, cond-false, cond-true, cons_option, count_by, div-add-mod', div-mul-add, div-mul-le_self, div_below, drop, enumerate_from, eq-eqb, eqb, eqb-true, false, false_from_ne_true, false≢true, filter_map, get_or, get_or-drop, get_or-map, get_or-set_other, get_or-set_same, get_or-take, get_or_default, get_or_past, inl, inr, insert_entry, int_eq, is_at, is_eq, keys_of, le-div, le-ltb, leb-false, leb-true, length, length-drop, length-map, length-set, length-take, length-take-le, lookup, lt-ltb, ltb, map, map_over_more, match_ordering, min, mod-mul-add, mod_below, mul-add-lt, nat_cmp, nat_cmp_is, nat_le, nat_lt, nat_tests, on_ok_weaker, option_and_then, option_map, option_map_or, ordering_then, pos, position, position-Some, position_or_len, position_or_len_is, refl, remove_entry, rules, same_lists, set, slice_get, slice_get-get_or, slice_get_past, subst, suc, sum_by, sum_by-cons, sym, take, true, zero, ℕ, ℤ, ⊎_elim, ◌%◌, ◌&&◌, ◌*◌, ◌++◌, ◌+◌, ◌-◌, ◌/◌, ◌<◌, ◌==◌, ◌^◌, ◌∙◌, ◌∷◌, ◌≡◌, ◌≢◌, ◌≤◌, ◌⊎◌}
pub use Rattle.asg_model.specs.CellStores.{IsCellStore, IsCopyOf, IsStoreOf, IsStored, PutsInTable, cells_in, slot_of, stored_problem}
pub use Rattle.asg_model.specs.Counts.{active_count, total_capacity}
pub use Rattle.asg_model.specs.Edits.{closed, dropped, with_cell}
pub use Rattle.asg_model.specs.HallSet.{column_place_of, row_place_of}
pub use Rattle.asg_model.specs.Instances.{IsCostInRange, IsInstance, IsPlaceInRange, IsWellFormed, by_places}
pub use Rattle.asg_model.specs.Limits.{most_capacity}
pub use Rattle.asg_model.specs.Live.{cost_at}
pub use Rattle.asg_model.specs.Problem.{Problem, problem_of}
pub use Rattle.asg_model.specs.Retained.{AnswersAs, RetainsCells, retained}
pub use Rattle.asg_model.specs.Shapes.{IsPlaceOutOfRange, is_range_of, shaped, with_capacity}
pub use Rattle.asg_model.specs.Table.{AreTableParts, IsEntry, IsTable, RetainsFirsts, absent, table_cell, table_cells, table_cost}
pub use Rattle.asg_model.specs.declared.cell_store.CellStore.{CellStore}
pub use Rattle.asg_model.specs.declared.cell_store.CellStore.TheVariants.{Listed, Map, Table}
pub use Rattle.asg_model.specs.declared.parts.Column.{Column}
pub use Rattle.asg_model.specs.declared.parts.Cost.{Cost}
pub use Rattle.asg_model.specs.declared.parts.Place.{Place}
pub use Rattle.asg_model.specs.declared.parts.Row.{Row}
pub use Rattle.asg_model.specs.laws.Retained.{All-retained, AreCellsOf-instance, IsInstance-cells, kept_from_answers}
pub use Rattle.asg_model.specs.laws.Rows.{cost_at-All, no_column, no_row}
