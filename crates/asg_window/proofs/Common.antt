-- The names that proofs of this crate cite most, passed on from one place. Declares nothing.
pub use Rattle.asg_model.proofs.Kit.{All, All-cons, All-contains, All-get_or, All-map, All-nil, All-push, All-weaker, Bool, Contains, Contains-append_left, Contains-push, FitsSigned, IfNone, IfOk-weaker, IfSome, IsNonDecreasingBy, IsSome, IsTrue, List, None, OnFalse_at, OnTrue_at, Option, Some, [], ap, arith, below_more, bit_at, bit_or, cases_eq, cases_lt, cond, false, false≢true, fold, fold-int_max_bounds, fold-int_min_bounds, get_or, get_or-map, get_or-set_other, get_or-set_same, get_or_append_left, get_or_default, get_or_past, get_or_push, get_or_read, inl, inr, int_le, int_max, int_min, ints, is_some, le-ltb, length, length-map, length-set, length_push, list_any, list_any-append, list_any_at, lt-ltb, map, map_push, nat_lt, negsuc, none-some, option_and_then, option_map, option_map_or, pos, refl, same_Some, set, slice_get_past, slice_index, slice_index_or, subst, suc, sym, to_z-of_z, true, unsigned_abs, w64, with_items_is, zero, ℕ, ℤ, ⊎_elim, ◌%◌, ◌&&◌, ◌*◌, ◌++◌, ◌+ℤ◌, ◌+◌, ◌-ℤ◌, ◌-◌, ◌/◌, ◌<◌, ◌||◌, ◌↔◌, ◌∙◌, ◌∷◌, ◌≡◌, ◌≤ℤ◌, ◌≤◌, ◌⊎◌}
pub use Rattle.asg_bit_rows.specs.BitTable.{AreWordsOf, BitTable, IsBitTable, PutsBit, has_bit}
pub use Rattle.asg_cell_tables.specs.LabelledCells.{corner_cell, extra_column_cell, has_corner, is_labelled_within, labelled_cell, leaves_rows}
pub use Rattle.asg_live_cells.specs.Grades.{cost_of, free_grade, grade_of}
pub use Rattle.asg_live_cells.specs.LiveCells.{AreEntries, IsBefore, IsPlaceOf, entry_at, entry_of}
pub use Rattle.asg_live_cells.specs.Marks.{IsMarked, IsNamed, MarksFewer, MarksMore}
pub use Rattle.asg_live_cells.specs.declared.live_cells.Entry.{Entry}
pub use Rattle.asg_live_cells.specs.laws.Entries.{all_under, before_next, below_place, from_place, place_of_entry, places_ordered}
pub use Rattle.asg_live_cells.specs.laws.Grades.{cost_back, grade_above, grade_upto}
pub use Rattle.asg_match.specs.ColumnSet.{HasBit, HasColumn}
pub use Rattle.asg_match.specs.Deficient.{IsColumnOf, IsDeficient}
pub use Rattle.asg_match.specs.Matching.{IsPerfect, Matches}
pub use Rattle.asg_match.specs.laws.Choices.{chosen_live, costs_at_row, costs_each, costs_some, from_if_some, greatest-le, if_some, least-ge}
pub use Rattle.asg_model.specs.DifferentCosts.{HasCosts}
pub use Rattle.asg_model.specs.Instances.{IsInstance}
pub use Rattle.asg_model.specs.Limits.{most_cost}
pub use Rattle.asg_model.specs.Live.{cost_at, is_active, is_open, live_at}
pub use Rattle.asg_model.specs.Problem.{Problem}
pub use Rattle.asg_model.specs.Shapes.{square_side}
pub use Rattle.asg_model.specs.Values.{choice_value, chosen_cost, costs_of, first_parts}
pub use Rattle.asg_model.specs.declared.bands.Band.TheVariants.{Between, Whole}
pub use Rattle.asg_model.specs.declared.objectives.Objective.TheVariants.{Balanced}
pub use Rattle.asg_model.specs.declared.parts.Cost.{Cost}
pub use Rattle.asg_model.specs.declared.parts.Place.{Place}
pub use Rattle.asg_model.specs.laws.Tests.{both_tests}
pub use Rattle.asg_proof.specs.Windows.{IsHallWindow, ProvesSpread, ProvesWindows, holds_from, is_held}
pub use Rattle.asg_proof.specs.declared.windows.Window.{Window}
pub use Rattle.asg_proof.specs.laws.LiveCosts.{first_part_in_range}
pub use Rattle.asg_square.specs.Cells.{choice_of, entered_or_free, square_cell}
pub use Rattle.asg_square.specs.Grid.{Grid, IsPerm, IsSquareOf, cell_at, grid_choice}
pub use Rattle.asg_square.specs.Labels.{column_label, first_copy, row_label}
pub use Rattle.asg_square.specs.laws.Rows.{copies_within, rows_within}
pub use Rattle.asg_window.specs.Ascents.{AddsGap, IsAscent}
pub use Rattle.asg_window.specs.Assignments.{IsAssignmentWithin, IsMarkedAssignment, IsSpread}
pub use Rattle.asg_window.specs.Bands.{IsWithin, MarksFreeBefore, MarksWithin}
pub use Rattle.asg_window.specs.CostWindows.{AddsWindow, IsBandWindow, IsWindowBy}
pub use Rattle.asg_window.specs.DistinctGrades.{AreGradesOf, IsAscending}
pub use Rattle.asg_window.specs.Extremes.{AreExtremes, IsOneMore}
pub use Rattle.asg_window.specs.Gaps.{AreChained, IsGap, IsLeast, ShowLeast, low_at}
pub use Rattle.asg_window.specs.Grades.{no_bound}
pub use Rattle.asg_window.specs.Reaching.{AreReachedBelow, GetNoColumn, HasRoom, IsRowMarked, Reaches}
pub use Rattle.asg_window.specs.declared.gaps.Gap.{Gap}
