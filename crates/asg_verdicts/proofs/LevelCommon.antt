-- The names that proofs of this crate cite most, passed on from one place. Declares nothing.
pub use Rattle.asg_model.proofs.Kit.{Bool, Decides-int_eq, IfOk-weaker, IfSome, IsSome, IsTrue, List, None, Option, Some, [], and_parts, ap, arith, bit_and, bit_at-zero, bool_byte, cases_Bool, cases_eq, cases_lt, cond, eq-eqb, eqb, eqb-true, false, false≢true, filter-append, filter_map, fun_ext, get_or, get_or-map-range_with_len, get_or-set_other, get_or-set_same, get_or_default, get_or_from_slice_get, inl, inr, int_eq, int_lt, ints, is_some, le-leb, length, length-map-range_with_len, length-set, ltb, map, nat_lt, none-some, not, of_z, option_map, option_map_or, option_to_list, pos, range_with_len, refl, rules, same_Some, same_lists, slice_get, slice_get-get_or, slice_set, subst, suc, sum_by, sum_by-append, sum_by-cons, sym, take, take_all, take_more, to_z, to_z-of_z, true, unsigned_abs, w64, zero, ℕ, ℤ, ⊎_elim, ◌%◌, ◌&&◌, ◌*◌, ◌++◌, ◌+◌, ◌-◌, ◌/◌, ◌<◌, ◌==◌, ◌^◌, ◌↔◌, ◌∙◌, ◌∷◌, ◌≡◌, ◌≢◌, ◌≤◌, ◌⊎◌}
pub use Rattle.asg_bit_rows.specs.BitTable.{AreWordsOf, BitTable, IsBitTable, PutsBit, has_bit, is_bit_set, word_count}
pub use Rattle.asg_bit_rows.specs.laws.Places.{place_hit, place_missed}
pub use Rattle.asg_bit_rows.specs.laws.Words.{bit_in_row, is_and}
pub use Rattle.asg_cell_tables.specs.LabelledCells.{corner_cell, extra_column_cell, labelled_cell}
pub use Rattle.asg_verdicts.specs.LevelBits.{AreSizedBits, HasPhases, KeepsOthers, bits_at, value_in, value_of}
pub use Rattle.asg_verdicts.specs.LevelReasons.{AreColumns, IsColumnList, IsNoLevelAt, LevelsStand, cost_before, left_before}
pub use Rattle.asg_verdicts.specs.LevelWalks.{HasPassed, IsBehind, IsCostSquare, IsDue, IsLeft, IsRefused, IsSized, counts_for, free_cost, level_value, passes_cost}
pub use Rattle.asg_verdicts.specs.declared.level_walks.Walk.{Walk}
pub use Rattle.asg_verdicts.specs.laws.LevelTold.{Admitted, from_parts, hold_tells, level_tells, no_columns_told, not_in_all_told, numbers_back, to_parts, within_all}
pub use Rattle.asg_levels.specs.UnitLists.{AreUnits, MarkZeros}
pub use Rattle.asg_levels.specs.UnitSteps.{bit_square}
pub use Rattle.asg_model.specs.Instances.{IsInstance}
pub use Rattle.asg_model.specs.Limits.{most_cost}
pub use Rattle.asg_model.specs.Live.{live_at}
pub use Rattle.asg_model.specs.Problem.{Problem}
pub use Rattle.asg_model.specs.Shapes.{square_side}
pub use Rattle.asg_model.specs.Values.{chosen_cost, costs_at, costs_of}
pub use Rattle.asg_model.specs.declared.parts.Cost.{Cost}
pub use Rattle.asg_model.specs.declared.parts.Place.{Place}
pub use Rattle.asg_model.specs.declared.parts.Place.TheVariants.{All, Exactly}
pub use Rattle.asg_monoids.specs.BoundedSums.{bounded_difference, plain_word}
pub use Rattle.asg_proof.specs.Levels.{IsLeftAssignment, IsLevel, counted_as, has_cost, is_after, is_between, is_zero, last_cost, left_after, left_for, left_last, left_so_far, level_square, level_sums, numbers_of, without}
pub use Rattle.asg_proof.specs.Phases.{AreAdmittedPhases, after_phases, index_of}
pub use Rattle.asg_proof.specs.declared.levels.Level.{Level}
pub use Rattle.asg_proof.specs.laws.PhaseLists.{index_is_value, is_some-phases}
pub use Rattle.asg_verdicts.specs.Verdicts.{Tells, level_reasons}
pub use Rattle.asg_replays.specs.Replays.{AreAdmittedFrom, AreReplayed, IsFirstBad}
pub use Rattle.asg_square.specs.Cells.{choice_of, chosen_by, square_cell}
pub use Rattle.asg_square.specs.Grid.{Grid, HasLabelsOf, IsGrid, IsSquareBy, cell_at}
pub use Rattle.asg_square.specs.Labels.{column_label, row_label}
pub use Rattle.std.specs.Option.{option_and_then}
