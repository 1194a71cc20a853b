-- The names that proofs of this crate cite most, passed on from one place. Declares nothing.
pub use Rattle.asg_model.proofs.Kit.{All, All-contains, All-nil, All-push, AllPairs, Bool, Contains, Decides-eqb, Decides-int_eq, FitsSigned, IfSome, IsSome, List, None, Option, Some, [], and_from, and_parts, ap, arith, cases_Bool, cases_eq, cases_lt, cond, cons_option, count_by-le-length, eqb-true, false, false≢true, filter_map, get_or, get_or-map, get_or-range_with_len, get_or_default, inl, inr, int_eq, int_le, int_lt, ints, is_some, leb, length, length-map, length-range_with_len, ltb, map, nat_le, nat_lt, nat_tests, none-some, not, not_from_false, option_map, option_map_or, pos, range_with_len, refl, rules, same_Some, slice_get_within, subst, suc, sum, sum_by-cons, sym, to_z-of_z, true, unsigned_abs, zero, ℕ, ℤ, ⊎_elim, ◌&&◌, ◌*◌, ◌++◌, ◌+ℤ◌, ◌+◌, ◌-◌, ◌<◌, ◌==◌, ◌^◌, ◌↔◌, ◌∙◌, ◌∷◌, ◌≡◌, ◌≢◌, ◌≤ℤ◌, ◌≤◌, ◌⊎◌}
pub use Rattle.asg_bit_rows.specs.BitTable.{BitTable, IsBitTable, has_bit, word_count}
pub use Rattle.asg_cell_tables.specs.LabelledCells.{corner_cell, extra_column_cell, has_corner, is_labelled_within, labelled_cell, leaves_rows}
pub use Rattle.asg_levels.specs.Tight.{Tightens, is_tight}
pub use Rattle.asg_levels.specs.UnitSteps.{AreDuals, CountsStep, IsBitSquare, bit_square, unit_phase}
pub use Rattle.asg_levels.specs.laws.UnitLists.{HasSide-bits, counts_more, square_is, units_more}
pub use Rattle.asg_levels.specs.laws.UnitSteps.{entered_test, staying_test, tight_where, zero_where}
pub use Rattle.asg_lex.specs.Groups.{Frees, FreesNamed}
pub use Rattle.asg_lex.specs.LevelWork.{AreSized, GoesOn, IsNamedRow, IsUnderway, LeavesOut, TakesLevel, first_square, square_now}
pub use Rattle.asg_lex.specs.Marked.{AreZeroAt, IsAmong, IsMatchedAmong}
pub use Rattle.asg_lex.specs.MarkedCells.{MarksZeros}
pub use Rattle.asg_lex.specs.Runs.{AreMarksOf, before_of, is_gone, left_of}
pub use Rattle.asg_lex.specs.Starts.{AreUnder, AreUnderBefore}
pub use Rattle.asg_lex.specs.UnitPhases.{SplitsTree}
pub use Rattle.asg_lex.specs.declared.level_work.Work.{Work}
pub use Rattle.asg_live_cells.specs.Grades.{cost_of, free_grade, grade_of, most_grade}
pub use Rattle.asg_live_cells.specs.LiveCells.{AreEntriesUnder, IsPlaceOf, entry_at, entry_of}
pub use Rattle.asg_live_cells.specs.Marks.{IsMarked, IsNamed, MarksFewer}
pub use Rattle.asg_live_cells.specs.UnderWords.{MarksUnder, is_under}
pub use Rattle.asg_live_cells.specs.declared.live_cells.Entry.{Entry}
pub use Rattle.asg_live_cells.specs.declared.marks.Marks.{Marks}
pub use Rattle.asg_match.specs.Augmentation.{IsStuck}
pub use Rattle.asg_match.specs.HallSets.{AllowsCells}
pub use Rattle.asg_match.specs.Matching.{AllAllowed, IsMatched, IsMatching, IsPerfect, Matches, column_at}
pub use Rattle.asg_match.specs.laws.Cells.{has_cell-within}
pub use Rattle.asg_match.specs.laws.Matchings.{Some-from_test}
pub use Rattle.asg_model.specs.Instances.{IsInstance}
pub use Rattle.asg_model.specs.Limits.{most_cost, most_side}
pub use Rattle.asg_model.specs.Live.{live_at}
pub use Rattle.asg_model.specs.Problem.{Problem}
pub use Rattle.asg_model.specs.Shapes.{square_side}
pub use Rattle.asg_model.specs.ValidChoice.{Chooses, IsValid}
pub use Rattle.asg_model.specs.declared.bands.Band.TheVariants.{Under, Whole}
pub use Rattle.asg_model.specs.declared.parts.Cost.{Cost}
pub use Rattle.asg_model.specs.declared.parts.Place.{Place}
pub use Rattle.asg_monoids.specs.BoundedSums.{bounded_difference}
pub use Rattle.asg_order.specs.declared.words.Word.{Word}
pub use Rattle.asg_proof.specs.LevelLists.{AreLevelParts, IsLevelPart}
pub use Rattle.asg_proof.specs.Levels.{IsLeftAssignment, IsProvedLevel, ProvesLevels, counted_as, has_cost, is_after, is_between, is_zero, left_after, left_for, left_last, level_square, level_sums, numbers_of, without}
pub use Rattle.asg_proof.specs.Phases.{AreAdmittedPhases, AreAdmittedSteps, ArePhases, IsAdmittedPhase, IsPhase, PhaseOf, after_phase, after_phases, entered_at, index_of, staying_at}
pub use Rattle.asg_proof.specs.PromisedProofs.{IsUnitLevel, IsUnitPhase}
pub use Rattle.asg_proof.specs.Steps.{HasSide, HasValues, count_below, moved}
pub use Rattle.asg_proof.specs.declared.levels.Level.{Level}
pub use Rattle.asg_proof.specs.laws.LevelTurns.{AreProvedFrom-push, last_cost-push, left_last-is, left_so_far-push}
pub use Rattle.asg_proof.specs.laws.LiveCosts.{first_part_in_range}
pub use Rattle.asg_proof.specs.laws.PhaseLists.{HasSide-phases, is_some-phases}
pub use Rattle.asg_square.specs.Cells.{IsAssignment, assignment_values, choice_of, square_cell}
pub use Rattle.asg_square.specs.Grid.{Grid, IsPerm, IsSquareOf, cell_at, grid_choice}
pub use Rattle.asg_square.specs.Labels.{column_label, row_label}
pub use Rattle.asg_square.specs.Presence.{has_cell}
