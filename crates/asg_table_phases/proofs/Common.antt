-- The names that proofs of this crate cite most, passed on from one place. Declares nothing.
pub use Rattle.asg_model.proofs.Kit.{All-get_or, Bool, IfSome, IsTrue, List, None, Option, Some, [], and_parts, ap, arith, cases_lt, cond, drop, drop_all, drop_more, false, false≢true, get_or, inl, inr, int_eq, ints, length, length-map, map, min, nat_lt, option_map, option_map_or, pos, refl, same_Some, slice_get_past, slice_index, slice_index_or, subst, sum_by, sum_by_more, sym, true, unsigned_abs, ℕ, ℤ, ⊎_elim, ◌&&◌, ◌*◌, ◌+ℤ◌, ◌+◌, ◌-ℤ◌, ◌-◌, ◌<◌, ◌∙◌, ◌∷◌, ◌≡◌, ◌≢◌, ◌≤ℤ◌, ◌≤◌, ◌⊎◌}
pub use Rattle.asg_admit.specs.laws.PhaseValues.{admitted_over, admitted_values, words_over}
pub use Rattle.asg_cell_tables.specs.LabelledCells.{corner_cell, extra_column_cell, labelled_cell}
pub use Rattle.asg_model.specs.Counts.{capacity_at, is_counted}
pub use Rattle.asg_model.specs.Instances.{IsInstance}
pub use Rattle.asg_model.specs.Limits.{most_columns, most_cost}
pub use Rattle.asg_model.specs.Live.{cost_at, is_active, is_open, live_at}
pub use Rattle.asg_model.specs.Problem.{Problem}
pub use Rattle.asg_model.specs.Refused.{PassesNegative}
pub use Rattle.asg_model.specs.Shapes.{square_side}
pub use Rattle.asg_model.specs.Table.{AreRowParts, absent, table_cost}
pub use Rattle.asg_model.specs.declared.objectives.Objective.{Objective}
pub use Rattle.asg_model.specs.declared.objectives.Objective.TheVariants.{Capped, Sum, SumMax, SumPair}
pub use Rattle.asg_model.specs.declared.parts.Cost.{Cost}
pub use Rattle.asg_monoids.specs.BoundedSums.{bounded_difference, bounded_sums, narrow_top, plain_word}
pub use Rattle.asg_monoids.specs.Entered.{cost_reach, is_sum_objective, shifted, sum_entered, top_of, turned}
pub use Rattle.asg_phase_totals.specs.PhaseTotals.{AreTotals, CountAndRaise, EndAtLeast0, StayBelow, Totals, sum_of_steps}
pub use Rattle.asg_proof.specs.Phases.{AreAdmittedPhases, PhaseOf, index_of, phase_of, worded}
pub use Rattle.asg_proof.specs.laws.LiveCosts.{first_part_in_range, lies_within}
pub use Rattle.asg_square.specs.Cells.{square_cell}
pub use Rattle.asg_square.specs.Labels.{column_label, first_copy, row_label}
pub use Rattle.asg_table_phases.specs.Sizes.{AreSized}
pub use Rattle.asg_table_phases.specs.TableRows.{AreTops, EndCopies, FitCells, FitFree, FitTotals, FitsCosts, FitsRow, FitsRows, is_free_cell, top_for}
