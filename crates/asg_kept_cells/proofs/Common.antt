-- The names that proofs of this crate cite most, passed on from one place. Declares nothing.
pub use Rattle.asg_model.proofs.Kit.{All, All-get_or, All-nil, All-push, AllPairs, Bool, Fits-lt-pow, IfSome, IsTrue, List, None, Option, Some, [], all_pairs_push, and_parts, ap, arith, bit_at, bit_at-zero, bit_or, cases_Bool, cases_eq, cases_lt, cond, cond-false, cond-true, drop, eq-eqb, eqb, eqb-true, false, false_from_ne_true, false≢true, fun_ext, get_or, get_or-map-range_with_len, get_or-take, get_or_default, get_or_from_slice_get, get_or_past, get_or_read, inl, inr, is_some, le-leb, le-ltb, leb-true, length, length-map, length-map-range_with_len, length-take-le, list_any, list_any-append, lt-ltb, ltb-false, ltb-true, map, map-append, max, min, nat_lt, ne_eqb, none-some, not, not-true, option_and_then, option_map_or, refl, same_Some, slice_get-get_or, slice_get_past, slice_index, slice_index_or, subst, suc, sum_by, sum_by-take-le, sum_by_more, sym, take, take-append-drop, take-map, take-take, take_all, take_more, trailing_zeros, true, w64, zero, ℕ, ⊎_elim, ◌%◌, ◌&&◌, ◌*◌, ◌++◌, ◌+◌, ◌-◌, ◌/◌, ◌<◌, ◌==◌, ◌||◌, ◌∙◌, ◌∷◌, ◌≡◌, ◌≢◌, ◌≤◌, ◌⊎◌}
pub use Rattle.asg_admit.specs.Reduced.{IsPhaseTo, IsReduced, KeepsLabels}
pub use Rattle.asg_admit.specs.declared.reduced.Reduced.{Reduced}
pub use Rattle.asg_admit.specs.laws.KeptLabels.{chained_labels, same_labels}
pub use Rattle.asg_bit_rows.specs.BitTable.{BitTable, PutsColumns, PutsOnly, has_bit, is_bit_set, is_from_to, word_count}
pub use Rattle.asg_bit_rows.specs.WordBits.{HasBit}
pub use Rattle.asg_bit_rows.specs.laws.Words.{bit_in_row, bit_of, in_run, is_and, is_with, is_without, of_bit, out_of_run, run_parts, same_bool}
pub use Rattle.asg_kept_cells.specs.Copies.{AreCopies, StandInOrder, is_before, is_copy, keeps_alone, keeps_others}
pub use Rattle.asg_kept_cells.specs.Halls.{AreMetIn, AreRowsOf, counted_place}
pub use Rattle.asg_kept_cells.specs.Kept.{HasKept, HasSize, IsFront, IsMaskOf, IsNumbered, KeepsOtherRows, MarksNumbered, MarksRow, MarksRows, TakesOutBits, TakesOutRow, TakesOutRows, keeps_label, kept_cells}
pub use Rattle.asg_kept_cells.specs.MaskedPhases.{AreAdmittedWithin, HaveIndexAfter}
pub use Rattle.asg_kept_cells.specs.SingleSteps.{AllowsColumn, AllowsColumns, IsAtMostCell}
pub use Rattle.asg_kept_cells.specs.laws.KeptSquares.{from_kept, keeps-bit, none_kept, outside}
pub use Rattle.asg_model.specs.Counts.{capacity_at, is_counted, is_counted_by}
pub use Rattle.asg_model.specs.HallSet.{is_counted_id, row_place_of}
pub use Rattle.asg_model.specs.Live.{is_active}
pub use Rattle.asg_model.specs.Problem.{Problem}
pub use Rattle.asg_model.specs.Shapes.{square_side}
pub use Rattle.asg_model.specs.Sums.{count_below, one}
pub use Rattle.asg_model.specs.ValidChoice.{Chooses, takes}
pub use Rattle.asg_model.specs.declared.parts.Column.{Column}
pub use Rattle.asg_order.specs.Monoid.{IsOrderedMonoid, IsValue, Monoid, fold_of}
pub use Rattle.asg_order.specs.declared.words.Word.{Word}
pub use Rattle.asg_proof.specs.Phases.{AreAdmittedPhases, AreAdmittedSteps, IsAdmittedPhase, PhaseOf, after_phase, after_phases, entered_at, phase_of, staying_at, worded}
pub use Rattle.asg_proof.specs.Steps.{HasSide, HasValues, IsAdmittedStep, stepped}
pub use Rattle.asg_proof.specs.laws.PhaseLists.{AreAdmittedPhases-front, steps_value}
pub use Rattle.asg_proof.specs.laws.Squares.{HasSide-cell_at}
pub use Rattle.asg_replays.specs.Replays.{AreAdmittedFrom, AreReplayed, IsAdmittedFrom, IsFirstBad, IsReplayed}
pub use Rattle.asg_replays.specs.laws.PhaseWords.{admitted-take, phase-once, phases-once}
pub use Rattle.asg_replays.specs.laws.Replaying.{phase-words, refused-words, replayed-none, replayed-push, unread-words}
pub use Rattle.asg_square.specs.Grid.{Grid, HasLabelsOf, IsGrid, cell_at}
pub use Rattle.asg_square.specs.Labels.{column_label, copies, first_copy, row_label}
pub use Rattle.asg_square.specs.Masked.{keeps, masked_grid}
pub use Rattle.asg_square.specs.laws.Masks.{cell_at-masked, kept_some}
