-- The names that proofs of this crate cite most, passed on from one place. Declares nothing.
pub use Rattle.asg_model.proofs.Kit.{All, All-cons, All-push, Bool, Fits-lt-pow, IsSome, IsTrue, List, None, Option, Some, [], ap, append-nil, arith, bit_at, bit_at_ones, cases_eq, cases_lt, drop, drop_all, drop_more, eqb, eqb-true, false, false≢true, get_or, get_or_from_slice_get, inl, inr, is_some, le-leb, leb-true, length, length-drop, length-set, length-take, lt-ltb, ltb-true, map, min, not, option_map, refl, slice_get_within, slice_index, slice_set, subst, sum_by_more_le, sym, take, take-append-drop, take_all, take_more, true, true≢false, ℕ, ⊎_elim, ◌%◌, ◌&&◌, ◌*◌, ◌++◌, ◌+◌, ◌-◌, ◌/◌, ◌<◌, ◌↔◌, ◌∙◌, ◌∷◌, ◌≡◌, ◌≢◌, ◌≤◌, ◌⊎◌}
pub use Rattle.asg_admit.specs.Admission.{AreCounted}
pub use Rattle.asg_admit.specs.Settled.{AllowsSteps, cell_after, settled, step_of}
pub use Rattle.asg_admit.specs.laws.AdmissionLemmas.{never, not_both}
pub use Rattle.asg_admit.specs.laws.SettledCells.{after_phase-cell, square_after-cell}
pub use Rattle.asg_bit_rows.specs.WordBits.{HasBit}
pub use Rattle.asg_cell_tables.specs.CellTable.{AreValuesOf}
pub use Rattle.asg_monoids.specs.BoundedSums.{bounded_difference, bounded_sums}
pub use Rattle.asg_phase_totals.specs.Duals.{FitCells, FitsAt, FitsRow, IsGreaterOf, IsGreatest, sum_before}
pub use Rattle.asg_phase_totals.specs.PhaseTotals.{AreOrdered, AreTotals, CanPrecede, CountAndRaise, CountsRight, EndAtLeast0, EndsSegment, EndsWell, IsClosed, IsKeptOrClosed, IsLoweredBy, KeepsTotals, StayBelow, Totals, cell_after_all, column_raise, row_raise, sum_of_steps, sum_to, totals_of}
pub use Rattle.asg_phase_totals.specs.SumNumbers.{numbered}
pub use Rattle.asg_phase_totals.specs.laws.NumberLemmas.{all_is, count_is, kept_is, part_at, phase_count_is, phase_is, read_is, sum_more, sum_rises, written_is}
pub use Rattle.asg_phase_totals.specs.laws.PresentLemmas.{column_within, value_is, values_are, words_are}
pub use Rattle.asg_phase_totals.specs.laws.SumLemmas.{allowed_fits, before_rises, fits_allowed, settled_is}
pub use Rattle.asg_proof.specs.Phases.{AreAdmittedPhases, IsAdmittedPhase, PhaseOf, after_phase, after_phases, entered_at, index_of, phase_of, staying_at}
pub use Rattle.asg_proof.specs.Steps.{count_below}
pub use Rattle.asg_proof.specs.laws.PhaseLists.{AreAdmittedPhases-append, AreAdmittedPhases-front}
pub use Rattle.asg_square.specs.Grid.{cell_at}
pub use Rattle.std.specs.List.{sum}
