-- The names that proofs of this crate cite most, passed on from one place. Declares nothing.
pub use Rattle.asg_model.proofs.Kit.{All, All-push, Bool, IfOk, IsSome, IsTrue, List, None, Option, Some, [], add-mod_left, ap, arith, bit_and, bit_at, bit_at-lt, bit_at-zero, bit_at_cat_high, bit_at_cat_low, bit_at_ones, bit_at_or, bit_mask_l, bit_or, cases_Bool, cases_eq, cases_lt, chunk, cond, div-add-mod', div-lt_iff_lt-mul, div-mul-add, false, false≢true, get_or, get_or-chunk, get_or-map-range_with_len, get_or-replicate, get_or-zip2, get_or_default, get_or_from_slice_get, get_or_past, inl, inr, is_some, le-leb, leb-true, length, length-chunk, length-map-range_with_len, length-replicate, length-zip2, lt-ltb, ltb, ltb-true, map, mask_l, mask_l-lt, mask_l-mod, min, mod-eq_of_lt, mod-lt, mod-mul-add, mul-add-lt, mul-lt-mul_of_pos_right, none-some, option_map, pow-add, pow_pos, refl, replicate, same_lists, same_number_lists, slice_get, slice_get-get_or, slice_index, subst, suc, sym, take, take_all, take_more, top, tops_compared, true, true≢false, w64, zero, zip2, ℕ, ⊎_elim, ◌%◌, ◌&&◌, ◌*◌, ◌++◌, ◌+◌, ◌-◌, ◌/◌, ◌<◌, ◌^◌, ◌↔◌, ◌∙◌, ◌∷◌, ◌≡◌, ◌≤◌}
pub use Rattle.asg_admit.specs.Admission.{AllowsRows, AreCounted}
pub use Rattle.asg_admit.specs.Reduced.{IsPhaseTo, IsReduced, KeepsLabels, KeepsPresence, phase_of}
pub use Rattle.asg_admit.specs.declared.reduced.Reduced.{Reduced}
pub use Rattle.asg_admit.specs.laws.AdmissionLemmas.{admitted_to, allows_from, counted_from, never, not_both}
pub use Rattle.asg_admit.specs.laws.SquareLemmas.{everywhere, present_within}
pub use Rattle.asg_bit_rows.specs.BitTable.{AreWordsOf, is_bit_set, word_count}
pub use Rattle.asg_cell_tables.specs.CellTable.{AreValuesOf}
pub use Rattle.asg_kept.specs.KeptSums.{AreZeros, KeepsSums}
pub use Rattle.asg_kept.specs.NarrowRows.{AreLesserBits}
pub use Rattle.asg_monoids.specs.BoundedSums.{bounded_difference, bounded_sums, narrow_top}
pub use Rattle.asg_order.specs.Monoid.{IsValue, fold_of}
pub use Rattle.asg_phase_totals.specs.Duals.{AreDuals, AreSums, FitsDuals, FitsRows, HasRoom, IsGreatest, RaisesDuals, dual_bits, dual_cell, dual_grid, dual_reduced, dual_value, dual_values, sum_before}
pub use Rattle.asg_phase_totals.specs.SumNumbers.{numbered_grid}
pub use Rattle.asg_phase_totals.specs.laws.NumberLemmas.{count_is, read_is, sum_at, zeros_are}
pub use Rattle.asg_phase_totals.specs.laws.PresentLemmas.{cell_is, cells_are, column_within, grid_is, present_is, values_are, words_are}
pub use Rattle.asg_phase_totals.specs.laws.SumLemmas.{allowed_fits, before_more, before_rises, fits_allowed, fold_is, settled_is}
pub use Rattle.asg_proof.specs.Phases.{AreAdmittedPhases, IsAdmittedPhase, PhaseOf}
pub use Rattle.asg_square.specs.Grid.{Grid, IsGrid, cell_at}
pub use Rattle.asg_square.specs.laws.Masks.{AreValuesOf-masked, IsGrid-masked, cell_at-masked, keeps-word}
