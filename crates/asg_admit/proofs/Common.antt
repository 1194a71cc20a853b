-- The names that proofs of this crate cite most, passed on from one place. Declares nothing.
pub use Rattle.asg_model.proofs.Kit.{All, Bool, Fits-lt-pow, IfSome, IsTrue, List, MatchOption, None, Option, Some, [], ap, arith, below_more, beq, bit_at, bit_at_clear_other, booleans_Decides, cases_eq, cases_lt, cases_order, cond, eq-eqb, eqb, eqb-true, false, false≢true, get_or, get_or-replicate, get_or-set_other, get_or_from_slice_get, get_or_past, get_or_read, inl, inr, is_some, le-leb, le-ltb, leb, length, length-replicate, length-set, length_permutation, lt-leb, lt-ltb, ltb, min, ne_eqb, not, option_map, refl, replicate, shr_and_one, slice_get, slice_get-get_or, slice_get_within, slice_index, slice_index_or, subst, suc, sum_by-IsPermutation, sum_by-cons, sum_by_more, sym, take, take_all, true, w64, zero, ℕ, ⊎_elim, ◌%◌, ◌*◌, ◌+◌, ◌-◌, ◌/◌, ◌<◌, ◌∙◌, ◌∷◌, ◌≡◌, ◌≢◌, ◌≤◌, ◌⊎◌}
pub use Rattle.asg_admit.specs.Admission.{AllowsAt, AllowsRow, AllowsRows, AreBalanced, AreCounted, cell_in_row, has_mark, is_marked}
pub use Rattle.asg_admit.specs.LeastCells.{AreHeldValues, HasAtMost, HasNoneBetween, HoldsLeast, IsLeastStaying, MergesRow, MergesRows, held_at, lesser_of, place_at, place_of}
pub use Rattle.asg_admit.specs.Reduced.{KeepsLabels, phase_of}
pub use Rattle.asg_admit.specs.Settled.{AllowsAll, AllowsSteps, between, cell_after, step_of}
pub use Rattle.asg_admit.specs.Settling.{IsWritten, SettlesPhase}
pub use Rattle.asg_admit.specs.laws.AdmissionLemmas.{allows_from, never, not_both, over_admitted, over_from, row_read}
pub use Rattle.asg_admit.specs.laws.NextBits.{next_below, next_bit, next_gone, next_has, next_kept, next_smaller}
pub use Rattle.asg_admit.specs.laws.ProductLemmas.{across_value, products_ahead, products_behind, products_start, range_value, settled_inside, settled_outside}
pub use Rattle.asg_admit.specs.laws.SettledCells.{IsTwice, after_phase-cell, between-none, between-split, between_is_value, cell_after-before, cell_after-inside, cell_after-late, difference_of_unit}
pub use Rattle.asg_admit.specs.laws.SquareLemmas.{everywhere, written}
pub use Rattle.asg_bit_rows.specs.BitTable.{AreWordsOf, is_bit_set}
pub use Rattle.asg_bit_rows.specs.WordBits.{HasBit}
pub use Rattle.asg_bit_rows.specs.laws.Bits.{HasBit-without, bit_below}
pub use Rattle.asg_order.specs.Differences.{HasDifferences}
pub use Rattle.asg_order.specs.Monoid.{IsLe, IsOrderedMonoid, IsValue, Monoid}
pub use Rattle.asg_order.specs.laws.Differences.{difference_monotone}
pub use Rattle.asg_proof.specs.Phases.{AreAdmittedSteps, PhaseOf, entered_at, square_after, staying_at}
pub use Rattle.asg_proof.specs.Steps.{HasValues, assignment_fold, count_below, moved, stepped}
pub use Rattle.asg_proof.specs.laws.CountsBelow.{count_below-more, count_below-no, count_below-yes}
pub use Rattle.asg_square.specs.Grid.{Grid, cell_at}
pub use Rattle.asg_square.specs.Masked.{masked_grid}
