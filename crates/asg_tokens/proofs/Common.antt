-- The names that proofs of this crate cite most, passed on from one place. Declares nothing.
pub use Rattle.asg_model.proofs.Kit.{All-set, Bool, Fits, Fits-lt-pow, FitsSigned, IfSome, List, None, Option, Some, [], add-one, and_block, and_from, and_le_l, and_mask, and_parts, ap, arith, bit_and, bit_at, bit_at-lt, bit_at-trailing_zeros, bit_at_and, bit_at_clear_other, bit_at_clear_same, bit_at_mask_below, bit_at_mask_inside, bit_at_not, bit_mask_l, bit_not, bitmask_splat, cases_Bool, cases_eq, cases_lt, chunk-drop, cond, digit_value, digits_value, drop, drop_more, false, false-eqb, false≢true, from_le_bytes, get_or, get_or-drop, get_or-map, get_or-set_other, get_or-set_same, get_or-take, inr, ints, is_ascii_digit, le-leb, leb-true, length, length-map, length-range_with_len, length-take, length-zip2, lines, list_all, list_all_at, list_all_more, lit<, ltb, ltb-true, map, map-map, mask_l, mask_l-lt, min, not, of_z, option_map, pos, pow-le-pow_right, pow-suc, pow_pos, prefix_len-le-length, range_with_len, refl, replicate, rules, set, slice_index, subst, suc, sym, take, take-length, take-take, take_all, take_rest, to_z, to_z-of_z, to_z_pos, trailing_zeros, true, w64, w8, zero, zip2, zip2_splat, ℕ, ℤ, ⊎_elim, ◌%◌, ◌*◌, ◌++◌, ◌+◌, ◌-◌, ◌/◌, ◌<◌, ◌==◌, ◌^◌, ◌∙◌, ◌∷◌, ◌≡◌, ◌≢◌, ◌≤◌}
pub use Rattle.std.proofs.Common.{length-drop, length-set, eqb-true}
pub use Rattle.asg_model.specs.Table.{IsEntry, IsTable, absent, table_cells}
pub use Rattle.asg_model.specs.ValueRange.{IsPartInRange}
pub use Rattle.asg_tokens.specs.CellBlocks.{AreDigitsFrom, ArePairsReadOn, AreReadOn, IsPlainCell}
pub use Rattle.asg_tokens.specs.NextCells.{IsBehindSpace, IsCell, IsFaultyCell, IsShortAmount, IsShortInteger}
pub use Rattle.asg_tokens.specs.Pieces.{is_space, pieces, tokens}
pub use Rattle.asg_tokens.specs.Separators.{separates}
pub use Rattle.asg_tokens.specs.Slots.{AreRead, AreSeconds, IsEarliest, first_part}
pub use Rattle.asg_tokens.specs.Tables.{cell_of, faults_of_cells}
pub use Rattle.asg_tokens.specs.declared.numbers.TheConstants.{CAP}
pub use Rattle.asg_tokens.specs.laws.CellLemmas.{absent_cell, absent_faults, bad_faults, faulty_cell, integer_cell, no_pair, pair_in_range, range_faults, right_cell, right_faults, short_absent_cell, short_cell, short_fits}
pub use Rattle.asg_tokens.specs.laws.FirstPiece.{IsCut, cut_first, cut_none, length-pieces, pieces_behind, pieces_skipped}
pub use Rattle.asg_tokens.specs.laws.NumberLemmas.{capped_more, digit_value_is, number_of_digits, number_of_no_digit, number_of_nothing}
pub use Rattle.asg_tokens.specs.laws.PairLemmas.{short_pair}
pub use Rattle.asg_tokens.specs.laws.ReadCells.{none_next, one_more_read, refused_next, second_in_range, slot_of_token}
pub use Rattle.asg_tokens.specs.laws.Refusing.{handed_on}
pub use Rattle.asg_tokens.specs.laws.ShortLemmas.{IsDigitStep, digit_step, negative_integer_fits, plain_integer, short_value}
pub use Rattle.std.proofs.lemmas.Simd.{length-replicate}
