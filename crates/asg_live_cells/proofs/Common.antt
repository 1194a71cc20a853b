-- The names that proofs of this crate cite most, passed on from one place. Declares nothing.
pub use Rattle.asg_model.proofs.Kit.{All, All-permutation, All-push, Bool, Contains, Contains-append_left, Contains-permutation, Contains-push, Fits-lt-pow, IfOk-weaker, IsNonDecreasingBy-from_sort_by_key, IsPartitionPoint-from_clause, IsPartitionedBy-ltb, List, None, Option, Some, [], ap, arith, bit_and, bit_at, bit_at-trailing_zeros, bit_at-zero, bit_at_set_other, bit_at_set_same, bit_mask_l, bit_or, bitmask_splat, bool_byte, cases_eq, cases_lt, cond, drop, false, false≢true, get_or, get_or-drop, get_or-map, get_or-take, get_or_from_slice_get, inl, inr, is_some, le-ltb, length, length-take, lt-ltb, ltb, ltb-false, ltb-true, map, mask_l, min, nat_lt, none-some, or_zero_r, pow-add, refl, rules, same_Some, subst, sym, take, trailing_zeros, true, w32, w64, zero-mul, ℕ, ⊎_elim, ◌%◌, ◌&&◌, ◌*◌, ◌++◌, ◌+◌, ◌-◌, ◌/◌, ◌<◌, ◌==◌, ◌^◌, ◌↔◌, ◌∙◌, ◌∷◌, ◌≡◌, ◌≤◌, ◌⊎◌}
pub use Rattle.asg_bit_rows.specs.BitTable.{AreWordsOf, BitTable, PutsBit, is_bit_set, word_count}
pub use Rattle.asg_bit_rows.specs.WordBits.{HasBit}
pub use Rattle.asg_bit_rows.specs.laws.Bits.{HasBit-and, HasBit-trailing_zeros, HasBit-without, HasBit-without_other, HasBit-zero, bit_below, without_bit, without_bit-lt}
pub use Rattle.asg_bit_rows.specs.laws.Words.{bit_in_row, bit_of, is_and, of_bit, same_bool}
pub use Rattle.asg_live_cells.specs.LiveCells.{AddsEntry, AreEntriesBefore, IsBefore, IsEntryOf, IsUnder, entry_at, entry_of}
pub use Rattle.asg_live_cells.specs.Marks.{IsNamed, MarksFewer, MarksMore}
pub use Rattle.asg_live_cells.specs.UnderWords.{AreBitsUnder, is_under}
pub use Rattle.asg_live_cells.specs.declared.live_cells.Entry.{Entry}
pub use Rattle.asg_square.specs.Grid.{Grid, IsSquareBy, IsSquareOf, cell_at}
pub use Rattle.std.proofs.Math.Nat.{div-div-eq-div-mul}
