-- The names that proofs of this crate cite most, passed on from one place. Declares nothing.
pub use Rattle.asg_model.proofs.Kit.{Bool, Decides-eqb, Fits-lt-pow, IsTrue, List, and_from, and_parts, ap, arith, bit_and, bit_at, bit_at_clear_other, bit_at_clear_same, bit_at_ones, bit_at_ones_above, bit_at_set_other, bit_at_set_same, cases_Bool, cases_eq, cases_lt, cond, cond-false, cond-true, eq-eqb, eqb, eqb-true, false, false_from_ne_true, false≢true, get_or, get_or-set_other, get_or-set_same, get_or_default, le-ltb, length, length-set, lt-ltb, mul-add-lt, nat_lt, ne_eqb, not, one_shl, refl, set, shr_and_one, slice_index, subst, sym, true, ℕ, ⊎_elim, ◌%◌, ◌&&◌, ◌*◌, ◌+◌, ◌-◌, ◌/◌, ◌<◌, ◌==◌, ◌^◌, ◌↔◌, ◌∙◌, ◌≡◌, ◌≢◌, ◌≤◌}
pub use Rattle.asg_bit_rows.specs.BitTable.{AreWordsOf, BitTable, IsBitTable, PutsBit, PutsColumns, PutsOnly, PutsWord, has_bit, is_bit_set, is_from_to, word_count}
pub use Rattle.asg_bit_rows.specs.WordBits.{HasBit}
pub use Rattle.asg_bit_rows.specs.laws.Places.{place_hit, place_missed, same_place}
pub use Rattle.asg_bit_rows.specs.laws.Words.{bit_in_row, bit_of, in_run, is_with, is_without, of_bit, out_of_run, run_parts, same_bool}
