-- The names that proofs of this crate cite most, passed on from one place. Declares nothing.
pub use Rattle.asg_model.proofs.Kit.{Bool, Decides-eqb, Fits-lt-pow, List, None, Option, Some, [], and_from, and_parts, ap, arith, bit_and, bit_at, bit_at-lt, bit_at-zero, bit_at_not, bit_at_set_other, bit_at_set_same, bit_mask_l, bit_not, bit_or, bitmask_splat, bool_byte, cases_Bool, cases_eq, cases_lt, cond, div-mul-add, eq-eqb, eqb, eqb-true, false, false_from_ne_true, false≢true, get_or, get_or-map, get_or-take, get_or_append_left, get_or_push, inl, inr, is_some, le-ltb, length, length-take, length_push, map, mask_l, mod-mul-add, mul-add-lt, nat_le, nat_tests, ne_eqb, not, or_zero_r, refl, slice_index, subst, suc, sym, take, take_all, take_more, true, w32, w64, zero, zero-mul, ℕ, ⊎_elim, ◌%◌, ◌&&◌, ◌*◌, ◌++◌, ◌+◌, ◌-◌, ◌/◌, ◌<◌, ◌==◌, ◌^◌, ◌||◌, ◌↔◌, ◌∙◌, ◌∷◌, ◌≡◌, ◌≢◌, ◌≤◌, ◌⊎◌}
pub use Rattle.asg_bit_rows.specs.BitTable.{AreWordsOf, BitTable, IsBitTable, PutsWord, has_bit, is_bit_set, word_count}
pub use Rattle.asg_bit_rows.specs.laws.Places.{place_hit, place_missed}
pub use Rattle.asg_bit_rows.specs.laws.Words.{bit_in_row, bit_of, is_and, is_without, of_bit, same_bool}
pub use Rattle.asg_levels.specs.MarkWords.{AreMarkWords, words_each}
pub use Rattle.asg_levels.specs.NextStep.{AreZeroBits, ClearsColumns, ClearsWord, RenewsRows}
pub use Rattle.asg_levels.specs.Tight.{Tightens, TightensWords, is_tight, tight_bit}
pub use Rattle.asg_levels.specs.UnitLists.{AreCountedUnits, square_after_units}
pub use Rattle.asg_levels.specs.UnitSteps.{AreDuals, AreFree, CountsRight, CountsStep, IsBitSquare, unit_phase}
pub use Rattle.asg_levels.specs.laws.UnitLists.{HasSide-bits, counts_more, marks_after, tightens_by, units_more}
pub use Rattle.asg_proof.specs.Phases.{AreAdmittedSteps, IsAdmittedPhase, entered_at, staying_at}
