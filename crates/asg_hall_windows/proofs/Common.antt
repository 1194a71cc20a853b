-- The names that proofs of this crate cite most, passed on from one place. Declares nothing.
pub use Rattle.asg_model.proofs.Kit.{All, AllPairs, Bool, FitsSigned, IfOk-weaker, IfSome, IsTrue, List, None, Option, Some, [], ap, arith, below_more, bit_and, bit_at, cases_Bool, cases_eq, cases_lt, cond, enumerate_from, false, false≢true, fits_signed_from_abs, get_or, get_or-enumerate_from, get_or-set_other, get_or-set_same, get_or_default, get_or_read, inl, inr, int_eq, int_le, ints, length, length-enumerate_from, length-set, list_any, list_any_at, mul-add-lt, option_and_then, option_map_or, pos, refl, rules, set, slice_get, slice_get-get_or, slice_index, slice_index_or, subst, sum_by_more, sym, take, take_all, to_z, to_z-of_z, true, unsigned_abs, w128, w64, zero-add, ℕ, ℤ, ⊎_elim, ◌%◌, ◌*◌, ◌+◌, ◌+ℤ◌, ◌-◌, ◌-ℤ◌, ◌/◌, ◌<ℤ◌, ◌<◌, ◌∙◌, ◌∷◌, ◌≡◌, ◌≢◌, ◌≤ℤ◌, ◌≤◌, ◌⊎◌}
pub use Rattle.asg_bit_rows.specs.BitTable.{word_count}
pub use Rattle.asg_bit_rows.specs.WordBits.{HasBit}
pub use Rattle.asg_bit_rows.specs.laws.Bits.{HasBit-and, HasBit-or, HasBit-with_same, HasBit-zero}
pub use Rattle.asg_hall_windows.specs.Ascending.{AreAscending}
pub use Rattle.asg_hall_windows.specs.Capacities.{ReachesMarked}
pub use Rattle.asg_hall_windows.specs.Cells.{AreAllNamed, AreNamed, IsPassed, IsRowPassed, Names}
pub use Rattle.asg_hall_windows.specs.Marks.{HasLine, HasRoom, IsMarked, KeepsMarks, word_place}
pub use Rattle.asg_hall_windows.specs.Stretches.{BeginsAfter, EndsBefore, FitsIn, IsHeldBy, IsIn, IsStretch, LiesInStretch, LiesInWindow}
pub use Rattle.asg_hall_windows.specs.declared.marks.Marks.{Marks}
pub use Rattle.asg_hall_windows.specs.declared.stretches.Stretch.{Stretch}
pub use Rattle.asg_model.specs.HallSet.{is_counted_id, is_reached, reached_capacity, reached_part, reaches, row_place_of}
pub use Rattle.asg_model.specs.Counts.{is_counted, slack}
pub use Rattle.asg_model.specs.Live.{cost_at, is_active, is_open, live_at}
pub use Rattle.asg_model.specs.Problem.{Problem}
pub use Rattle.asg_model.specs.Table.{absent, AreRowParts, IsEntry, table_cost}
pub use Rattle.asg_model.specs.declared.bands.Band.{Band}
pub use Rattle.asg_model.specs.declared.parts.Column.{Column}
pub use Rattle.asg_model.specs.declared.parts.Cost.{Cost}
pub use Rattle.asg_model.specs.laws.Rows.{no_column}
pub use Rattle.asg_proof.specs.Windows.{IsHallWindow, ProvesSpread, holds_from, is_held}
pub use Rattle.asg_proof.specs.declared.windows.Window.{Window}
pub use Rattle.std.specs.List.{sum_by}
pub use Rattle.std.specs.Prelude.{bit_or}
