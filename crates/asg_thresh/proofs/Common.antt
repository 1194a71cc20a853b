-- The names that proofs of this crate cite most, passed on from one place. Declares nothing.
pub use Rattle.asg_model.proofs.Kit.{All, All-contains, All-map, Bool, Contains, Decides-eqb, Fits-lt-pow, IfOk-from_err, IfSome, IsSome, IsTrue, List, None, OnFalse_at, OnTrue_at, Option, Some, ap, arith, below_more, bit_at, bit_at-trailing_zeros, bit_at_ones, bit_at_set_other, bit_at_set_same, bit_mask_l, bit_or, bitmask_splat, bool_byte, by_lt_z, cases_Bool, cases_eq, cases_lt, cond, count_by-le-length, div-mul-add, eqb, false, false≢true, get_or, get_or-map, get_or-set_other, get_or-set_same, get_or-take, get_or_past, get_or_read, ints, is_some, le-leb, le-ltb, leb, leb-false, leb-true, length, length-map, length-set, length-take, lt-ltb, map, mask_l, min, mod-mul-add, mul-add-lt, mul-le-mul, mul_comm, nat_lt, option_map, option_map_or, or_zero_r, pos, refl, same_Some, set, slice_get-get_or, slice_index, subst, sym, take, true, unsigned_abs, vec_len, w32, w64, zero-mul, ℕ, ℤ, ⊎_elim, ◌%◌, ◌&&◌, ◌*◌, ◌+◌, ◌-ℤ◌, ◌-◌, ◌/◌, ◌<ℤ◌, ◌<◌, ◌^◌, ◌↔◌, ◌∙◌, ◌≡◌, ◌≤ℤ◌, ◌≤◌}
pub use Rattle.asg_match.specs.ColumnSet.{HasBit, word_count}
pub use Rattle.asg_match.specs.Deficient.{IsDeficient}
pub use Rattle.asg_match.specs.HallSets.{AllowsCells, GivesHallSets}
pub use Rattle.asg_model.specs.HallSet.{IsHall}
pub use Rattle.asg_model.specs.Limits.{most_cost}
pub use Rattle.asg_model.specs.Live.{live_at}
pub use Rattle.asg_model.specs.Problem.{Problem}
pub use Rattle.asg_model.specs.Shapes.{square_side}
pub use Rattle.asg_model.specs.declared.objectives.Objective.{Objective}
pub use Rattle.asg_model.specs.declared.parts.Cost.{Cost}
pub use Rattle.asg_proof.specs.laws.LiveCosts.{first_part_in_range}
pub use Rattle.asg_square.specs.Cells.{choice_of, entered_or_free, square_cell}
pub use Rattle.asg_square.specs.Grid.{Grid, IsPerm, IsSquareOf, cell_at, grid_choice}
pub use Rattle.asg_square.specs.laws.Rows.{rows_within}
pub use Rattle.asg_thresh.specs.Bounds.{AreAllBelow, IsColumnBound, IsRowBound}
pub use Rattle.asg_thresh.specs.Grades.{AreGradesOf, Grades, IsUnder, IsUpTo, free_grade, grade_at, grade_of, no_grade}
pub use Rattle.asg_thresh.specs.Thresholds.{IsAssignmentUpTo, IsBracket}
pub use Rattle.asg_thresh.specs.Words.{AreBitsUpTo, IsMarked, IsWordUpTo, MarksUpTo}
pub use Rattle.std.specs.Option.{unwrap_or}
