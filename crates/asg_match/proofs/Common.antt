-- The names that proofs of this crate cite most, passed on from one place. Declares nothing.
pub use Rattle.asg_model.proofs.Kit.{All, All-head, All-map, All-tail, AllPairs, AllPairs-filter, Any-from_list_any, Bool, Contains, Contains-get_or, Decides-eqb, Decides-ltb, Fits-lt-pow, IfOk-weaker, IsTrue, List, None, OnFalse_at, OnTrue_at, Option, Some, [], ap, arith, below_more, cases_Bool, cases_eq, cases_lt, cases_order, common_steps, cond, cons_option, count_by, enumerate_from, eq-eqb, eqb, false, false≢true, filter, filter_map, filter_map-append, filter_passes, get_or, get_or-map, get_or-map-range_with_len, get_or-replicate, get_or-set_at, get_or-set_other, get_or-set_same, get_or_from_slice_get, get_or_read, inl, inr, is_some, length, length-filter, length-map, length-replicate, length-set, length-take, length_push, list_any, list_any_at, lt-ltb, ltb, map, nat_lt, ne_eqb, none-some, not, option_map, option_map_or, position_or_len, position_or_len_is, range_with_len, refl, replicate, same_Some, set, set-set, slice_get, slice_get-get_or, subst, sum_by, sum_by-cons, sum_by-take-le, sym, take, take_more, trailing_zeros, true, w64, ℕ, ⊎_elim, ◌&&◌, ◌*◌, ◌++◌, ◌+◌, ◌-◌, ◌/◌, ◌<◌, ◌^◌, ◌↔◌, ◌∙◌, ◌∷◌, ◌≡◌, ◌≢◌, ◌≤◌, ◌⊎◌}
pub use Rattle.asg_bit_rows.specs.laws.Bits.{HasBit-trailing_zeros, HasBit-with, HasBit-with_kept, HasBit-with_same, HasBit-without, HasBit-without_other, bit_below, with_bit, without_bit, without_bit-lt}
pub use Rattle.asg_match.specs.Alternating.{AllParentsAllowed, HasParent, IsClosed, IsOpen, IsReached, IsTree, parent_of}
pub use Rattle.asg_match.specs.ColumnSet.{HasBit, HasColumn, IsColumnSet, word_count}
pub use Rattle.asg_match.specs.Deficient.{IsDeficient}
pub use Rattle.asg_match.specs.Flipped.{Flips, IsLink}
pub use Rattle.asg_match.specs.HallSets.{AllowsCells, GivesHallSets, hall_ids, labelled_id}
pub use Rattle.asg_match.specs.Matching.{AllAllowed, IsFree, IsMatched, IsMatching, IsPerfect, Matches, column_at}
pub use Rattle.asg_match.specs.Paired.{AreFree, IsPaired}
pub use Rattle.asg_match.specs.Searched.{Extends, IsGrown, IsSearch, parents_in}
pub use Rattle.asg_match.specs.laws.Columns.{HasBit-of, HasColumn-added, HasColumn-at, HasColumn-full, HasColumn-removed, IsColumnSet-added, IsColumnSet-full, IsColumnSet-removed, IsFull, parent-here, parent-listed, parent-others, parent-unseen}
pub use Rattle.asg_match.specs.laws.Deficiency.{IsDeficient-from_tree, IsDeficient-refutes, IsStuck-from_tree}
pub use Rattle.asg_match.specs.laws.Matchings.{IsMatching-empty, IsMatching-set, Matches-below, Matches-empty, Matches-read, Matches-same, Matches-set_cases, Matches-set_other, Some-from_test}
pub use Rattle.asg_model.specs.Counts.{active_count, counted_by, is_counted, is_counted_by, placed_by, slack, total_capacity}
pub use Rattle.asg_model.specs.HallSet.{IsHall, is_counted_id, is_live_within, is_reached, reached_capacity, reaches, row_place_of}
pub use Rattle.asg_model.specs.Instances.{IsPlaceInRange}
pub use Rattle.asg_model.specs.Problem.{Problem}
pub use Rattle.asg_model.specs.Shapes.{side_by, square_side}
pub use Rattle.asg_model.specs.Sums.{count_below, one, sum_below}
pub use Rattle.asg_model.specs.declared.parts.Place.{Place}
pub use Rattle.asg_model.specs.declared.parts.Row.{Row}
pub use Rattle.asg_model.specs.laws.Counting.{length-le-count_below, sum_below-same, sum_below-zero}
pub use Rattle.asg_model.specs.laws.Listing.{length-le_from_below}
pub use Rattle.asg_model.specs.laws.Rows.{no_row, ones_below}
pub use Rattle.asg_square.specs.Labels.{column_label, copies, row_label}
pub use Rattle.asg_square.specs.laws.Rows.{copies_within, row-from_counted}
pub use Rattle.std.specs.Option.{option_and_then}
