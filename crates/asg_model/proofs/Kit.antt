-- The names of the kit that proofs cite, passed on from one place. Declares nothing.
pub use Rattle.std.proofs.Common.{◌≡◌, ℕ, zero, suc, ◌+◌, ◌-◌, ◌*◌, ◌/◌, ◌%◌, ◌^◌, ◌<◌, ◌≤◌, min, max, Bool, true, false, cond, not, ◌&&◌, ◌||◌, eqb, ltb, leb, ◌≢◌, ◌⊎◌, ◌↔◌, List, [], ◌∷◌, ◌++◌, map, reverse, length, get_or, take, drop, set, replicate, ℤ, pos, negsuc, ◌+ℤ◌, ◌-ℤ◌, neg_ℤ, ◌≤ℤ◌, ◌<ℤ◌, is_some, is_none, SomeIff, IfSome, IfNone, IsErrAnd, IfOk, if◌then◌else◌, OnSome, OnOk, OnErr, IsSome, IsNone, IsErr, IsTrue, nat_eq, nat_lt, nat_le, ◌==◌, slice_get, slice_index, slice_index_or, slice_set, bit_and, bit_or, unsigned_abs, int_lt, int_le, FitsSigned, Some, None, Ok, Err, vec_len, vec_capacity, string_bytes, codes, Decides, fold, All, Contains, sum_by, sum, count_by, filter, Option, Result, Vec, MatchOption, MatchResult, IsPermutation, IsSorted, option_to_list, AllPairs, find, filter_map, option_and_then, IsErrOf, bytes_eq, sym, refl, ap, ◌∙◌, subst, ap₂, inl, inr, ⊎_elim, append_assoc, add-zero, zero-add, zero-mul, mul-add, add-one, arith, lit<, length-append, drop-cons, w8, w32, w64, Fits, SFits, to_z, of_z, rules, below_more, false-eqb}
pub use Rattle.std.proofs.Math.Bool.{Bool-discrete, beq, or-false, or-true}
pub use Rattle.std.proofs.Math.Decide.{dec_le, dec_lt, ℕ_discrete}
pub use Rattle.std.proofs.Math.Facts.{Fits-lt-pow, to_z_pos}
pub use Rattle.std.proofs.Math.IntN.{ℤ_discrete}
pub use Rattle.std.proofs.Math.ListN.{drop_of_length-le}
pub use Rattle.std.proofs.Math.Nat.{add-mod_left, div-lt_iff_lt-mul, div-mul-le_self, le-mul_of_pos_right, mod-eq_of_lt, mod-lt, mul-le-mul, mul-le-mul_left, mul-le-mul_right, mul-lt-mul_of_pos_right, mul_comm, pow-le-pow_right, pow-suc, pow-zero, suc-mul}
pub use Rattle.std.proofs.Math.Path.{fun_ext}
pub use Rattle.std.proofs.Math.Seq.{drop-append_seam, get_or-append_seam, take-append_seam, take-length}
pub use Rattle.std.proofs.lemmas.Bool.{OnFalse_at, OnFalse_from, OnTrue_at, and_from, and_left, and_parts, and_right, both_ways, cases_Bool, cases_eq, cases_lt, cases_order, cond-false, cond-true, cond_both, eq-eqb, eqb-false, eqb-true, false_from_ne_true, false≢true, le-leb, le-ltb, leb-false, leb-true, lt-leb, lt-ltb, ltb-false, ltb-true, ne_eqb, not-false, not-true, not_from_false, or_cases, or_left, or_right, true≢false}
pub use Rattle.std.proofs.lemmas.Bool.Decides.{Decides-at, Decides-eqb, Decides-int_eq, Decides-ltb, eqb_tells, nat_tests, not_from_Decides}
pub use Rattle.std.proofs.lemmas.Cmp.{int_cmp_total, int_eq_equiv, int_ranked, nat_eq_equiv}
pub use Rattle.std.proofs.lemmas.Fmt.{decimal_is_IsNumeral, decimal_is_IsNumeral_wide, length-decimal-le, length-decimal-le_wide}
pub use Rattle.std.proofs.lemmas.Grind.{common_steps, get_or-set_at, get_or_default_zero, same_number_lists}
pub use Rattle.std.proofs.lemmas.Int.{by_lt_z, fits_signed_from_abs, fold-int_max_bounds, fold-int_min_bounds, fold-int_min_reached, ints, to_z-of_z}
pub use Rattle.std.proofs.lemmas.List.{append-nil, append_cancel_left, drop-append-le, drop-drop, drop-map, drop-take, drop_all, drop_more, flat_map_more, get_or-append-add, get_or-append_right, get_or-drop, get_or-map, get_or-replicate, get_or-reverse, get_or-set_other, get_or-set_same, get_or-take, get_or_append_left, get_or_at, get_or_default, get_or_past, get_or_push, get_or_read, length-drop, length-map, length-replicate, length-reverse, length-set, length-take, length-take-le, length_push, map-append, map-id, map_more, map_push, nil_from_length, reverse-append, same_lists, set-get_or, set-set, take-append-drop, take-append-le, take-map, take-set, take-take, take_all, take_at, take_more, take_more_set, take_rest, with_items_is}
pub use Rattle.std.proofs.lemmas.List.Concat.{flat_map-append, flat_map_single, get_or-flat_map, length-flat_map}
pub use Rattle.std.proofs.lemmas.List.Edits.{get_or-remove_above, get_or-remove_below, length-remove, map_over_more}
pub use Rattle.std.proofs.lemmas.List.Elements.{All-append, All-cons, All-contains, All-drop, All-filter, All-from_get_or, All-get_or, All-head, All-map, All-nil, All-push, All-replicate, All-same, All-set, All-tail, All-take, All-weaker, Contains-append_left, Contains-append_right, Contains-get_or, Contains-push, filter-append, filter_map-append, filter_more, filter_passes}
pub use Rattle.std.proofs.lemmas.List.Filters.{length-filter_both}
pub use Rattle.std.proofs.lemmas.List.Folds.{Any-from_list_any, find-append, flat_map-map, fold-map, list_all_at, list_all_more, list_any-append, list_any_at, list_any_more, list_any_none, sum_by-replicate}
pub use Rattle.std.proofs.lemmas.List.FromFn.{fill_by_all, get_or-enumerate_from, get_or-map-range_with_len, get_or-range_with_len, length-enumerate_from, length-map-range_with_len, length-range_with_len, map-range_with_len_more}
pub use Rattle.std.proofs.lemmas.List.Kept.{AllPairs-cons, AllPairs-filter}
pub use Rattle.std.proofs.lemmas.List.Quantifiers.{all_pairs_push, position-Some}
pub use Rattle.std.proofs.lemmas.List.Sorted.{All-permutation, Contains-permutation, IsNonDecreasingBy-from_sort_by_key, IsPartitionPoint-from_clause, IsPartitionedBy-ltb, IsPermutation-cons, IsPermutation-keeps, IsPermutation-middle, IsPermutation-refl, IsPermutation-reverse, IsPermutation-sym, IsPermutation-trans, length_permutation, list_any-IsPermutation, ranks_by, sorted_far, sum_by-IsPermutation}
pub use Rattle.std.proofs.lemmas.List.Sums.{count_by-le-length, count_by_more_no, count_by_more_yes, fold-append, fold_more, fold_push, get_or-le-sum_by, length-filter, position_or_len_is, prefix_len-le-length, sum-map, sum_by-append, sum_by-cons, sum_by-le, sum_by-take-le, sum_by_more, sum_by_more_le}
pub use Rattle.std.proofs.lemmas.Map.Keys.{IsDistinct-push, sorted_tail}
pub use Rattle.std.proofs.lemmas.Map.Made.{AllPairs-from_IsDistinct, Contains-tail, IsDistinct-from_AllPairs, is_member-Decides, is_member-filter, length-le_from_is_member}
pub use Rattle.std.proofs.lemmas.Nat.{and_block, and_le_l, and_mask, div-add-mod', div-mul-add, div_below, le-div, mod-mul-add, mod_below, mul-add-lt, mul-le, one_shl, pow-add, pow_pos, row_fits}
pub use Rattle.std.proofs.lemmas.Nat.Bits.{bit_at-lt, bit_at-trailing_zeros, bit_at-zero, bit_at_and, bit_at_cat_high, bit_at_cat_low, bit_at_clear_other, bit_at_clear_same, bit_at_mask_below, bit_at_mask_inside, bit_at_not, bit_at_ones, bit_at_ones_above, bit_at_or, bit_at_set_other, bit_at_set_same, shr_and_one}
pub use Rattle.std.proofs.lemmas.Option.{IfSome_then, get_or_from_slice_get, none-some, same_Some, slice_get-get_or, slice_get-map, slice_get_cases, slice_get_past, slice_get_read, slice_get_within}
pub use Rattle.std.proofs.lemmas.Result.{IfErr-weaker, IfOk-at_ok, IfOk-from_err, IfOk-weaker, err_from_is_err_and, on_err_weaker, on_ok_weaker}
pub use Rattle.std.proofs.lemmas.Simd.{bit_mask_l, bitmask_splat, chunk-drop, get_or-chunk, get_or-zip2, length-chunk, length-zip2, map-map, mask_l-lt, mask_l-mod, tops_compared, zip2_splat}
pub use Rattle.std.proofs.lemmas.Str.Parse.{IsNumeralModel, digit_from_value, digits_value_short, numerals_by_value, parse_gives}
pub use Rattle.std.specs.BTreeMap.{insert_entry, is_at}
pub use Rattle.std.specs.BTreeSet.{BTreeSet, IsEmpty, Updates, contains}
pub use Rattle.std.specs.Borrow.{Bor}
pub use Rattle.std.specs.Char.{digit_value, is_ascii_digit}
pub use Rattle.std.specs.Cmp.{booleans_Decides, int_chain, int_ranks, nat_cmp_is}
pub use Rattle.std.specs.Cmp.Lexicographic.{slice_cmp}
pub use Rattle.std.specs.Fmt.{decimal, signed_decimal}
pub use Rattle.std.specs.Int.{bit_at, bit_not, from_bool, from_le_bytes, int_max, int_min, trailing_zeros, w128}
pub use Rattle.std.specs.Int.Bits.{or_zero_r}
pub use Rattle.std.specs.List.{AllByRecursion, FoldsTo, IsDistinct, cons_option, enumerate_from, flat_map, join_with_byte, list_all, list_any, position, position_or_len, range_with_len, remove, swap, zip}
pub use Rattle.std.specs.List.Sorted.{IsNonDecreasingBy, IsSortedByKey, IsStrictlySortedBy}
pub use Rattle.std.specs.Map.{keys_of, lookup, remove_entry}
pub use Rattle.std.specs.Option.{option_map, option_map_or, option_or}
pub use Rattle.std.specs.Ordering.{MatchOrdering, int_cmp, int_eq, is_eq, is_lt, match_ordering, nat_cmp, ordering_then}
pub use Rattle.std.specs.Prelude.{unwrap_or, ⊤}
pub use Rattle.std.specs.Result.{IfErr, result_ok}
pub use Rattle.std.specs.Str.Lines.{lines, strip_carriage_return}
pub use Rattle.std.specs.Str.Parse.{AllDigits, digits_value}
pub use Rattle.std.specs.Vec.{with_item, with_items}
pub use Rattle.std.specs.Vec.Iter.{into_iter_items, into_iter_len}
pub use Rattle.std.specs.declared.alloc.Global.{Global}
pub use Rattle.std.specs.declared.cmp.Ordering.{Ordering}
pub use Rattle.std.specs.declared.cmp.Ordering.TheVariants.{Equal, Greater, Less}
pub use borrow.Rule.Slice.PartMut.{put_mid, same_len_mid}
pub use lib.Lanes.{chunk, mask_l, top, zip2}
pub use mathlib.Core.HLevel.{dec→stable, ×_discrete}
pub use mathlib.Core.List.{List-discrete}
pub use mathlib.Core.Logic.Dec.{and, of_iff}
pub use mir.Val.{bool_byte}
