-- The names that proofs of this crate cite most, passed on from one place. Declares nothing.
pub use Rattle.asg_model.proofs.Kit.{All, All-append, All-cons, All-contains, All-filter, All-head, All-map, All-nil, All-permutation, All-tail, All-weaker, AllByRecursion, AllPairs, AllPairs-cons, Bool, Bool-discrete, Contains, Decides, Decides-at, Decides-eqb, Decides-int_eq, Equal, FitsSigned, Greater, IfOk-weaker, IfSome, IsPermutation, IsPermutation-cons, IsPermutation-middle, IsPermutation-refl, IsPermutation-reverse, IsPermutation-trans, IsSome, IsSorted, IsTrue, Less, List, MatchOrdering, None, OnFalse_at, OnFalse_from, Option, Ordering, Some, [], and, and_parts, ap, arith, below_more, by_lt_z, cases_Bool, cases_eq, cases_lt, cond, cons_option, count_by, count_by-le-length, dec_le, dec_lt, enumerate_from, eqb, false, false_from_ne_true, false≢true, filter, filter_map, filter_more, fits_signed_from_abs, fold, fold-append, fold-int_max_bounds, fold-int_min_bounds, fold-int_min_reached, fold-map, fold_more, get_or, get_or-enumerate_from, get_or-map, get_or-range_with_len, get_or-replicate, get_or-reverse, get_or-set_other, get_or-set_same, get_or-take, get_or_default, get_or_past, inl, inr, int_cmp, int_cmp_total, int_eq, int_le, int_lt, int_max, int_min, int_ranks, ints, is_lt, is_some, length, length-append, length-enumerate_from, length-filter, length-map, length-range_with_len, length-replicate, length-reverse, length-set, length-take, length_permutation, list_any, list_any_at, list_any_more, map, map-append, nat_tests, ne_eqb, none-some, not, of_iff, of_z, option_and_then, option_map_or, option_to_list, or-false, or-true, ordering_then, pos, position-Some, range_with_len, ranks_by, refl, replicate, reverse, rules, same_Some, set, slice_cmp, slice_get, slice_get-get_or, slice_get_past, slice_get_within, slice_index, slice_index_or, sorted_far, subst, suc, sum_by-IsPermutation, sum_by-cons, sum_by_more, sym, take, take_all, to_z, to_z-of_z, true, unsigned_abs, unwrap_or, w128, w64, zero, zero-add, ℕ, ℕ_discrete, ℤ, ⊎_elim, ⊤, ◌&&◌, ◌*◌, ◌++◌, ◌+ℤ◌, ◌+◌, ◌-ℤ◌, ◌-◌, ◌<ℤ◌, ◌<◌, ◌==◌, ◌||◌, ◌∙◌, ◌∷◌, ◌≡◌, ◌≢◌, ◌≤ℤ◌, ◌≤◌, ◌⊎◌}
pub use Rattle.asg_model.specs.Bands.{in_band}
pub use Rattle.asg_model.specs.Better.{IsBetter, IsLessList}
pub use Rattle.asg_model.specs.Counts.{active_count, capacity_at, is_counted, placed, placed_by, slack}
pub use Rattle.asg_model.specs.Descending.{IsDescending, descending, with_descending}
pub use Rattle.asg_model.specs.Extremes.{greatest, least}
pub use Rattle.asg_model.specs.HallSet.{IsHall, LiesIn, is_counted_id, is_live_within, is_reached, reached_capacity, reached_part, reaches, row_place_of}
pub use Rattle.asg_model.specs.Instances.{IsCostInRange, IsInstance, IsPlaceInRange}
pub use Rattle.asg_model.specs.Limits.{most_columns, most_cost, most_rows}
pub use Rattle.asg_model.specs.Live.{cost_at, is_active, is_open, live_at}
pub use Rattle.asg_model.specs.Problem.{Problem}
pub use Rattle.asg_model.specs.Refused.{IsPassed, is_refused, is_refused_at}
pub use Rattle.asg_model.specs.Sums.{count_below, sum_below}
pub use Rattle.asg_model.specs.Table.{AreRowParts, IsEntry, absent, table_cost}
pub use Rattle.asg_model.specs.ValidChoice.{Chooses, IsValid, takes}
pub use Rattle.asg_model.specs.ValueRange.{IsPartInRange, IsSumInRange, IsValueInRange}
pub use Rattle.asg_model.specs.Values.{choice_value, chosen_cost, costs_at, costs_of, first_parts, second_parts, total, value_of}
pub use Rattle.asg_model.specs.declared.bands.Band.{Band}
pub use Rattle.asg_model.specs.declared.objectives.Objective.{Objective}
pub use Rattle.asg_model.specs.declared.objectives.Objective.TheVariants.{Balanced, Bottleneck, BottleneckMax, Capped, Lex, Sum, SumMax, SumPair, TimeCost}
pub use Rattle.asg_model.specs.declared.objectives.Value.{Value}
pub use Rattle.asg_model.specs.declared.objectives.Value.TheVariants.{Many, One, Two}
pub use Rattle.asg_model.specs.declared.parts.Cost.{Cost}
pub use Rattle.asg_model.specs.laws.Counting.{length-le-count_below, sum_below-add, sum_below-exchange, sum_below-le, sum_below-same, sum_below-zero, sum_by-below, term-le-sum_below}
pub use Rattle.asg_model.specs.laws.Rows.{cost_at-All, counted-from_active, counted_total, is_active-from_live, no_column, no_row, row-from_active}
pub use Rattle.asg_model.specs.laws.Tests.{dec_below, less_is, split_one}
pub use Rattle.std.specs.List.{sum_by}
