-- The names that proofs of this crate cite most, passed on from one place. Declares nothing.
pub use Rattle.asg_model.proofs.Kit.{Bool, IfSome, IsSome, List, None, Option, Some, [], and_parts, ap, arith, cases_lt, cond, count_by, eq-eqb, eqb, false, false≢true, filter_map, get_or, get_or-replicate, get_or_past, inl, inr, int_eq, ints, is_some, length, map, min, mul-add, mul-le, nat_tests, ne_eqb, negsuc, of_z, option_and_then, option_map_or, option_to_list, pos, range_with_len, refl, same_Some, slice_get, slice_get-get_or, slice_get_past, slice_index, slice_index_or, subst, suc, sum-map, sum_by, sum_by-append, sum_by-cons, sum_by_more, sym, take, to_z, to_z-of_z, true, unsigned_abs, zero, ℕ, ℤ, ⊎_elim, ◌&&◌, ◌*◌, ◌+ℤ◌, ◌+◌, ◌-ℤ◌, ◌<◌, ◌∙◌, ◌∷◌, ◌≡◌, ◌≤ℤ◌, ◌≤◌, ◌⊎◌}
pub use Rattle.asg_model.specs.Counts.{capacity_at}
pub use Rattle.asg_model.specs.Instances.{IsInstance}
pub use Rattle.asg_model.specs.Limits.{most_columns, most_cost}
pub use Rattle.asg_model.specs.Live.{cost_at, is_active, is_open, live_at}
pub use Rattle.asg_model.specs.Problem.{Problem}
pub use Rattle.asg_model.specs.Sums.{one, sum_below}
pub use Rattle.asg_model.specs.Table.{AreRowParts, absent, table_cost}
pub use Rattle.asg_model.specs.ValidChoice.{Chooses, IsValid, takes}
pub use Rattle.asg_model.specs.Values.{choice_value, chosen_cost, costs_of}
pub use Rattle.asg_model.specs.declared.objectives.Objective.{Objective}
pub use Rattle.asg_model.specs.declared.parts.Cost.{Cost}
pub use Rattle.asg_model.specs.laws.Counting.{sum_below-add, sum_below-le, sum_below-same, sum_below-zero, sum_by-below}
pub use Rattle.asg_monoids.specs.Entered.{cost_reach, is_sum_objective, shifted, sum_entered, top_of, turned}
pub use Rattle.asg_proof.specs.laws.LiveCosts.{first_part_in_range, lies_within}
pub use Rattle.asg_table_sums.specs.Level.{IsFull, IsLeastCell, IsLevel, IsOver, IsRowLevel, IsUnder, rise_at}
pub use Rattle.std.specs.Int.{w64}
