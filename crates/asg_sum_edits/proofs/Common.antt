-- The names that proofs of this crate cite most, passed on from one place. Declares nothing.
pub use Rattle.asg_model.proofs.Kit.{All, All-head, All-tail, Bool, IfSome, IsSome, IsTrue, List, None, OnSome, Option, Some, [], and_parts, ap, arith, cases_eq, cases_lt, cond, count_by, count_by-le-length, eq-eqb, false, false≢true, filter_map, get_or, get_or_from_slice_get, int_eq, ints, is_some, length, length-replicate, map, min, nat_tests, option_map_or, option_to_list, pos, range_with_len, refl, replicate, slice_get, slice_index, slice_index_or, subst, suc, sum, sum-map, sum_by, sum_by-append, sum_by-cons, sym, take, to_z-of_z, true, w128, zero, ℕ, ℤ, ⊎_elim, ◌&&◌, ◌*◌, ◌+ℤ◌, ◌+◌, ◌-ℤ◌, ◌<◌, ◌^◌, ◌∙◌, ◌∷◌, ◌≡◌, ◌≢◌, ◌≤ℤ◌, ◌≤◌}
pub use Rattle.asg_model.specs.Counts.{capacity_at, placed}
pub use Rattle.asg_model.specs.Instances.{IsInstance}
pub use Rattle.asg_model.specs.Live.{cost_at, is_active, is_open, live_at}
pub use Rattle.asg_model.specs.Problem.{Problem}
pub use Rattle.asg_model.specs.Table.{AreRowParts, absent, table_cost}
pub use Rattle.asg_model.specs.ValidChoice.{IsValid, takes}
pub use Rattle.asg_model.specs.Values.{choice_value, chosen_cost, costs_of, first_parts, total, value_of}
pub use Rattle.asg_model.specs.declared.objectives.Objective.{Objective}
pub use Rattle.asg_model.specs.declared.objectives.Objective.TheVariants.{Sum, SumMax}
pub use Rattle.asg_model.specs.declared.objectives.Value.TheVariants.{One}
pub use Rattle.asg_model.specs.declared.parts.Column.{Column}
pub use Rattle.asg_model.specs.declared.parts.Cost.{Cost}
pub use Rattle.asg_monoids.specs.Entered.{cost_reach, is_sum_objective, sum_entered, top_of}
pub use Rattle.asg_monoids.specs.NarrowObjectives.{is_narrow_objective}
pub use Rattle.asg_monoids.specs.laws.SumFolds.{bounded_fold, sum_shifted, sum_turned}
pub use Rattle.asg_monoids.specs.laws.SumOrders.{near_a, sums_keep_order}
pub use Rattle.asg_order.specs.laws.ChosenCosts.{Bridges-from_KeepsOrder, costs_may_enter, length-costs_of}
pub use Rattle.asg_proof.specs.laws.LiveCosts.{lies_within}
pub use Rattle.asg_sum_edits.specs.Sessions.{Follows, IsSession}
pub use Rattle.asg_sum_edits.specs.SumDuals.{AreAbove, AreFirstsAbove, IsBestSum, IsOneToOne, IsRowAbove, IsSingle, chosen_sum, first_entered, most_amount, number_of}
pub use Rattle.std.specs.Option.{option_and_then}
