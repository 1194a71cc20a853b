-- The names that proofs of this crate cite most, passed on from one place. Declares nothing.
pub use Rattle.asg_model.proofs.Kit.{All, All-cons, All-get_or, All-map, All-nil, All-set, All-weaker, AllPairs, Bool, Contains, Contains-append_left, Contains-append_right, Contains-push, Contains-tail, IfSome, IsSome, IsTrue, List, None, Option, Some, [], and_left, and_right, ap, arith, cases_eq, cases_lt, cases_order, cond, cond-false, cond-true, count_by, count_by-le-length, eq-eqb, eqb, eqb-false, false, false≢true, filter_map, get_or, get_or-set_other, get_or-set_same, get_or_default, get_or_past, inl, inr, ints, is_some, le-ltb, length, length-map, length-map-range_with_len, length-set, lt-ltb, ltb-true, map, mul-le-mul_right, nat_lt, nat_tests, ne_eqb, none-some, option_and_then, option_map, option_map_or, option_to_list, pos, range_with_len, refl, row_fits, same_Some, set, slice_get, slice_get-get_or, slice_get_cases, slice_get_past, slice_index, slice_index_or, subst, suc, sum, sum-map, sum_by, sum_by-append, sum_by-cons, sum_by-le, sym, take, true, unwrap_or, zero, ℕ, ⊎_elim, ◌&&◌, ◌*◌, ◌+◌, ◌-◌, ◌<◌, ◌==◌, ◌^◌, ◌↔◌, ◌∙◌, ◌∷◌, ◌≡◌, ◌≢◌, ◌≤◌, ◌⊎◌}
pub use Rattle.asg_dual_bounds.specs.Bounds.{AreAbove, Duals, IsColumnGap, IsDualBound, IsRowGap}
pub use Rattle.asg_dual_bounds.specs.GapTests.{AreLeasts, Bars, IsColumnGapAt, IsColumnGapIn, IsGapBelow, IsGapIn, IsRowGapIn}
pub use Rattle.asg_dual_bounds.specs.Numbers.{IsAnswer, choice_of, chosen_number, number_at, sum_at}
pub use Rattle.asg_dual_bounds.specs.Parts.{IsAllowed, IsIn, Part, child_part, whole_part}
pub use Rattle.asg_dual_bounds.specs.Plain.{IsPlain}
pub use Rattle.asg_dual_bounds.specs.RowTests.{AreClipped, AreRaised, IsCellAbove, IsRowAbove, IsRowAboveBut, IsRowKept}
pub use Rattle.asg_dual_bounds.specs.Tables.{IsTable, IsTableOf, Table, absent, number_in, number_of, table_number}
pub use Rattle.asg_dual_bounds.specs.Views.{IsChildGap, duals_of, part_of}
pub use Rattle.asg_model.specs.Instances.{IsCostInRange, IsInstance}
pub use Rattle.asg_model.specs.Live.{cost_at, is_active, is_open, live_at}
pub use Rattle.asg_model.specs.Problem.{Problem}
pub use Rattle.asg_model.specs.Sums.{sum_below}
pub use Rattle.asg_model.specs.ValidChoice.{Chooses, IsValid, takes}
pub use Rattle.asg_model.specs.declared.objectives.Objective.{Objective}
pub use Rattle.asg_model.specs.declared.objectives.Objective.TheVariants.{Sum, SumMax}
pub use Rattle.asg_model.specs.declared.parts.Cost.{Cost}
pub use Rattle.asg_model.specs.laws.Counting.{sum_below-add, sum_below-le, sum_below-same, sum_by-below, term-le-sum_below}
pub use Rattle.asg_model.specs.laws.Rows.{no_column, no_row, ones_below}
pub use Rattle.asg_monoids.specs.Entered.{cost_reach, sum_entered}
pub use Rattle.asg_monoids.specs.NarrowObjectives.{is_narrow_objective}
pub use Rattle.asg_proof.specs.laws.LiveCosts.{costs_may_enter, live_in_range}
pub use Rattle.asg_rankings.specs.Ranked.{AreListed, IsBetterChoice, IsRanking}
pub use Rattle.std.proofs.Math.ListN.{get_or-map}
