-- The names that proofs of this crate cite most, passed on from one place. Declares nothing.
pub use Rattle.asg_model.proofs.Kit.{All, All-append, All-cons, All-contains, All-drop, All-head, All-map, All-nil, All-push, All-replicate, All-tail, All-take, All-weaker, AllPairs, AllPairs-cons, AllPairs-filter, Bool, Decides-eqb, Decides-int_eq, Err, IfOk, IfSome, IsDistinct-from_AllPairs, IsPermutation, IsSome, IsTrue, List, None, Ok, OnErr, Option, Result, Some, [], and_from, and_parts, ap, arith, by_lt_z, cases_Bool, cases_eq, cases_lt, cond, cons_option, count_by, count_by-le-length, drop, drop-append_seam, eqb, eqb-true, false, false_from_ne_true, false≢true, fill_by_all, filter, filter_map, fold, get_or, get_or-append-add, get_or-map, get_or-range_with_len, get_or-take, get_or_append_left, get_or_default_zero, if◌then◌else◌, inl, inr, int_eq, int_le, int_lt, ints, is_member-Decides, is_member-filter, is_some, le-leb, leb-true, length, length-append, length-filter, length-filter_both, length-le_from_is_member, length-map, length-range_with_len, length-take, map, map_push, min, nat_eq_equiv, nat_le, nat_lt, nat_tests, none-some, not, option_and_then, option_map, option_map_or, pos, range_with_len, refl, same_Some, slice_get_past, slice_index, slice_index_or, subst, suc, sum_by, sum_by-IsPermutation, sum_by-cons, sum_by_more, sum_by_more_le, sym, take, take-append_seam, take_all, true, unsigned_abs, zero, ℕ, ℤ, ⊎_elim, ◌%◌, ◌&&◌, ◌*◌, ◌++◌, ◌+ℤ◌, ◌+◌, ◌-ℤ◌, ◌-◌, ◌/◌, ◌<ℤ◌, ◌<◌, ◌==◌, ◌^◌, ◌||◌, ◌↔◌, ◌∙◌, ◌∷◌, ◌≡◌, ◌≢◌, ◌≤ℤ◌, ◌≤◌, ◌⊎◌}
pub use Rattle.std.proofs.Common.{unwrap_or}
pub use Rattle.asg_model.specs.Best.{IsBest}
pub use Rattle.asg_model.specs.Better.{IsBetter, IsLessList}
pub use Rattle.asg_model.specs.Counts.{placed, slack}
pub use Rattle.asg_model.specs.Descending.{IsDescending, descending}
pub use Rattle.asg_model.specs.HallSet.{IsHall, LiesIn, is_counted_id, reached_capacity}
pub use Rattle.asg_model.specs.Instances.{IsCostInRange, IsInstance}
pub use Rattle.asg_model.specs.Live.{cost_at, is_active, is_open, live_at}
pub use Rattle.asg_model.specs.Problem.{Problem, problem_of}
pub use Rattle.asg_model.specs.Refused.{PassesNegative, is_refused}
pub use Rattle.asg_model.specs.Shapes.{square_side}
pub use Rattle.asg_model.specs.Spreads.{HasSpread}
pub use Rattle.asg_model.specs.ValidChoice.{IsValid}
pub use Rattle.asg_model.specs.Values.{choice_value, chosen_cost, costs_at, costs_of, first_parts}
pub use Rattle.asg_model.specs.declared.bands.Band.{Band}
pub use Rattle.asg_model.specs.declared.bands.Band.TheVariants.{Between, Over, Under, Whole}
pub use Rattle.asg_model.specs.declared.objectives.Objective.{Objective}
pub use Rattle.asg_model.specs.declared.objectives.Objective.TheVariants.{Balanced, Bottleneck, BottleneckMax, Capped, Lex, Sum, SumMax, SumPair, TimeCost}
pub use Rattle.asg_model.specs.declared.objectives.Value.TheVariants.{One}
pub use Rattle.asg_model.specs.declared.parts.Cost.{Cost}
pub use Rattle.asg_model.specs.laws.Listing.{Contains-range, all_there}
pub use Rattle.asg_monoids.specs.BoundedSums.{bounded_difference, bounded_sums}
pub use Rattle.asg_monoids.specs.Grades.{graded, graded_difference}
pub use Rattle.asg_monoids.specs.laws.Bounded.{bounded_difference_laws, bounded_laws}
pub use Rattle.asg_monoids.specs.laws.Graded.{by_grades, graded_difference_laws, graded_laws}
pub use Rattle.asg_monoids.specs.laws.SumFolds.{bounded_fold}
pub use Rattle.asg_order.specs.Bridge.{KeepsOrder, choice_fold, costs_fold}
pub use Rattle.asg_order.specs.Differences.{HasDifferences}
pub use Rattle.asg_order.specs.Monoid.{IsLe, IsLess, IsOrderedMonoid, IsValue, Monoid, fold_of}
pub use Rattle.asg_order.specs.declared.words.Word.{Word}
pub use Rattle.asg_order.specs.laws.ChosenCosts.{Bridges-from_KeepsOrder, length-costs_of}
pub use Rattle.asg_order.specs.laws.Orders.{le_product, product_le, reflexive}
pub use Rattle.asg_order.specs.laws.Products.{exchanged, fold-cons, fold_is_value, fold_of-append}
pub use Rattle.asg_proof.specs.FoldProofs.{ProvesFold, ProvesPeak, ProvesPhases, ProvesSum, ProvesTime}
pub use Rattle.asg_proof.specs.GradeAmounts.{AreAmounts, HasPositiveSteps, IsRisePhase, amount_at, cell_amount, graded_phase, of_grade, rise_phase}
pub use Rattle.asg_proof.specs.LevelLists.{AreLevelParts}
pub use Rattle.asg_proof.specs.Levels.{AreLevels, AreLevelsFrom, AreProvedFrom, AreProvedLevels, IsLeftAssignment, IsLevel, IsProvedLevel, ProvesLevels, ProvesRanks, counted_as, has_cost, is_after, is_between, is_zero, left_after, left_for, left_last, level_square, level_sums, numbers_of, restricted, without}
pub use Rattle.asg_proof.specs.PhaseProofs.{EntersValues, IsRaised, ProvesIndex}
pub use Rattle.asg_proof.specs.Phases.{AreAdmittedPhases, AreAdmittedSteps, ArePhases, IsAdmittedPhase, IsPhase, PhaseOf, after_phase, after_phases, cut_phase, entered_at, index_of, phase_of, square_after, staying_at, worded}
pub use Rattle.asg_proof.specs.StepWords.{AreStepNumbers, AreTold, IsTold, as_words, far_grade, short_words, told_word, whole_word}
pub use Rattle.asg_proof.specs.Steps.{AreRaised, HasSide, HasValues, IsAdmittedStep, count_below, moved, stepped}
pub use Rattle.asg_proof.specs.Windows.{AreWindows, IsHallWindow, ProvesSpread, ProvesWindows, holds_from, is_held}
pub use Rattle.asg_proof.specs.declared.levels.Level.{Level}
pub use Rattle.asg_proof.specs.declared.step_words.ShortWord.{ShortWord}
pub use Rattle.asg_proof.specs.declared.windows.Window.{Window}
pub use Rattle.asg_proof.specs.laws.PhaseLists.{AreAdmittedPhases-back, AreAdmittedPhases-front, AreAdmittedPhases-push, HasSide-phases, HasValues-phases, IsAssignment-from_phases, IsAssignment-phases, index_is_value, is_some-phases, steps_value}
pub use Rattle.asg_proof.specs.laws.PhaseSteps.{HasSide-after, HasValues-after, IsAssignment-after, steps_are_values, take-step}
pub use Rattle.asg_proof.specs.laws.Squares.{HasSide-square_cell, HasValues-square_cell, labelled_value}
pub use Rattle.asg_proof.specs.laws.Stepped.{HasSide-stepped, HasValues-stepped, IsAssignment-from_stepped, IsAssignment-same, IsAssignment-stepped, option_map_cases}
pub use Rattle.asg_square.specs.Cells.{IsAssignment, IsSquareChoice, assignment_values, choice_of, chosen_by, entered_or_free, square_cell}
pub use Rattle.std.specs.List.{sum}
