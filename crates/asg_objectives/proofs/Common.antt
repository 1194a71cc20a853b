-- The names that proofs of this crate cite most, passed on from one place. Declares nothing.
pub use Rattle.asg_model.proofs.Kit.{All, All-push, All-tail, AllPairs, Decides-eqb, Err, Fits-lt-pow, IfOk, IfOk-weaker, IfSome, IfSome_then, IsTrue, List, None, Ok, Option, Result, Some, [], ap, append_assoc, arith, bit_at, bit_at-trailing_zeros, cases_lt, count_by-le-length, false≢true, get_or, get_or-append_seam, get_or_append_left, get_or_default, into_iter_items, into_iter_len, is_none, is_some, length, length-append, length-map, length-replicate, map, range_with_len, refl, slice_index, slice_index_or, subst, sym, true, w64, ℕ, ⊎_elim, ◌%◌, ◌*◌, ◌++◌, ◌+◌, ◌/◌, ◌<◌, ◌^◌, ◌↔◌, ◌∙◌, ◌∷◌, ◌≡◌, ◌≢◌, ◌≤◌}
pub use Rattle.asg_admit.specs.PhaseValues.{AreOfValues}
pub use Rattle.asg_admit.specs.Reduced.{KeepsLabels, KeepsPresence}
pub use Rattle.asg_admit.specs.laws.KeptLabels.{HasLabelsOf-kept}
pub use Rattle.asg_admit.specs.laws.PhaseValues.{admitted_over, admitted_values, words_over}
pub use Rattle.asg_algebra.specs.Ended.{EndsIn, last_of}
pub use Rattle.asg_algebra.specs.Solved.{HasSolved, unmatched}
pub use Rattle.asg_grade_lists.specs.GradeLists.{LeadTo}
pub use Rattle.asg_match.specs.ColumnSet.{HasBit}
pub use Rattle.asg_match.specs.Matching.{IsMatching, IsPerfect, Matches}
pub use Rattle.asg_model.specs.Instances.{IsInstance}
pub use Rattle.asg_model.specs.Limits.{most_cost}
pub use Rattle.asg_model.specs.Live.{live_at}
pub use Rattle.asg_model.specs.Problem.{Problem}
pub use Rattle.asg_model.specs.Refused.{PassesNegative}
pub use Rattle.asg_model.specs.Shapes.{square_side}
pub use Rattle.asg_model.specs.ValidChoice.{IsValid}
pub use Rattle.asg_model.specs.Values.{costs_of}
pub use Rattle.asg_model.specs.declared.objectives.Objective.{Objective}
pub use Rattle.asg_model.specs.declared.objectives.Objective.TheVariants.{Balanced, Bottleneck, BottleneckMax, Capped, Lex, Sum, SumMax, SumPair, TimeCost}
pub use Rattle.asg_model.specs.declared.parts.Cost.{Cost}
pub use Rattle.asg_monoids.specs.BoundedSums.{bounded_difference, bounded_sums, narrow_top, plain_word}
pub use Rattle.asg_monoids.specs.Entered.{cost_reach, is_sum_objective, peak_entered, sum_entered, time_entered, top_of}
pub use Rattle.asg_monoids.specs.Grades.{graded, graded_difference, graded_word}
pub use Rattle.asg_monoids.specs.Maxima.{maxima, maxima_difference}
pub use Rattle.asg_objectives.specs.FoldOutcomes.{IsFoldOutcome}
pub use Rattle.asg_objectives.specs.SolvedFrom.{IsAssignedFrom, IsSolvedFrom}
pub use Rattle.asg_objectives.specs.SolvedSquares.{IsBestBy, IsChoiceBy, IsNothingBy, IsSquareOutcome}
pub use Rattle.asg_algebra.specs.declared.workplaces.Workplace.{Workplace}
pub use Rattle.asg_order.specs.Bridge.{choice_fold, costs_fold}
pub use Rattle.asg_order.specs.Entering.{MayEnter}
pub use Rattle.asg_order.specs.Monoid.{IsOrderedMonoid, IsValue, Monoid, fold_of}
pub use Rattle.asg_order.specs.declared.words.Word.{Word}
pub use Rattle.asg_pool.specs.Forest.{Forest, IsLive, phases_to}
pub use Rattle.asg_proof.specs.FoldProofs.{ProvesFold, ProvesPeak, ProvesPhases, ProvesSum, ProvesTime}
pub use Rattle.asg_proof.specs.Outcomes.{IsOutcome}
pub use Rattle.asg_proof.specs.PhaseProofs.{EntersValues}
pub use Rattle.asg_proof.specs.Phases.{AreAdmittedPhases, ArePhases, IsPhase, PhaseOf, after_phases, index_of, worded}
pub use Rattle.asg_proof.specs.PromisedProofs.{AreFewPhases, GivesFewPhases, IsPhaseOver}
pub use Rattle.asg_proof.specs.Steps.{HasSide, HasValues, assignment_fold}
pub use Rattle.asg_proof.specs.declared.outcomes.Outcome.{Outcome}
pub use Rattle.asg_proof.specs.declared.outcomes.Outcome.TheVariants.{Best, Nothing}
pub use Rattle.asg_proof.specs.declared.outcomes.Proof.TheVariants.{Phases}
pub use Rattle.asg_proof.specs.laws.LiveCosts.{costs_may_enter, lies_within}
pub use Rattle.asg_square.specs.Cells.{IsAssignment, IsPresent, assignment_values, choice_of, square_cell}
pub use Rattle.asg_square.specs.Grid.{Grid, HasLabelsOf, IsPerm, IsSquareOf, IsValidWithin, IsWithinSquareOf, cell_at, grid_choice}
