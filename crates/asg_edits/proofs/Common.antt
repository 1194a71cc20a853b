-- The names that proofs of this crate cite most, passed on from one place. Declares nothing.
pub use Rattle.asg_model.proofs.Kit.{All, Err, IfOk-weaker, IsTrue, List, None, Ok, OnOk, Option, Result, Some, [], ap, arith, cond, get_or_from_slice_get, is_none, length, length-map, length-set, map, map-append, refl, slice_get, slice_set, subst, suc, sum_by-cons, sym, take, take-map, take_more, take_more_set, true, zero, ℕ, ◌++◌, ◌+◌, ◌<◌, ◌^◌, ◌∙◌, ◌∷◌, ◌≡◌, ◌≢◌, ◌≤◌}
pub use Rattle.asg_algebra.specs.Solved.{unmatched}
pub use Rattle.asg_edits.specs.EditOutcomes.{IsAnswerAt, IsAnswerIn, IsBestAt, IsBestIn, IsChoiceAt, IsChoiceIn, IsPhases}
pub use Rattle.asg_edits.specs.Edited.{EditFact, KeepsIn}
pub use Rattle.asg_edits.specs.Editors.{EditorOf, Edits, GoesTo, SettlesTo, editor_of, seen_by_duals}
pub use Rattle.asg_edits.specs.declared.sessions.Sessions.TheVariants.{Duals, Peaks, Sums, Times}
pub use Rattle.asg_kept_phases.specs.Edited.{Touches}
pub use Rattle.asg_match.specs.Matching.{column_at}
pub use Rattle.asg_model.specs.Edits.{edited, refusal_of}
pub use Rattle.asg_model.specs.Problem.{Problem}
pub use Rattle.asg_model.specs.declared.edits.Edit.{Edit}
pub use Rattle.asg_model.specs.declared.objectives.Objective.{Objective}
pub use Rattle.asg_model.specs.declared.objectives.Objective.TheVariants.{Balanced, Bottleneck, BottleneckMax, Capped, Lex, Sum, SumMax, SumPair, TimeCost}
pub use Rattle.asg_model.specs.declared.parts.Cost.{Cost}
pub use Rattle.asg_monoids.specs.BoundedSums.{bounded_difference, bounded_sums, plain_word}
pub use Rattle.asg_monoids.specs.Entered.{is_sum_objective, peak_entered, sum_entered, time_entered, top_of}
pub use Rattle.asg_monoids.specs.Grades.{graded, graded_difference, graded_word}
pub use Rattle.asg_monoids.specs.Maxima.{maxima, maxima_difference}
pub use Rattle.asg_monoids.specs.declared.peak_kinds.PeakKind.{PeakKind}
pub use Rattle.asg_monoids.specs.declared.sum_kinds.SumKind.{SumKind}
pub use Rattle.asg_order.specs.Monoid.{Monoid}
pub use Rattle.asg_order.specs.declared.words.Word.{Word}
pub use Rattle.asg_proof.specs.KeptWords.{IsRaisedFor, KeepsFact, KeepsFold, KeepsPhases}
pub use Rattle.asg_proof.specs.Phases.{PhaseOf, worded}
pub use Rattle.asg_proof.specs.declared.outcomes.Outcome.{Outcome}
pub use Rattle.asg_proof.specs.declared.outcomes.Proof.TheVariants.{Below, Levels, Phases, Windows}
pub use Rattle.asg_repair.specs.Sessions.{IsBestBy, SessionOf}
