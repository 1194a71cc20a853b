-- The names that proofs of this crate cite most, passed on from one place. Declares nothing.
pub use Rattle.asg_model.proofs.Kit.{All, All-cons, All-nil, All-push, Bool, IfOk, IfOk-weaker, IfSome, IfSome_then, List, None, Option, Result, Some, [], ap, arith, cases_lt, drop, drop_all, drop_more, false, false≢true, get_or, get_or_from_slice_get, is_some, leb-true, length, length-map, ltb-true, map, map-append, none-some, not, refl, same_Some, slice_index, subst, suc, sym, take, take_all, take_more, true, zero, ℕ, ⊎_elim, ◌++◌, ◌+◌, ◌-◌, ◌<◌, ◌^◌, ◌∙◌, ◌∷◌, ◌≡◌, ◌≤◌}
pub use Rattle.asg_grade_lists.specs.GradeLists.{AreAmountsAt, AreOfGrade, BeginWithRise, EndsWellAt, IsRiseTo, LeadTo, NoneLower, NoneLowerIn, RowEndsWell, RowsEndWell, TakesIn}
pub use Rattle.asg_monoids.specs.BoundedSums.{bounded_difference, bounded_sums, narrow_top}
pub use Rattle.asg_monoids.specs.Grades.{graded, graded_difference, graded_word}
pub use Rattle.asg_order.specs.declared.words.Word.{Word}
pub use Rattle.asg_phase_totals.specs.PhaseTotals.{AreTotals, CountAndRaise, CountsRight, EndAtLeast0, StayBelow, Totals, sum_of_steps}
pub use Rattle.asg_proof.specs.GradeAmounts.{AreAmounts, HasPositiveSteps, IsRisePhase, amount_at, cell_amount, graded_phase, of_grade, rise_phase}
pub use Rattle.asg_proof.specs.Phases.{AreAdmittedPhases, PhaseOf, entered_at, index_of, phase_of, staying_at, worded}
pub use Rattle.asg_proof.specs.PromisedProofs.{IsPhaseOver}
pub use Rattle.asg_square.specs.Grid.{cell_at}
