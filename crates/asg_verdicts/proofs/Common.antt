-- The names that proofs of this crate cite most, passed on from one place. Declares nothing.
pub use Rattle.asg_model.proofs.Kit.{IfOk-weaker, List, Option, [], ap, arith, cases_lt, false≢true, fun_ext, inl, inr, pos, refl, subst, suc, sym, take, true, ℕ, ⊎_elim, ◌+◌, ◌<◌, ◌^◌, ◌∙◌, ◌∷◌, ◌≡◌, ◌≢◌, ◌≤◌, ◌⊎◌}
pub use Rattle.asg_admit.specs.declared.reduced.Reduced.{Reduced}
pub use Rattle.asg_model.specs.Problem.{Problem}
pub use Rattle.asg_model.specs.Shapes.{square_side}
pub use Rattle.asg_model.specs.declared.objectives.Objective.{Objective}
pub use Rattle.asg_model.specs.declared.objectives.Objective.TheVariants.{Bottleneck, BottleneckMax, Capped, Sum, SumMax, SumPair, TimeCost}
pub use Rattle.asg_model.specs.declared.parts.Cost.{Cost}
pub use Rattle.asg_monoids.specs.BoundedSums.{bounded_difference, bounded_sums, bounded_value, narrow_top, plain_word}
pub use Rattle.asg_monoids.specs.Entered.{cost_reach, is_sum_objective, peak_entered, sum_entered, time_entered, top_of}
pub use Rattle.asg_monoids.specs.laws.Bounded.{bounded_laws, bounded_word_laws}
pub use Rattle.asg_order.specs.Bridge.{choice_fold}
pub use Rattle.asg_order.specs.Monoid.{IsOrderedMonoid, IsValue, Monoid}
pub use Rattle.asg_order.specs.declared.words.Word.{Word}
pub use Rattle.asg_verdicts.specs.Replays.{StandsFor, StandsFrom, StandsOver}
pub use Rattle.asg_proof.specs.Phases.{AreAdmittedPhases, PhaseOf, index_of}
pub use Rattle.asg_proof.specs.laws.LiveCosts.{lies_within}
pub use Rattle.asg_verdicts.specs.Verdicts.{Tells, phase_reasons}
pub use Rattle.asg_verdicts.specs.declared.verdicts.Verdict.TheVariants.{No, Yes}
pub use Rattle.asg_replays.specs.Replays.{AreAdmittedFrom, AreReplayed, IsFirstBad, IsStart}
pub use Rattle.asg_replays.specs.WholeLists.{HaveIndex}
pub use Rattle.asg_square.specs.Cells.{square_cell}
pub use Rattle.asg_square.specs.Grid.{cell_at}
