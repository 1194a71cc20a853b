-- The names that proofs of this crate cite most, passed on from one place. Declares nothing.
pub use Rattle.asg_model.proofs.Kit.{Contains, List, Option, Some, [], ap, arith, cases_eq, get_or, get_or_default, inl, inr, length, length-map, map, refl, same_lists, slice_index, subst, suc, sym, zero, ℕ, ◌+◌, ◌-◌, ◌<◌, ◌∙◌, ◌∷◌, ◌≡◌, ◌≢◌, ◌≤◌, ◌⊎◌}
pub use Rattle.asg_dual_bounds.specs.Bounds.{AreAbove, Duals, IsColumnGap, IsDualBound, IsRowGap}
pub use Rattle.asg_dual_bounds.specs.Numbers.{IsAnswer, choice_of, sum_at}
pub use Rattle.asg_dual_bounds.specs.Parts.{IsIn, Part, child_part}
pub use Rattle.asg_dual_bounds.specs.Views.{IsChildGap, duals_of, part_of}
pub use Rattle.asg_model.specs.Problem.{Problem}
pub use Rattle.asg_model.specs.declared.objectives.Objective.{Objective}
pub use Rattle.asg_sum_ranks.specs.Branches.{AreBranches, AreShut, Branch, HaveGaps, IsChild, IsGiven, IsShut, IsSound, SumsTo, answer_at, answers_of, branch_at, child_at, columns_of, part_at}
