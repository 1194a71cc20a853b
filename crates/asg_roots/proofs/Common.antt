-- The names that proofs of this crate cite most, passed on from one place. Declares nothing.
pub use Rattle.asg_model.proofs.Kit.{IfOk, IfOk-weaker, IfSome, IfSome_then, List, None, Option, Result, Some, [], ap, arith, cond, is_none, length, length-replicate, refl, replicate, subst, sum_by-replicate, sym, ℕ, ◌∙◌, ◌∷◌, ◌≡◌, ◌≤◌}
pub use Rattle.asg_proof.specs.Steps.{HasValues}
pub use Rattle.asg_roots.specs.Roots.{IsInstanceRoot, IsSolvedRoot, root_of}
pub use Rattle.asg_roots.specs.laws.InstanceRoots.{enters_values, square_values}
pub use Rattle.asg_square.specs.Grid.{Grid, IsSquareOf, cell_at}
