-- The names that proofs of this crate cite most, passed on from one place. Declares nothing.
pub use Rattle.asg_model.proofs.Kit.{IfSome, None, Option, ap, arith, count_by-le-length, is_none, length, length-replicate, subst, ℕ, ◌<◌}
pub use Rattle.asg_admit.specs.Reduced.{IsReduced}
pub use Rattle.asg_admit.specs.Settling.{HasValueAt}
pub use Rattle.asg_match.specs.Matching.{Matches}
pub use Rattle.asg_match.specs.laws.Matchings.{Matches-empty}
pub use Rattle.asg_monoids.specs.BoundedSums.{bounded_sums, narrow_top}
pub use Rattle.asg_pool.specs.Forest.{IsLive}
