-- The names that proofs of this crate cite most, passed on from one place. Declares nothing.
pub use Rattle.asg_model.proofs.Kit.{All, All-push, IfSome, None, Option, Some, [], ap, arith, drop, drop_all, drop_more, false≢true, filter_map, get_or, length, map, map_more, range_with_len, refl, subst, sym, take, take_all, ℕ, ◌++◌, ◌+◌, ◌-◌, ◌<◌, ◌∙◌, ◌∷◌, ◌≡◌, ◌≤◌}
pub use Rattle.asg_model.specs.Values.{chosen_cost}
pub use Rattle.asg_monoids.specs.BoundedSums.{bounded_difference, bounded_sums, narrow_top, plain_word}
pub use Rattle.asg_order.specs.Monoid.{IsValue, fold_of}
pub use Rattle.asg_order.specs.declared.words.Word.{Word}
pub use Rattle.asg_proof.specs.Phases.{PhaseOf, phase_of, worded}
pub use Rattle.asg_replays.specs.PhaseParts.{counted_from, first_part, steps_between}
pub use Rattle.asg_replays.specs.Replays.{AreReplayed, IsAdmittedFrom, IsReplayed, IsStart}
pub use Rattle.asg_replays.specs.WholeLists.{AreTotalsOf}
pub use Rattle.asg_replays.specs.laws.LiveCosts.{fold_more, live_values}
pub use Rattle.asg_replays.specs.laws.PhaseParts.{none_at-between, refused-first, refused-part, replayed-part, values-between, whole-part}
pub use Rattle.asg_replays.specs.laws.Replaying.{first-bad, phase-words, refused-words, replayed-none, replayed-push, unread-words}
pub use Rattle.asg_square.specs.Grid.{Grid, IsSquareOf, cell_at}
