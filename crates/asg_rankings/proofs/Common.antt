-- The names that proofs of this crate cite most, passed on from one place. Declares nothing.
pub use Rattle.asg_model.proofs.Kit.{All, All-cons, All-nil, AllPairs, Bool, Contains, IfSome, IfSome_then, IsSome, IsTrue, List, None, Option, Some, [], and_parts, ap, arith, cases_Bool, cases_lt, cases_order, cond, cond-false, cond-true, cons_option, count_by, eq-eqb, eqb, eqb-true, false, false≢true, filter_map, from_bool, get_or, get_or_default, get_or_from_slice_get, inl, inr, le-leb, le-ltb, leb-true, length, lt-ltb, map, nat_le, nat_lt, ne_eqb, not, option_and_then, option_map_or, range_with_len, refl, slice_get, slice_get_within, slice_index_or, subst, suc, sum_by-cons, sym, true, zero, ℕ, ⊎_elim, ◌&&◌, ◌+◌, ◌-◌, ◌<◌, ◌^◌, ◌↔◌, ◌∙◌, ◌∷◌, ◌≡◌, ◌≢◌, ◌≤◌, ◌⊎◌}
pub use Rattle.asg_model.specs.Counts.{active_count, capacity_at, placed, placed_by}
pub use Rattle.asg_model.specs.HallSet.{IsHall, is_counted_id}
pub use Rattle.asg_model.specs.Instances.{IsInstance}
pub use Rattle.asg_model.specs.Live.{is_active, live_at}
pub use Rattle.asg_model.specs.Problem.{Problem}
pub use Rattle.asg_model.specs.Refused.{PassesNegative}
pub use Rattle.asg_model.specs.Shapes.{square_side}
pub use Rattle.asg_model.specs.Sums.{count_below, one}
pub use Rattle.asg_model.specs.ValidChoice.{Chooses, IsValid, takes}
pub use Rattle.asg_model.specs.declared.bands.Band.TheVariants.{Whole}
pub use Rattle.asg_model.specs.declared.objectives.Objective.{Objective}
pub use Rattle.asg_model.specs.declared.parts.Cost.{Cost}
pub use Rattle.asg_monoids.specs.BoundedSums.{bounded_difference, bounded_sums, plain_word}
pub use Rattle.asg_order.specs.Bridge.{Bridges, KeepsOrder, choice_fold}
pub use Rattle.asg_order.specs.Entering.{MayEnter}
pub use Rattle.asg_order.specs.Monoid.{IsLe, IsOrderedMonoid, IsValue, Monoid}
pub use Rattle.asg_order.specs.declared.words.Word.{Word}
pub use Rattle.asg_proof.specs.PhaseProofs.{EntersValues, ProvesIndex}
pub use Rattle.asg_proof.specs.Phases.{AreAdmittedPhases, AreAdmittedSteps, PhaseOf, after_phase, entered_at, index_of, phase_of, square_after, staying_at, worded}
pub use Rattle.asg_rankings.specs.Children.{IsRowNumbered, child, is_chosen, is_kept_at, row_number}
pub use Rattle.asg_rankings.specs.NodeLists.{AreNodeParts}
pub use Rattle.asg_rankings.specs.Nodes.{IsNumber, answer_at, answer_number, node_answer, node_at, node_instance, node_trail}
pub use Rattle.asg_rankings.specs.Ranked.{AreListed, IsBetterChoice, IsNextBest, IsRanking}
pub use Rattle.asg_rankings.specs.SearchTrees.{AreAdmittedWords, HasAnswer, HasTrail, IsGiven, IsMarked, IsSearchTree, IsSoundNode, MayStayOpen, child_count, last_answer}
pub use Rattle.asg_rankings.specs.declared.nodes.Mark.{Mark}
pub use Rattle.asg_rankings.specs.declared.nodes.Mark.TheVariants.{Answered, Empty, Open}
pub use Rattle.asg_rankings.specs.declared.nodes.Node.{Node}
pub use Rattle.asg_rankings.specs.laws.NodeInstances.{IsInstance-node, IsValid-from_node, choice_fold-node, instances_are, live-in_node, node_instance-child, node_trail-child, place-of_node, placed-of_node}
pub use Rattle.asg_rankings.specs.laws.Partition.{IsValid-from_child, covered, first_difference, not-in_child, once}
pub use Rattle.asg_square.specs.Cells.{square_cell}
