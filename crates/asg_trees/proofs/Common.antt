-- The names that proofs of this crate cite most, passed on from one place. Declares nothing.
pub use Rattle.asg_model.proofs.Kit.{All, All-get_or, Bool, IfOk, IfOk-weaker, IfSome, IsSome, IsTrue, List, None, Option, Some, [], ap, arith, cases_eq, cases_lt, cond, cond-false, cond-true, count_by, count_by-le-length, count_by_more_no, count_by_more_yes, drop, drop-append-le, drop-append_seam, drop-drop, drop-map, eq-eqb, eqb, false, false≢true, fun_ext, get_or, get_or-map, get_or-map-range_with_len, get_or-set_other, get_or-set_same, get_or_from_slice_get, inl, inr, is_some, le-leb, le-ltb, le-mul_of_pos_right, leb, leb-true, length, length-drop, length-map, length-set, length-take-le, lt-leb, lt-ltb, map, map-append, map_more, min, nat_le, nat_lt, ne_eqb, option_map, option_map_or, refl, rules, same_lists, set, slice_get, slice_get_past, slice_get_within, subst, suc, suc-mul, sym, take, take-append-drop, take-append-le, take-append_seam, take-map, take_all, true, zero, ℕ, ⊎_elim, ◌&&◌, ◌*◌, ◌++◌, ◌+◌, ◌-◌, ◌<◌, ◌^◌, ◌↔◌, ◌∙◌, ◌∷◌, ◌≡◌, ◌≢◌, ◌≤◌, ◌⊎◌}
pub use Rattle.asg_admit.specs.Reduced.{IsReduced, KeepsLabels}
pub use Rattle.asg_admit.specs.declared.reduced.Reduced.{Reduced}
pub use Rattle.asg_bit_rows.specs.BitTable.{BitTable, has_bit}
pub use Rattle.asg_kept_cells.specs.Kept.{ChoosesKept, HasKept, HasSize, IsFront, IsMaskOf, KeepsAll, KeepsOtherRows, kept_cells}
pub use Rattle.asg_kept_cells.specs.MaskedPhases.{AreAdmittedWithin, HaveIndexAfter}
pub use Rattle.asg_kept_cells.specs.laws.KeptSquares.{from_kept, masked_by}
pub use Rattle.asg_model.specs.Counts.{capacity_at, is_counted_by, placed}
pub use Rattle.asg_model.specs.HallSet.{IsHall, is_live_within}
pub use Rattle.asg_model.specs.Instances.{IsInstance}
pub use Rattle.asg_model.specs.Limits.{most_capacity, most_rows}
pub use Rattle.asg_model.specs.Live.{cost_at, is_active, is_open, live_at}
pub use Rattle.asg_model.specs.Problem.{Problem}
pub use Rattle.asg_model.specs.Shapes.{square_side}
pub use Rattle.asg_model.specs.ValidChoice.{Chooses, IsValid}
pub use Rattle.asg_model.specs.declared.bands.Band.TheVariants.{Whole}
pub use Rattle.asg_model.specs.declared.parts.Cost.{Cost}
pub use Rattle.asg_model.specs.laws.Rows.{is_active-from_live, no_column, row-from_active}
pub use Rattle.asg_monoids.specs.BoundedSums.{bounded_difference, bounded_sums, narrow_top, plain_word}
pub use Rattle.asg_monoids.specs.Entered.{cost_reach, is_sum_objective, sum_entered, time_entered}
pub use Rattle.asg_order.specs.Bridge.{choice_fold, costs_fold}
pub use Rattle.asg_order.specs.Monoid.{IsLe, IsOrderedMonoid, IsValue, Monoid}
pub use Rattle.asg_order.specs.Words.{HasWords}
pub use Rattle.asg_order.specs.declared.words.Word.{Word}
pub use Rattle.asg_proof.specs.Phases.{AreAdmittedPhases, IsAdmittedPhase, PhaseOf, after_phase, after_phases, entered_at, index_of, square_after, staying_at, worded}
pub use Rattle.asg_proof.specs.laws.LiveCosts.{lies_within}
pub use Rattle.asg_proof.specs.laws.PhaseLists.{AreAdmittedPhases-append, AreAdmittedPhases-back, AreAdmittedPhases-front, HasSide-phases, after_phases-append, index_is_value, index_of-append, is_some-phases}
pub use Rattle.asg_rankings.specs.Children.{child}
pub use Rattle.asg_rankings.specs.Masks.{keeps_cell, masked}
pub use Rattle.asg_rankings.specs.Nodes.{IsNumber, answer_at, answer_number, instance_within, node_answer, node_at, node_instance, node_trail, trail_within}
pub use Rattle.asg_rankings.specs.SearchTrees.{AreAdmittedWords, HasPlace, HasTrail, IsGiven, IsMarked, IsSearchTree, MayStayOpen, child_count, is_answered, last_answer}
pub use Rattle.asg_rankings.specs.declared.nodes.Mark.{Mark}
pub use Rattle.asg_rankings.specs.declared.nodes.Mark.TheVariants.{Answered, Empty, Open}
pub use Rattle.asg_rankings.specs.declared.nodes.Node.{Node}
pub use Rattle.asg_rankings.specs.laws.NodeInstances.{IsInstance-node, kept-within, place-of_node}
pub use Rattle.asg_replays.specs.Replays.{AreAdmittedFrom, AreReplayed, IsStart}
pub use Rattle.asg_replays.specs.WholeLists.{HaveIndex}
pub use Rattle.asg_replays.specs.laws.PhaseWords.{phases-once}
pub use Rattle.asg_square.specs.Cells.{square_cell}
pub use Rattle.asg_square.specs.Grid.{Grid, HasLabelsOf, cell_at}
pub use Rattle.asg_square.specs.HallColumns.{OutnumberColumns, TellsCells}
pub use Rattle.asg_square.specs.Masked.{masked_grid}
pub use Rattle.asg_square.specs.Presence.{has_cell}
pub use Rattle.asg_trees.specs.ChoiceLists.{AreNumbersOf, choices_in, chosen_by, number_of}
pub use Rattle.asg_trees.specs.Descents.{AreSettledBelow, AreSettledBelowEach, AreSettledBut, IsBelow, IsBelowWithin, LeadsOn}
pub use Rattle.asg_trees.specs.Groups.{AreGroups, AreGroupsAbove, IsNextWith, answer_keys, key_at, linked_first, linked_next, parent_keys}
pub use Rattle.asg_trees.specs.Judged.{AreGiven, IsLacking, TellsRanking, TellsTree, conclusion, conclusion_sound}
pub use Rattle.asg_trees.specs.Marks.{IsBounded, JudgesMark, JudgesOpen, MarkHolds, marked_tree}
pub use Rattle.asg_trees.specs.Tallies.{Falls, HavePlaces, IsFair, IsJudged, IsSettled, IsTallied, IsTalliedBy, IsWholeTally, Judges, TalliesNode, judged_before, with_judgement}
pub use Rattle.asg_trees.specs.Trails.{IsAt, IsTrailSquare, StandsAbove, StandsAt}
pub use Rattle.asg_trees.specs.Trees.{IsLastProduct, IsOpenWrongly, IsReady, IsSound, MayBeOpen, TreeOf, instance_at, tree_by}
pub use Rattle.asg_trees.specs.declared.verdicts.Judgement.{Judgement}
pub use Rattle.asg_trees.specs.declared.verdicts.Judgement.TheVariants.{AtFault, Fine, LeftOpen}
pub use Rattle.asg_trees.specs.declared.verdicts.Tally.{Tally}
pub use Rattle.asg_trees.specs.declared.verdicts.TreeVerdict.{TreeVerdict}
pub use Rattle.asg_trees.specs.declared.verdicts.TreeVerdict.TheVariants.{FaultAt, OpenAt, Tree}
