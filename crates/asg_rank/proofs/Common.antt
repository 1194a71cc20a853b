-- The names that proofs of this crate cite most, passed on from one place. Declares nothing.
pub use Rattle.asg_model.proofs.Kit.{All, All-nil, All-push, All-tail, AllPairs, Bool, Contains, Contains-get_or, IfOk, IfOk-at_ok, IfOk-weaker, IsSome, IsTrue, List, None, Ok, Option, Result, Some, [], and_from, and_parts, ap, append-nil, append_cancel_left, arith, cases_Bool, cases_eq, cases_lt, cond, count_by, count_by-le-length, eq-eqb, eqb, eqb-true, false, false≢true, get_or, get_or-append_seam, get_or-map, get_or-take, get_or_append_left, get_or_at, get_or_default, inl, inr, is_some, le-mul_of_pos_right, length, length-map, length-range_with_len, length-take-le, length_push, map, map-append, min, mul-le-mul_left, mul-le-mul_right, none-some, option_map_or, pow-suc, pow-zero, range_with_len, refl, same_Some, slice_get_past, subst, suc, sum_by-cons, sym, take, true, vec_capacity, vec_len, zero, ℕ, ⊎_elim, ◌&&◌, ◌*◌, ◌++◌, ◌+◌, ◌-◌, ◌<◌, ◌^◌, ◌↔◌, ◌∙◌, ◌∷◌, ◌≡◌, ◌≢◌, ◌≤◌, ◌⊎◌}
pub use Rattle.asg_admit.specs.PhaseValues.{AreOfValues}
pub use Rattle.asg_admit.specs.laws.PhaseValues.{admitted_values, words_over}
pub use Rattle.asg_algebra.specs.declared.solving.Solved.{Solved}
pub use Rattle.asg_branching.specs.Expansions.{IsLeastNew, IsOneMore}
pub use Rattle.asg_branching.specs.Searches.{AreSlots, HasMemory, IsBehind, IsDesk, IsKept, IsRankable, IsReady, IsSearch, given_of, winner_in}
pub use Rattle.asg_branching.specs.declared.searches.Search.{Search}
pub use Rattle.asg_model.specs.Counts.{active_count, placed, placed_by, total_capacity}
pub use Rattle.asg_model.specs.HallSet.{IsHall}
pub use Rattle.asg_model.specs.Instances.{IsInstance, IsPlaceInRange}
pub use Rattle.asg_model.specs.Limits.{most_cost, most_side}
pub use Rattle.asg_model.specs.Problem.{Problem}
pub use Rattle.asg_model.specs.Refused.{PassesNegative}
pub use Rattle.asg_model.specs.Shapes.{side_by, square_side}
pub use Rattle.asg_model.specs.Sums.{one}
pub use Rattle.asg_model.specs.ValidChoice.{IsValid}
pub use Rattle.asg_model.specs.declared.bands.Band.TheVariants.{Whole}
pub use Rattle.asg_model.specs.declared.objectives.Objective.{Objective}
pub use Rattle.asg_model.specs.declared.objectives.Objective.TheVariants.{Bottleneck, BottleneckMax, Capped, Sum, SumMax, SumPair, TimeCost}
pub use Rattle.asg_model.specs.declared.parts.Cost.{Cost}
pub use Rattle.asg_monoids.specs.BoundedSums.{bounded_difference, bounded_sums, narrow_top, plain_word}
pub use Rattle.asg_monoids.specs.Entered.{cost_reach, is_sum_objective, peak_entered, sum_entered, time_entered, top_of}
pub use Rattle.asg_monoids.specs.Grades.{graded, graded_difference, graded_word}
pub use Rattle.asg_monoids.specs.Maxima.{maxima, maxima_difference}
pub use Rattle.asg_nodes.specs.Cuts.{AreBitsFor}
pub use Rattle.asg_nodes.specs.Entries.{IsNext, blank, child_number, entry_at, entry_of, is_open_at}
pub use Rattle.asg_nodes.specs.HallPools.{HallSets, hall_at}
pub use Rattle.asg_nodes.specs.Rules.{GrewOn, IsReducedTo, IsSolved, Leads, Rules, reduced_cell, rules_of}
pub use Rattle.asg_nodes.specs.Slots.{Inserts, Offers, Refuses, Replaces, SlotList, slot_at, slot_of}
pub use Rattle.asg_nodes.specs.Trees.{HasNoPhases, HasRoomFor, HasState, IsNode, IsRoot, IsTree, NamesHall, given_at, hall_in}
pub use Rattle.asg_nodes.specs.declared.entries.Entry.{Entry}
pub use Rattle.asg_nodes.specs.declared.entries.State.{State}
pub use Rattle.asg_nodes.specs.declared.entries.State.TheVariants.{Answered, Empty, Open}
pub use Rattle.asg_nodes.specs.declared.trees.Tree.{Tree}
pub use Rattle.asg_nodes.specs.laws.OpenNodes.{open_here, open_within}
pub use Rattle.asg_nodes.specs.laws.Parts.{AreBefore, part_instance, part_valid, placed_at, room_small}
pub use Rattle.asg_order.specs.Bridge.{Bridges, choice_fold}
pub use Rattle.asg_order.specs.Monoid.{IsLe, IsLess, IsOrderedMonoid, IsValue, Monoid}
pub use Rattle.asg_order.specs.declared.words.Word.{Word}
pub use Rattle.asg_pool.specs.Forest.{Forest, IsForest, last_phase, phases_of, phases_to, trail_at}
pub use Rattle.asg_pool.specs.laws.Trails.{HasParent-live, phases_over}
pub use Rattle.asg_proof.specs.Phases.{AreAdmittedPhases, PhaseOf, after_phases, index_of, phase_of, worded}
pub use Rattle.asg_proof.specs.laws.LiveCosts.{lies_within}
pub use Rattle.asg_rank.specs.Opening.{IsBlank, IsMemory, IsPlantable, IsRootOf, root_in}
pub use Rattle.asg_rank.specs.RankOutcomes.{IsOutcomeIn, IsRankOutcome, IsRankingIn}
pub use Rattle.asg_rank.specs.Rankers.{GivesLeast, IsRanker}
pub use Rattle.asg_rank.specs.Rankings.{AreCountable, Gives, HaveFewPhases, IsExhausted, LeaveLastOpen, Ranking, ranking_work}
pub use Rattle.asg_rank.specs.Rooms.{answer_room, most_work}
pub use Rattle.asg_rank.specs.Written.{AreOwn, AreWrittenNodes, IsStateOf, IsTold, IsWrittenMark, IsWrittenNode, PushesNode}
pub use Rattle.asg_rank.specs.declared.ranker.Next.{Next}
pub use Rattle.asg_rank.specs.declared.ranker.Next.TheVariants.{Answer, Done}
pub use Rattle.asg_rankings.specs.Nodes.{IsNumber, answer_at, answer_number, node_answer, node_at, node_instance, node_trail}
pub use Rattle.asg_rankings.specs.Ranked.{AreListed, IsBetterChoice, IsNextBest}
pub use Rattle.asg_rankings.specs.SearchTrees.{HasAnswer, HasTrail, IsBelowParent, IsGiven, IsMarked, IsSearchTree, IsSoundNode, MayStayOpen, child_count, is_answered, last_answer}
pub use Rattle.asg_rankings.specs.declared.nodes.Node.{Node}
pub use Rattle.asg_roots.specs.Roots.{IsInstanceRoot, IsSolvedRoot}
pub use Rattle.asg_roots.specs.laws.InstanceRoots.{enters_values, instance_side}
pub use Rattle.asg_square.specs.Cells.{IsPresent, IsSquareChoice, square_cell}
pub use Rattle.std.proofs.lemmas.List.{length-append}
