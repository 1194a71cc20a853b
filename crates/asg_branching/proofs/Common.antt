-- The names that proofs of this crate cite most, passed on from one place. Declares nothing.
pub use Rattle.asg_model.proofs.Kit.{All, All-map, All-set, All-take, Bool, Contains, Contains-get_or, IfSome, IsSome, IsTrue, List, None, Option, Some, [], all_pairs_push, ap, arith, cases_eq, cases_lt, cond, cond-false, cond-true, eq-eqb, false, false≢true, get_or, get_or-append_seam, get_or-map-range_with_len, get_or-set_same, get_or-take, get_or_append_left, get_or_default, get_or_from_slice_get, inl, inr, is_some, le-leb, le-ltb, leb-true, length, length-map-range_with_len, length-set, length-take-le, lt-leb, lt-ltb, map, max, mul-le-mul_right, nat_le, nat_lt, ne_eqb, not, option_and_then, refl, set, slice_get, slice_index, slice_index_or, slice_set, subst, sym, take, take-set, take_more, true, vec_capacity, vec_len, with_item, with_items, with_items_is, ℕ, ⊎_elim, ◌*◌, ◌++◌, ◌+◌, ◌-◌, ◌<◌, ◌^◌, ◌↔◌, ◌∙◌, ◌∷◌, ◌≡◌, ◌≢◌, ◌≤◌, ◌⊎◌}
pub use Rattle.asg_admit.specs.declared.reduced.Reduced.{Reduced}
pub use Rattle.asg_algebra.specs.Branches.{Branches, IsAtLimit, IsBranch, IsLed, IsLeft}
pub use Rattle.asg_algebra.specs.Stages.{Stage, stage_of}
pub use Rattle.asg_bit_rows.specs.BitTable.{BitTable, has_bit}
pub use Rattle.asg_branching.specs.Chosen.{IsChosenBy}
pub use Rattle.asg_branching.specs.Expansions.{IsExpanding, IsGrowing, IsLastBehind, IsLeastNew, IsOneMore, fixed_for, kept_for, last_winner}
pub use Rattle.asg_branching.specs.Searches.{AreSlots, HasMemory, IsAnswer, IsBase, IsBehind, IsDesk, IsKept, IsReady, IsSearch, IsSlot, given_of, winner_in}
pub use Rattle.asg_branching.specs.declared.desks.Desk.{Desk}
pub use Rattle.asg_branching.specs.declared.searches.Search.{Search}
pub use Rattle.asg_branching.specs.laws.SlotSteps.{AreLive, slots_offered, slots_stay}
pub use Rattle.asg_growth.specs.Growing.{IsAbsorbed}
pub use Rattle.asg_growth.specs.Rest.{IsRestOf}
pub use Rattle.asg_kept.specs.Masked.{masked_reduced}
pub use Rattle.asg_match.specs.HallSets.{GivesHallSets}
pub use Rattle.asg_match.specs.Matching.{IsMatched, IsPerfect, Matches, column_at}
pub use Rattle.asg_match.specs.laws.Matchings.{Matches-below, Matches-same, Matches-set_other, Some-from_test}
pub use Rattle.asg_model.specs.Counts.{active_count, placed, placed_by, total_capacity}
pub use Rattle.asg_model.specs.HallSet.{IsHall}
pub use Rattle.asg_model.specs.Instances.{IsInstance}
pub use Rattle.asg_model.specs.Live.{is_active, live_at}
pub use Rattle.asg_model.specs.Problem.{Problem, problem_of}
pub use Rattle.asg_model.specs.Shapes.{side_by, square_side}
pub use Rattle.asg_model.specs.Sums.{count_below}
pub use Rattle.asg_model.specs.ValidChoice.{IsValid, takes}
pub use Rattle.asg_model.specs.Values.{costs_of}
pub use Rattle.asg_model.specs.declared.bands.Band.TheVariants.{Whole}
pub use Rattle.asg_model.specs.declared.parts.Cost.{Cost}
pub use Rattle.asg_model.specs.laws.Rows.{counted_total, row-from_active}
pub use Rattle.asg_nodes.specs.Cuts.{AreBitsFor, PutsRow, fixes_cell, keeps_copies}
pub use Rattle.asg_nodes.specs.Entries.{IsNext, child_number, entry_at, entry_of, is_open_at, is_open_state, with_state}
pub use Rattle.asg_nodes.specs.HallPools.{HallSets, hall_at}
pub use Rattle.asg_nodes.specs.Rules.{IsReducedTo, IsSolved, KeepsTrails, Leads, Rules, reduced_cell, rules_of}
pub use Rattle.asg_nodes.specs.Settled.{IsRebuilt, IsStanding}
pub use Rattle.asg_nodes.specs.Slots.{AreUpTo, HaveValues, Inserts, IsLimit, Offers, Refuses, Replaces, SlotList, slot_at, slot_of}
pub use Rattle.asg_nodes.specs.Trees.{AreParts, HasNoPhases, HasState, IsChildOf, IsNode, IsRoot, IsTree, IsWinner, given_at}
pub use Rattle.asg_nodes.specs.declared.entries.Entry.{Entry}
pub use Rattle.asg_nodes.specs.declared.entries.State.{State}
pub use Rattle.asg_nodes.specs.declared.entries.State.TheVariants.{Answered, Empty, Open}
pub use Rattle.asg_nodes.specs.declared.slots.Slot.{Slot}
pub use Rattle.asg_nodes.specs.declared.trees.Tree.{Tree}
pub use Rattle.asg_nodes.specs.laws.BitSteps.{active_labelled, bits_fixed, bits_lost, fixes_first, keeps_by, label_is, labelled_active, other_number}
pub use Rattle.asg_nodes.specs.laws.ChildSteps.{IsNextChild, KeepsHalls, more_children}
pub use Rattle.asg_nodes.specs.laws.ChoiceSteps.{assigned, fold_is}
pub use Rattle.asg_nodes.specs.laws.EntryLists.{add_one_times, count_more, count_same, entry_before, entry_changed, entry_kept, entry_last, entry_other}
pub use Rattle.asg_nodes.specs.laws.OpenNodes.{is_open_inside, is_open_outside, open_from, open_here, open_within}
pub use Rattle.asg_nodes.specs.laws.Parts.{AreBefore, part_columns, part_count, part_fold, part_instance, part_keeps, part_live, part_place, part_rows, room_small}
pub use Rattle.asg_nodes.specs.laws.Shapes.{labels_from_part, same_keeps, same_side}
pub use Rattle.asg_nodes.specs.laws.SlotLists.{inserted, last_greatest}
pub use Rattle.asg_nodes.specs.laws.Trails.{Pushes, phases_same, pushes}
pub use Rattle.asg_order.specs.Bridge.{choice_fold, costs_fold}
pub use Rattle.asg_order.specs.Monoid.{IsLe, IsOrderedMonoid, IsValue, Monoid, fold_of}
pub use Rattle.asg_order.specs.laws.Orders.{le_product, reflexive}
pub use Rattle.asg_order.specs.laws.Products.{fold_is_value, neutral_right}
pub use Rattle.asg_pool.specs.Forest.{Forest, IsLive, phases_to, trail_at}
pub use Rattle.asg_proof.specs.PhaseProofs.{EntersValues, IsRaised, ProvesIndex}
pub use Rattle.asg_proof.specs.Phases.{AreAdmittedPhases, IsAdmittedPhase, PhaseOf, after_phase, after_phases, index_of, phase_of}
pub use Rattle.asg_proof.specs.Steps.{HasSide, HasValues, assignment_fold}
pub use Rattle.asg_proof.specs.laws.PhaseLists.{AreAdmittedPhases-append, HasSide-phases, after_phases-append, index_is_value, index_of-append, is_some-phases, steps_value}
pub use Rattle.asg_rankings.specs.Children.{child, is_chosen, is_kept_at, row_number}
pub use Rattle.asg_rankings.specs.Frontiers.{IsLeastPart, Splits}
pub use Rattle.asg_rankings.specs.Masks.{keeps_cell, keeps_labelled, masked}
pub use Rattle.asg_rankings.specs.laws.FrontierSteps.{frontier_after, least_best, least_new, least_valid}
pub use Rattle.asg_rankings.specs.laws.MaskedSquares.{after_phases-child, square_cell-child}
pub use Rattle.asg_square.specs.Cells.{IsAssignment, IsPresent, IsSquareChoice, assignment_values, choice_of, square_cell}
pub use Rattle.asg_square.specs.Grid.{Grid, HasLabelsOf, IsPerm, IsWithinSquareOf, cell_at, grid_choice, grid_chosen}
pub use Rattle.asg_square.specs.Labels.{column_label, row_label}
pub use Rattle.asg_square.specs.Masked.{keeps, masked_grid}
pub use Rattle.asg_square.specs.Presence.{has_cell}
pub use Rattle.asg_square.specs.laws.Masks.{cell_at-masked, kept_some, some_kept}
pub use Rattle.std.proofs.lemmas.List.{length-append}
