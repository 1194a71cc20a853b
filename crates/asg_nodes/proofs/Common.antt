-- The names that proofs of this crate cite most, passed on from one place. Declares nothing.
pub use Rattle.asg_model.proofs.Kit.{All, All-get_or, All-head, All-push, All-tail, Bool, Fits-lt-pow, IfSome, IsSome, List, None, Option, Some, [], and_from, and_parts, ap, arith, bit_and, bit_at, bit_at-zero, cases_eq, cases_lt, cond, drop, drop-append-le, drop-append_seam, eq-eqb, eqb, eqb-true, false, false_from_ne_true, false≢true, get_or, get_or-drop, get_or-take, get_or_default, get_or_from_slice_get, inl, inr, is_some, le-leb, le-ltb, length, length-drop, length-map, length-take-le, lt-leb, lt-ltb, ltb-false, ltb-true, map-append, mul-le-mul_right, nat_le, nat_lt, ne_eqb, none-some, not, option_and_then, option_map_or, or_cases, or_left, or_right, refl, rules, same_Some, slice_get, slice_get-get_or, slice_get_past, slice_index_or, slice_set, subst, sum_by, sum_by-take-le, sum_by_more, sym, take, take-append-le, take-take, take_all, take_more, trailing_zeros, true, unwrap_or, vec_capacity, w64, ℕ, ⊎_elim, ◌%◌, ◌&&◌, ◌*◌, ◌++◌, ◌+◌, ◌-◌, ◌/◌, ◌<◌, ◌||◌, ◌↔◌, ◌∙◌, ◌∷◌, ◌≡◌, ◌≢◌, ◌≤◌}
pub use Rattle.asg_admit.specs.declared.reduced.Reduced.{Reduced}
pub use Rattle.asg_admit.specs.laws.KeptLabels.{HasLabelsOf-kept, chained_labels, same_labels}
pub use Rattle.asg_bit_rows.specs.BitTable.{AreWordsOf, BitTable, PutsColumns, PutsOnly, has_bit, is_bit_set, is_from_to, word_count}
pub use Rattle.asg_bit_rows.specs.WordBits.{HasBit}
pub use Rattle.asg_bit_rows.specs.laws.Bits.{HasBit-trailing_zeros, HasBit-without, HasBit-without_other, bit_below, without_bit, without_bit-lt}
pub use Rattle.asg_bit_rows.specs.laws.Words.{bit_in_row, bit_of, in_run, is_and, is_without, of_bit, out_of_run, run_parts, same_bool}
pub use Rattle.asg_model.specs.Counts.{capacity_at, placed, total_capacity}
pub use Rattle.asg_model.specs.Live.{is_active}
pub use Rattle.asg_model.specs.Problem.{Problem}
pub use Rattle.asg_model.specs.Shapes.{square_side}
pub use Rattle.asg_model.specs.Sums.{count_below}
pub use Rattle.asg_model.specs.ValidChoice.{takes}
pub use Rattle.asg_nodes.specs.Copies.{IsRunOf, is_before, is_copy_of}
pub use Rattle.asg_nodes.specs.Cuts.{LosesCells, PutsRow, cuts_between, cuts_cell, cuts_numbered, cuts_row, cuts_word, keeps_copies, label_in}
pub use Rattle.asg_nodes.specs.Entries.{IsNext, entry_at}
pub use Rattle.asg_nodes.specs.HallPools.{HallSets, IsPool, piece, pieces}
pub use Rattle.asg_nodes.specs.Rules.{GrewOn, IsReducedTo, Leads, Rules, reduced_cell, rules_of}
pub use Rattle.asg_nodes.specs.Settled.{IsOwn, IsStanding, SettlesBy, SettlesOwn, answer_in}
pub use Rattle.asg_nodes.specs.Slots.{AreUpTo, Ascends, HaveValues, Inserts, Refuses, Replaces, SlotList, slot_at, slot_of}
pub use Rattle.asg_nodes.specs.Trees.{IsChildOf, IsTree, IsWinner, NamesHall, given_at}
pub use Rattle.asg_nodes.specs.declared.copies.Run.{Run}
pub use Rattle.asg_nodes.specs.declared.entries.Entry.{Entry}
pub use Rattle.asg_nodes.specs.declared.slots.Slot.{Slot}
pub use Rattle.asg_nodes.specs.declared.trees.Tree.{Tree}
pub use Rattle.asg_nodes.specs.laws.BitSteps.{active_labelled, count_more, label_is, labelled_active}
pub use Rattle.asg_nodes.specs.laws.SlotLists.{last_greatest}
pub use Rattle.asg_order.specs.Monoid.{IsLe, IsLess, IsOrderedMonoid, IsValue, Monoid, fold_of}
pub use Rattle.asg_pool.specs.Forest.{Branch, Forest, IsForest, IsGrown, last_phase, phases_of, phases_to, trail_at}
pub use Rattle.asg_proof.specs.Phases.{AreAdmittedPhases, IsAdmittedPhase, PhaseOf, after_phase, after_phases, entered_at, index_of, square_after, staying_at}
pub use Rattle.asg_rankings.specs.Children.{child, is_chosen, is_kept_at, row_number}
pub use Rattle.asg_rankings.specs.Masks.{keeps_cell, keeps_labelled, masked}
pub use Rattle.asg_rankings.specs.Nodes.{answer_at}
pub use Rattle.asg_rankings.specs.laws.MaskedSquares.{after_phases-child, square_after-masked, square_cell-child}
pub use Rattle.asg_square.specs.Cells.{square_cell}
pub use Rattle.asg_square.specs.Grid.{Grid, HasLabelsOf, IsGrid, cell_at}
pub use Rattle.asg_square.specs.Labels.{column_label, copies, first_copy, row_label}
