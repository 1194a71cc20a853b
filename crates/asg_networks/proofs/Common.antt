-- The names that proofs of this crate cite most, passed on from one place. Declares nothing.
pub use Rattle.asg_model.proofs.Kit.{All, All-append, All-cons, All-filter, All-get_or, All-head, All-map, All-nil, All-permutation, All-push, All-tail, All-take, All-weaker, AllPairs, AllPairs-filter, AllPairs-from_IsDistinct, Bool, Contains-permutation, Decides-eqb, Decides-int_eq, Fits-lt-pow, IfOk, IfOk-weaker, IfSome, IfSome_then, IsDistinct, IsDistinct-push, IsNonDecreasingBy, IsNonDecreasingBy-from_sort_by_key, IsSome, IsTrue, List, None, Option, Some, [], and_from, and_parts, ap, append_assoc, arith, bytes_eq, cases_Bool, cases_eq, cases_lt, codes, common_steps, cond, cons_option, contains, digits_value, div-add-mod', div-mul-add, div_below, drop, drop_more, eq-eqb, eqb-true, false, false≢true, filter, filter_map-append, find, find-append, flat_map, fold, fold_push, get_or, get_or-flat_map, get_or-map, get_or-range_with_len, get_or-replicate, get_or-set_other, get_or-set_same, get_or-take, get_or_default, get_or_past, inl, inr, int_eq, is_member-Decides, is_member-filter, is_some, le-leb, leb-true, length, length-append, length-filter_both, length-le_from_is_member, length-map, length-range_with_len, length-replicate, length-set, length-take, length-take-le, lines, list_any, list_any-append, list_any_at, list_any_none, lt-ltb, map, map-append, mod-mul-add, mod_below, nat_cmp, nat_eq, nat_eq_equiv, nat_le, nat_lt, ne_eqb, none-some, not, of_z, option_and_then, option_map, option_or, pos, range_with_len, refl, replicate, rules, same_Some, same_lists, set, slice_get, slice_index, strip_carriage_return, subst, suc, sym, take, take-append-drop, take_all, take_more, to_z, to_z-of_z, true, unsigned_abs, w64, zero, ℕ, ℤ, ⊎_elim, ◌%◌, ◌&&◌, ◌*◌, ◌++◌, ◌+◌, ◌-◌, ◌/◌, ◌<◌, ◌==◌, ◌^◌, ◌||◌, ◌∙◌, ◌∷◌, ◌≡◌, ◌≢◌, ◌≤◌, ◌⊎◌}
pub use Rattle.std.proofs.Common.{IfErr, append-nil, mul-le-mul_right, length-drop}
pub use Rattle.asg_model.specs.Instances.{IsInstance, IsWellFormed}
pub use Rattle.asg_model.specs.Limits.{most_columns, most_cost, most_rows}
pub use Rattle.asg_model.specs.Problem.{Problem, problem_of}
pub use Rattle.asg_model.specs.Table.{IsTable, absent, table_cells}
pub use Rattle.asg_model.specs.ValueRange.{IsPartInRange}
pub use Rattle.asg_networks.specs.AsnArcs.{arc_faults, arc_in, arcs, are_unlike, cost_between, count_faults, differs_from, faults_behind, faults_of_line, goes_right, instance_of, is_among, is_beside, is_node, is_target, line_faults, node_faults, node_in, nodes_of, plain_cost, reading_of_asn, sizes_in, stated, targets, with_id}
pub use Rattle.asg_networks.specs.AsnLines.{IsLineInRange, arc_of, line_of, line_of_fields, node_of, sizes_of}
pub use Rattle.asg_networks.specs.Layouts.{AreNodeIds, HasCell, IsLayout, TellsPlaces, cell_between, with_cost}
pub use Rattle.asg_networks.specs.LinkOrder.{AreByEnds, IsFirstTwice, IsFit, are_unlike_at, is_unlike, link_of, no_link, order_number}
pub use Rattle.asg_networks.specs.Networks.{AreSound, IsNetworkOf, IsRightLink, IsSound, PutsArc, PutsSource, RefusesLine, RefusesOwn, arc_of_link, are_same_ends, first_of, firsts_between, known_cost, reading_of_network, twice_faults}
pub use Rattle.asg_networks.specs.NodeSets.{has}
pub use Rattle.asg_networks.specs.declared.asn_lines.Arc.{Arc}
pub use Rattle.asg_networks.specs.declared.asn_lines.Line.{Line}
pub use Rattle.asg_networks.specs.declared.asn_lines.Line.TheVariants.{Arrow, Empty, Header, Node, Other}
pub use Rattle.asg_networks.specs.declared.asn_lines.Sizes.{Sizes}
pub use Rattle.asg_networks.specs.declared.layouts.Layout.{Layout}
pub use Rattle.asg_networks.specs.declared.links.Link.{Link}
pub use Rattle.asg_networks.specs.declared.network.Network.{Network}
pub use Rattle.asg_networks.specs.declared.node_sets.NodeSet.{NodeSet}
pub use Rattle.asg_tokens.specs.Faults.{ArcCount, ArcTwice, BadArc, BadNode, CostRange, Fault, NoRows, SecondProblemLine, TooLarge, fault_of, fault_where}
pub use Rattle.asg_tokens.specs.Numbers.{integer_in_range, integer_of, size_of}
pub use Rattle.asg_tokens.specs.Pieces.{fields, is_blank, is_space}
pub use Rattle.asg_tokens.specs.Readings.{Refuses, Spells, TellsOf, column_of, reading_with, row_of}
pub use Rattle.asg_tokens.specs.Slots.{IsEarliest, IsSlot, first_part}
pub use Rattle.asg_tokens.specs.declared.refusals.TextRefusal.{TextRefusal}
pub use Rattle.asg_tokens.specs.laws.CellLemmas.{short_fits, some_bytes}
pub use Rattle.asg_tokens.specs.laws.LineCuts.{length-lines, line_at}
pub use Rattle.asg_tokens.specs.laws.TableInstances.{AreDistinct, are_parts, is_table, range_is_distinct, same_cells}
pub use Rattle.std.specs.List.{filter_map}
pub use Rattle.std.specs.List.Sorted.{IsPermutation}
