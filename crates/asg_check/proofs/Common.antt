-- The names that proofs of this crate cite most, passed on from one place. Declares nothing.
pub use Rattle.asg_model.proofs.Kit.{All, All-append, All-cons, All-contains, All-get_or, All-head, All-nil, All-permutation, All-tail, AllPairs, BTreeSet, Bool, Bool-discrete, Bor, Contains-get_or, FitsSigned, IfOk, IfOk-weaker, IfSome, IsEmpty, IsPermutation, IsPermutation-sym, IsSome, IsSorted, IsSortedByKey, IsTrue, List, List-discrete, MatchOption, None, Option, Some, Updates, [], and, ap, append-nil, append_assoc, arith, by_lt_z, cases_lt, common_steps, cond, cons_option, contains, dec→stable, drop, drop_more, drop_of_length-le, eq-eqb, eqb, eqb-true, false, false_from_ne_true, false≢true, filter_map, flat_map, flat_map_more, get_or, get_or-map, get_or-range_with_len, get_or_default, get_or_from_slice_get, get_or_read, inl, inr, int_cmp, int_cmp_total, int_le, ints, is_at, is_eq, is_lt, leb-true, length, length-map, length-range_with_len, length-set, list_any, list_any-IsPermutation, list_any_at, list_any_none, lt-ltb, ltb, map, map-append, nat_cmp, nat_cmp_is, nat_le, ne_eqb, negsuc, nil_from_length, none-some, not_from_Decides, of_iff, option_and_then, option_map, option_map_or, option_to_list, ordering_then, pos, position-Some, position_or_len_is, range_with_len, ranks_by, refl, rules, same_Some, set, slice_cmp, slice_get, slice_get-get_or, slice_get_past, slice_get_within, sorted_far, subst, suc, sym, take, take_all, take_more, take_more_set, to_z-of_z, true, unsigned_abs, w128, zero, zero-add, zip, ×_discrete, ℕ, ℕ_discrete, ℤ, ℤ_discrete, ⊎_elim, ◌&&◌, ◌++◌, ◌+ℤ◌, ◌+◌, ◌-ℤ◌, ◌-◌, ◌<ℤ◌, ◌<◌, ◌==◌, ◌||◌, ◌↔◌, ◌∙◌, ◌∷◌, ◌≡◌, ◌≢◌, ◌≤ℤ◌, ◌≤◌, ◌⊎◌}
pub use Rattle.asg_check.specs.DocumentForm.{MayBeAsked, answers_form, has_form, is_answer_count, is_command_of, takes_claim}
pub use Rattle.asg_check.specs.RankingReasons.{AreBadNodesAt, IsAmissAt, IsNoChoiceAt, IsOutOfOrderAt, IsRepeatedAt, IsWrongValueAt, LeaveBetterAt, NodesStand}
pub use Rattle.asg_check.specs.Reasons.{HasBadLevel, HasBadNode, HasBadPhase, HasHallSet, HasOtherIndex, HasOtherValue, IsFirstReason, LacksChoice, LacksHallSet, LeavesBetter, LeavesGap, LeavesOrder, Repeats, Stands, StandsAgainst}
pub use Rattle.asg_check.specs.Spans.{AreCostsUp, AreSpansUp, AreWindowsUp, IsFirstOutside, in_span, in_spans, live_part, live_parts, row_parts, span_of}
pub use Rattle.asg_check.specs.WindowReasons.{IsLeastGap, IsNoHallAt, LeaveGapAt, StandsOn}
pub use Rattle.asg_check.specs.Written.{AreWrittenAs, HasItsValue, HasWrongValue, IsWrittenAs, SpellChoice, SpellNone, cells_left, column_given, read_cells}
pub use Rattle.asg_check.specs.declared.document_forms.Form.{Form}
pub use Rattle.asg_check.specs.declared.window_gaps.Span.{Span}
pub use Rattle.asg_doc.specs.ChosenCells.{cell_by_id, cells_by_id, column_id}
pub use Rattle.asg_doc.specs.declared.documents.Answer.{Answer}
pub use Rattle.asg_doc.specs.declared.documents.Claim.TheVariants.{Best, Nothing, Ranked}
pub use Rattle.asg_verdicts.specs.LevelReasons.{AreBadLevelsAt, LevelsStand}
pub use Rattle.asg_model.specs.Better.{IsBetter, IsBetterNumber, IsLessList}
pub use Rattle.asg_model.specs.DifferentCosts.{IsLiveCost}
pub use Rattle.asg_model.specs.HallSet.{IsHall, column_place_of}
pub use Rattle.asg_model.specs.Instances.{IsInstance, by_places}
pub use Rattle.asg_model.specs.Live.{cost_at, is_active, is_open, live_at}
pub use Rattle.asg_model.specs.Objectives.{is_algebraic}
pub use Rattle.asg_model.specs.Problem.{Problem}
pub use Rattle.asg_model.specs.ValidChoice.{Chooses, IsValid}
pub use Rattle.asg_model.specs.Values.{choice_value}
pub use Rattle.asg_model.specs.declared.bands.Band.{Band}
pub use Rattle.asg_model.specs.declared.bands.Band.TheVariants.{Between, Over, Under, Whole}
pub use Rattle.asg_model.specs.declared.objectives.Objective.{Objective}
pub use Rattle.asg_model.specs.declared.objectives.Objective.TheVariants.{Balanced, Bottleneck, BottleneckMax, Capped, Lex, Sum, SumMax, SumPair, TimeCost}
pub use Rattle.asg_model.specs.declared.objectives.Value.{Value}
pub use Rattle.asg_model.specs.declared.objectives.Value.TheVariants.{Many, One, Two}
pub use Rattle.asg_model.specs.declared.parts.Cost.{Cost}
pub use Rattle.asg_model.specs.laws.Tests.{dec_below, less_is}
pub use Rattle.asg_monoids.specs.Entered.{cost_reach, top_of}
pub use Rattle.asg_monoids.specs.ObjectiveMonoids.{Fact, InMonoidOf}
pub use Rattle.asg_order.specs.Monoid.{IsLe, Monoid}
pub use Rattle.asg_order.specs.declared.words.Word.{Word}
pub use Rattle.asg_verdicts.specs.Replays.{StandsFor}
pub use Rattle.asg_verdicts.specs.laws.ByObjective.{AreSpelled, admitted_for, both, dec_admitted_for, dec_admitted_over, dec_by, dec_other_for, mapped, none_admitted, nothing, one_index_for, peaks_spelled, proves_for, sums_spelled, take_for, times_spelled}
pub use Rattle.asg_proof.specs.Phases.{PhaseOf, index_of}
pub use Rattle.asg_proof.specs.Proves.{Proves, is_spread_objective, takes}
pub use Rattle.asg_proof.specs.Windows.{IsHallWindow, ProvesWindows, holds_from, is_held}
pub use Rattle.asg_proof.specs.declared.outcomes.Proof.TheVariants.{Below, Levels, Phases, Windows}
pub use Rattle.asg_proof.specs.declared.windows.Window.{Window}
pub use Rattle.asg_rankings.specs.Nodes.{IsNumber, answer_at, answer_number, node_at, node_instance, node_trail}
pub use Rattle.asg_rankings.specs.SearchTrees.{AreAdmittedWords, HasAnswer, HasPlace, HasTrail, IsBelowParent, IsGiven, IsMarked, IsSearchTree, IsSoundNode, MayStayOpen, child_count, is_answered, last_answer}
pub use Rattle.asg_rankings.specs.TreeFaults.{IsAtFault, IsLeftOpen, LacksNode}
pub use Rattle.asg_rankings.specs.declared.nodes.Node.{Node}
pub use Rattle.asg_verdicts.specs.Spots.{At, AtParts, ForWhole, IsFirstPart, IsNoLater, Overall, Spot}
pub use Rattle.asg_verdicts.specs.Verdicts.{IsToldOf, Tells, claim_reasons, level_reasons, node_reasons, order_reasons, phase_reasons, proof_reasons, reasons_in_order, window_reasons}
pub use Rattle.asg_verdicts.specs.declared.verdicts.Reason.TheVariants.{BadLevel, BadNode, BadPhase, BetterLeft, IndexDiffers, NotHall, NotValid, OtherObjective, OutOfOrder, Repeated, WindowGap, WrongForm, WrongValue}
pub use Rattle.asg_verdicts.specs.declared.verdicts.Verdict.{Verdict}
pub use Rattle.asg_verdicts.specs.declared.verdicts.Verdict.TheVariants.{No, Yes}
pub use Rattle.asg_verdicts.specs.laws.Parts.{dec_implies, dec_le, dec_some_below, dec_there, first_told, goes_on, no_part, none_at_all, none_at_part, none_more, none_there, stops_at, tested_for, tested_part, tested_parts, told_for, whole_told}
pub use Rattle.asg_verdicts.specs.laws.ToldReasons.{NoneOf, Nowhere, Tested, least_below, none_stands, nowhere, one_verdict, overall, some_verdict, tested, told_same, yes_told}
pub use Rattle.std.specs.Int.{w64}
pub use mathlib.Core.Logic.Dec.{not}
