-- The names that proofs of this crate cite most, passed on from one place. Declares nothing.
pub use Rattle.asg_model.proofs.Kit.{All, All-cons, All-drop, All-map, All-nil, All-push, Bool, Err, FitsSigned, IfErr, IfErr-weaker, IfOk, IfOk-weaker, IfSome, IsTrue, List, None, Ok, OnOk, Option, Result, Some, [], add-one, and_from, and_parts, ap, append-nil, append_assoc, arith, both_ways, cases_Bool, common_steps, cond, cons_option, count_by, count_by-le-length, drop, drop-append_seam, eq-eqb, false, false≢true, filter_map, fits_signed_from_abs, get_or, get_or_default, if◌then◌else◌, inl, inr, int_lt, ints, is_some, le-leb, leb-true, length, length-map, ltb-true, map, map-append, nat_le, nat_lt, on_err_weaker, on_ok_weaker, option_and_then, option_map, option_to_list, pos, refl, slice_get, string_bytes, subst, suc, sum_by, sum_by-cons, sym, take, take-append-drop, take_all, take_more, to_z-of_z, true, unsigned_abs, w128, zero, zip, ℕ, ℤ, ◌&&◌, ◌*◌, ◌++◌, ◌+◌, ◌-◌, ◌<◌, ◌==◌, ◌^◌, ◌∙◌, ◌∷◌, ◌≡◌, ◌≤ℤ◌, ◌≤◌}
pub use Rattle.asg_admit.specs.laws.PhaseValues.{admitted_values}
pub use Rattle.asg_answers.specs.DocumentParts.{AreAnswersOf, KeepsRanges, cell_at}
pub use Rattle.asg_answers.specs.Replies.{bytes_of}
pub use Rattle.asg_answers.specs.Standings.{AreSure, ClaimsBy, GoesOnTo, IsEditDocument, IsFollowed, IsTold, KeepsStanding, Stands}
pub use Rattle.asg_answers.specs.Tellings.{TellsBest, TellsEdits, TellsNone, TellsScript}
pub use Rattle.asg_answers.specs.WrittenDocument.{IsBestDocument, IsNoneDocument, IsPromisedProof, IsRankedDocument, IsWritten}
pub use Rattle.asg_answers.specs.WrittenLines.{HaltsIn, WritesAll, WritesFront, WritesLine}
pub use Rattle.asg_answers.specs.declared.edited.Halt.TheVariants.{NoMemory, WriteFault}
pub use Rattle.asg_brief.specs.BriefLines.{AreBriefLines, IsBriefLine}
pub use Rattle.asg_doc.specs.CellIds.{AreCellIds, IsCellOfIds}
pub use Rattle.asg_doc.specs.ChosenCells.{cell_by_id, cells_by_id}
pub use Rattle.asg_doc.specs.HasText.{AreCells, AreRows, HasAnswerText, HasMarkText, HasNodeText, HasPhaseText, HasProofText, HasStepText, HasTreeText, HasValueText, HaveLevelText, HavePhaseText, HaveWindowText}
pub use Rattle.asg_doc.specs.Text.{spaced, text_of}
pub use Rattle.asg_doc.specs.Words.{HasWord, IsAsked, has_grades}
pub use Rattle.asg_doc.specs.declared.documents.Answer.{Answer}
pub use Rattle.asg_doc.specs.declared.documents.Claim.{Claim}
pub use Rattle.asg_doc.specs.declared.documents.Claim.TheVariants.{Best, Nothing, Ranked}
pub use Rattle.asg_doc.specs.declared.documents.Document.{Document}
pub use Rattle.asg_edits.specs.EditOutcomes.{AreWritable, IsBestAt, IsChoiceAt}
pub use Rattle.asg_edits.specs.Editors.{EditorOf, Edits, GoesTo}
pub use Rattle.asg_io.specs.Laws.{Puts-append, Puts-nil, PutsPrefix-append}
pub use Rattle.asg_io.specs.Shelf.{Rose}
pub use Rattle.asg_io.specs.Sink.{Puts, PutsPrefix}
pub use Rattle.asg_model.specs.Counts.{active_count, placed, placed_by, slack, total_capacity}
pub use Rattle.asg_model.specs.Descending.{descending, with_descending}
pub use Rattle.asg_model.specs.Edits.{edited, refusal_of}
pub use Rattle.asg_model.specs.HallSet.{IsHall, reached_capacity}
pub use Rattle.asg_model.specs.Instances.{IsInstance, IsPlaceInRange}
pub use Rattle.asg_model.specs.Limits.{most_cost, most_rows, most_side}
pub use Rattle.asg_model.specs.Problem.{Problem}
pub use Rattle.asg_model.specs.Refused.{PassesNegative}
pub use Rattle.asg_model.specs.Shapes.{side_by, square_side}
pub use Rattle.asg_model.specs.ValidChoice.{IsValid}
pub use Rattle.asg_model.specs.ValueRange.{IsPartInRange, IsValueInRange}
pub use Rattle.asg_model.specs.Values.{choice_value, costs_of, first_parts}
pub use Rattle.asg_model.specs.declared.bands.Band.TheVariants.{Between, Over, Under, Whole}
pub use Rattle.asg_model.specs.declared.objectives.Objective.{Objective}
pub use Rattle.asg_model.specs.declared.objectives.Objective.TheVariants.{Balanced, Bottleneck, BottleneckMax, Capped, Lex, Sum, SumMax, SumPair, TimeCost}
pub use Rattle.asg_model.specs.declared.objectives.Value.TheVariants.{Many, One, Two}
pub use Rattle.asg_model.specs.declared.parts.Cost.{Cost}
pub use Rattle.asg_model.specs.declared.parts.Place.{Place}
pub use Rattle.asg_model.specs.declared.parts.Row.{Row}
pub use Rattle.asg_order.specs.Monoid.{IsValue, Monoid}
pub use Rattle.asg_order.specs.declared.words.Word.{Word}
pub use Rattle.asg_proof.specs.FoldProofs.{ProvesFold, ProvesPhases}
pub use Rattle.asg_proof.specs.Levels.{AreLevelsFrom, IsLeftAssignment, ProvesLevels, ProvesRanks, left_after, left_last}
pub use Rattle.asg_proof.specs.Phases.{ArePhases, PhaseOf, worded}
pub use Rattle.asg_proof.specs.PromisedProofs.{AreFewLevels, AreFewPhases, IsPhaseOver, IsUnitPhase}
pub use Rattle.asg_proof.specs.RowIds.{AreIds}
pub use Rattle.asg_proof.specs.declared.levels.Level.{Level}
pub use Rattle.asg_proof.specs.declared.outcomes.Proof.TheVariants.{Below, Levels, Phases, Windows}
pub use Rattle.asg_rank.specs.RankOutcomes.{IsProvedRanking}
pub use Rattle.asg_rankings.specs.NodeLists.{AreNodeParts, IsMarkPart, IsNodePart}
pub use Rattle.asg_rankings.specs.declared.nodes.Node.{Node}
pub use Rattle.asg_text.specs.TriedScripts.{after_line, first_refused, line_refusal, solved_instances}
