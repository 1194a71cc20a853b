-- The names that proofs of this crate cite most, passed on from one place. Declares nothing.
pub use Rattle.asg_model.proofs.Kit.{All, All-cons, All-contains, All-filter, All-head, All-map, All-nil, All-tail, AllPairs, AllPairs-filter, Bool, Contains, Decides-eqb, Decides-int_eq, FitsSigned, IfSome, IsDistinct-from_AllPairs, IsSome, IsTrue, List, None, Option, Some, [], ap, append-nil, arith, cases_lt, codes, cond, count_by, count_by-le-length, decimal, eqb-true, false, false_from_ne_true, filter, filter_passes, flat_map, flat_map-map, get_or, get_or-map, get_or_default, inl, inr, int_eq_equiv, int_lt, ints, is_member-Decides, is_some, length, length-append, length-decimal-le_wide, length-filter, length-flat_map, length-le_from_is_member, length-map, ltb-false, map, nat_eq_equiv, nat_lt, negsuc, option_and_then, option_map, option_map_or, pos, position-Some, range_with_len, refl, signed_decimal, slice_get, subst, suc, sum_by, sum_by-cons, sum_by-le, sym, true, w128, zero, ℕ, ℤ, ⊎_elim, ◌&&◌, ◌*◌, ◌++◌, ◌+◌, ◌<◌, ◌==◌, ◌^◌, ◌∙◌, ◌∷◌, ◌≡◌, ◌≢◌, ◌≤◌, ◌⊎◌}
pub use Rattle.asg_answers.specs.Laws.{length-cells_by_id-le}
pub use Rattle.asg_answers.specs.SolverLimits.{SolverRefuses, SolverTakes, limit_number}
pub use Rattle.asg_answers.specs.Statuses.{HasOneText, HasRead, IsAnswer}
pub use Rattle.asg_answers.specs.Tellings.{TellsBest, TellsNone, TellsRanking, TellsScript}
pub use Rattle.asg_answers.specs.Texts.{no_text, refused_document_text, refused_instance_text, refused_script_text, usage_text, yes_text}
pub use Rattle.asg_answers.specs.WrittenDocument.{IsBestDocument, IsNoneDocument, IsPromisedClaim, IsPromisedProof, IsWritten}
pub use Rattle.asg_answers.specs.declared.status.Status.{Status}
pub use Rattle.asg_answers.specs.declared.status.Status.TheVariants.{Done, Instance, No, Nothing, Script, TooLong, Usage}
pub use Rattle.asg_brief.specs.BriefLines.{AreBriefLines, IsBestLine, IsBriefLine, IsNoneLine, IsRankedLine}
pub use Rattle.asg_check.specs.Certifies.{Certifies, CertifiesClaim}
pub use Rattle.asg_check.specs.TrueClaim.{ClaimsTruly, IsTrueClaim}
pub use Rattle.asg_check.specs.declared.document_forms.Form.{Form}
pub use Rattle.asg_doc.specs.HasText.{AreRows, HasAnswerText, HasClaimText, HasColumnText, HasLevelText, HasPhaseText, HasText, HaveLevelText, IsWrittenValue}
pub use Rattle.asg_doc_reader.specs.RefusedLine.{AllHaveText, IsRefusedLine}
pub use Rattle.asg_doc.specs.Text.{cell_line, column_text, ended, level_lines, perm_line, phase_lines, spaced, spaced_columns, spaced_costs, spaced_steps, step_text, text_of, texts_of, value_line}
pub use Rattle.asg_doc.specs.Words.{HasWord, command_word, form_of}
pub use Rattle.asg_doc.specs.declared.documents.Answer.{Answer}
pub use Rattle.asg_doc.specs.declared.documents.Claim.TheVariants.{Best}
pub use Rattle.asg_doc.specs.declared.documents.Command.{Command}
pub use Rattle.asg_doc.specs.declared.documents.Document.{Document}
pub use Rattle.asg_model.specs.Counts.{is_counted, total_capacity}
pub use Rattle.asg_model.specs.Instances.{IsInstance, IsPlaceInRange}
pub use Rattle.asg_model.specs.Limits.{longest_file, most_capacity, most_side}
pub use Rattle.asg_model.specs.Objectives.{IsBottleneck, objective_word}
pub use Rattle.asg_model.specs.Problem.{Problem}
pub use Rattle.asg_model.specs.Refused.{IsFirstRefused, PassesNegative, is_refused, is_refused_at}
pub use Rattle.asg_model.specs.Shapes.{is_range_of, shaped, square_side}
pub use Rattle.asg_model.specs.ValidChoice.{IsValid}
pub use Rattle.asg_model.specs.Values.{choice_value, costs_of, first_parts}
pub use Rattle.asg_model.specs.declared.objectives.Objective.{Objective}
pub use Rattle.asg_model.specs.declared.objectives.Objective.TheVariants.{Balanced, Bottleneck, BottleneckMax, Capped, Lex, Sum, SumMax, SumPair, TimeCost}
pub use Rattle.asg_model.specs.declared.objectives.Value.{Value}
pub use Rattle.asg_model.specs.declared.objectives.Value.TheVariants.{Many, One, Two}
pub use Rattle.asg_promises.specs.Due.{Due, DueForAsked, DueForJob, DueForTask, Held, IsShort, Long, Refused}
pub use Rattle.asg_promises.specs.DueToCheck.{DueToCheck, Miscounted, NotRead, Read, form_asked}
pub use Rattle.asg_promises.specs.DueToEdit.{DueToEdit, Followed}
pub use Rattle.asg_promises.specs.DueToJudge.{DueToJudge, IsDeniedBehind}
pub use Rattle.asg_promises.specs.DueToRank.{DueToRank, Ranked, TooMuch, Unrankable}
pub use Rattle.asg_promises.specs.DueToSolve.{DueToSolve, Solved, TooLarge, Unsolvable}
pub use Rattle.asg_promises.specs.InstanceFile.{Holds, InstanceFile, Refuses, fitted, held_by, instance_in, passed, passed_by, rows_asked, sided}
pub use Rattle.asg_promises.specs.Promised.{AreCertified, AreJudged, AreNotSoMany, AreTrue, AskAlike, HasShortProofs, IsBriefScript, IsCertified, IsDenied, IsEdited, IsNeverLong, IsNotOne, IsRanked, IsRefusedInstance, IsSolved, IsToldOf, IsToldOfScript, IsTooLargeToSolve, IsTooMuchToRank, IsUnread, IsUnsolvable, IsVerdict}
pub use Rattle.asg_promises.specs.RefusedCosts.{first_refused, ids_at, refused_column, refused_row}
pub use Rattle.asg_promises.specs.Requests.{AsksFor, asked_of, files_of}
pub use Rattle.asg_promises.specs.ScriptStage.{DueForScript}
pub use Rattle.asg_promises.specs.Sources.{AreShort, MayHold, MayHoldAll, content_at}
pub use Rattle.asg_proof.specs.declared.outcomes.Proof.{Proof}
pub use Rattle.asg_proof.specs.declared.outcomes.Proof.TheVariants.{Below, Levels, Phases, Windows}
pub use Rattle.asg_rank.specs.Rankings.{ranking_work}
pub use Rattle.asg_words.specs.FoundRequests.{files_of_task}
pub use Rattle.asg_words.specs.declared.requests.Job.{Job}
pub use Rattle.asg_words.specs.declared.requests.Request.{Request}
pub use Rattle.asg_words.specs.declared.requests.Request.TheVariants.{Make, Work}
pub use Rattle.asg_words.specs.declared.requests.Task.{Task}
pub use Rattle.asg_words.specs.declared.requests.Task.TheVariants.{Check, Edit, Rank, Solve}
pub use Rattle.asg_text.specs.TriedScripts.{HoldsLines, RefusesLines, ScriptFile, script_in, solved_instances}
pub use Rattle.asg_text.specs.Texts.{reading_of}
pub use Rattle.asg_text.specs.declared.script_lines.Line.{Line}
