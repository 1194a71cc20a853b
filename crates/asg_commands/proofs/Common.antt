-- The names that proofs of this crate cite most, passed on from one place. Declares nothing.
pub use Rattle.asg_model.proofs.Kit.{All-map, Err, FitsSigned, IfErr, IfErr-weaker, IfOk, IfOk-weaker, IfSome, IsErr, IsNone, IsSome, IsTrue, List, MatchOption, None, Ok, Option, Result, Some, Vec, [], ap, arith, codes, cond, decimal, drop, drop_all, false, fits_signed_from_abs, get_or, inl, inr, le-leb, length, map, nat_lt, nat_tests, pos, refl, rules, signed_decimal, slice_get_within, subst, suc, sym, to_z-of_z, true, ℕ, ℤ, ◌&&◌, ◌++◌, ◌+◌, ◌<◌, ◌^◌, ◌∙◌, ◌∷◌, ◌≡◌, ◌≤◌, ◌⊎◌}
pub use Rattle.std.proofs.Common.{Global}
pub use Rattle.asg_answers.specs.Replies.{Answers, IsReply, bytes_of}
pub use Rattle.asg_answers.specs.SolverLimits.{SolverRefuses, SolverTakes}
pub use Rattle.asg_answers.specs.Tellings.{TellsBest, TellsNone, TellsRanking}
pub use Rattle.asg_answers.specs.Texts.{no_text, refused_document_text, refused_instance_text, yes_text}
pub use Rattle.asg_answers.specs.declared.replies.Reply.{Reply}
pub use Rattle.asg_answers.specs.declared.status.Status.{Status}
pub use Rattle.asg_answers.specs.declared.status.Status.TheVariants.{Document, Done, Instance, No, Nothing}
pub use Rattle.asg_commands.specs.Edits.{IsStarted, StopsJob}
pub use Rattle.asg_commands.specs.Solves.{JudgesOn}
pub use Rattle.asg_commands.specs.Stops.{StopsInstance, StopsScript, stop_of}
pub use Rattle.asg_brief.specs.BriefLines.{IsBriefRanking, IsNoneLine, IsRankedLine}
pub use Rattle.asg_check.specs.Reasons.{HasBadLevel, HasBadNode, HasBadPhase, HasOtherValue, IsFirstReason, LacksChoice, LacksHallSet, LeavesBetter, LeavesGap, LeavesOrder, Repeats, Stands}
pub use Rattle.asg_check.specs.declared.document_forms.Form.{Form}
pub use Rattle.asg_check.specs.declared.document_forms.Form.TheVariants.{Edit}
pub use Rattle.asg_doc.specs.HasText.{HasClaimText, HasText}
pub use Rattle.asg_doc.specs.Text.{text_of, texts_of}
pub use Rattle.asg_model.specs.Instances.{IsCostInRange, IsInstance, IsPlaceInRange}
pub use Rattle.asg_model.specs.Limits.{longest_file, most_side}
pub use Rattle.asg_model.specs.Problem.{Problem}
pub use Rattle.asg_model.specs.Refused.{PassesNegative}
pub use Rattle.asg_model.specs.Shapes.{IsPlaceOutOfRange, is_range_of, shaped, square_side}
pub use Rattle.asg_model.specs.declared.objectives.Objective.{Objective}
pub use Rattle.asg_model.specs.declared.objectives.Objective.TheVariants.{Balanced, Lex}
pub use Rattle.asg_promises.specs.Due.{DueForJob, DueForTask, Held, Refused}
pub use Rattle.asg_promises.specs.DueToCheck.{DueToCheck, Miscounted, NotRead, Read, form_asked}
pub use Rattle.asg_promises.specs.DueToJudge.{DueToJudge}
pub use Rattle.asg_promises.specs.DueToRank.{DueToRank, Ranked, TooMuch, Unrankable}
pub use Rattle.asg_promises.specs.DueToSolve.{DueToSolve, Solved, TooLarge, Unsolvable}
pub use Rattle.asg_promises.specs.InstanceFile.{Holds, InstanceFile, Refuses, fitted, held_by, instance_in, passed, passed_by, rows_asked, sided}
pub use Rattle.asg_promises.specs.Requests.{is_edit}
pub use Rattle.asg_promises.specs.ScriptStage.{DueForScript}
pub use Rattle.asg_promises.specs.Sources.{AreShort, content_at}
pub use Rattle.asg_rank.specs.Rankings.{IsRefusal, ranking_work}
pub use Rattle.asg_rank.specs.Rooms.{most_work}
pub use Rattle.asg_words.specs.Bounds.{IsJob, script_edited}
pub use Rattle.asg_words.specs.declared.requests.Job.{Job}
pub use Rattle.asg_words.specs.declared.requests.Task.TheVariants.{Check, Rank, Solve}
pub use Rattle.asg_text.specs.SpelledLines.{held_passes, line_at_passes, rest_at, solved_count}
pub use Rattle.asg_text.specs.TriedScripts.{HoldsLines, ScriptFile, after_line, first_refused, line_refusal, script_in, solved_instances}
pub use Rattle.asg_text.specs.SolveLines.{solve_count, solves}
pub use Rattle.asg_text.specs.declared.script_lines.Line.{Line}
pub use Rattle.asg_tokens.specs.Faults.{Fault, fault_of, refusal_numbers}
pub use Rattle.std.specs.Int.{w64}
