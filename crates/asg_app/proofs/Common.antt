-- The names that proofs of this crate cite most, passed on from one place. Declares nothing.
pub use Rattle.asg_model.proofs.Kit.{All-cons, All-nil, Bool, Err, IfErr, IfOk, IfSome, IsTrue, List, None, Option, Result, Some, Vec, [], ap, append-nil, append_assoc, arith, err_from_is_err_and, false, get_or, inl, inr, length, map, none-some, refl, replicate, slice_get, slice_get-get_or, slice_get_past, string_bytes, subst, suc, sym, take, take_all, take_more, true, zero, ℕ, ◌++◌, ◌+◌, ◌<◌, ◌∙◌, ◌∷◌, ◌≡◌, ◌≢◌, ◌≤◌, ◌⊎◌}
pub use Rattle.std.proofs.Common.{Global}
pub use Rattle.asg_answers.specs.Replies.{Answers, IsReply, bytes_of}
pub use Rattle.asg_answers.specs.Statuses.{IsAnswer}
pub use Rattle.asg_answers.specs.Tellings.{TellsScript}
pub use Rattle.asg_answers.specs.WrittenLines.{WritesAll, WritesFront}
pub use Rattle.asg_answers.specs.declared.replies.Reply.{Reply}
pub use Rattle.asg_answers.specs.declared.status.Status.{Status}
pub use Rattle.asg_answers.specs.declared.status.Status.TheVariants.{Document, Done, Instance, No, NoMemory, ReadFault, Script, TooLong, Usage, WriteFault}
pub use Rattle.asg_commands.specs.Edits.{IsStarted, StopsJob}
pub use Rattle.asg_app.specs.Ends.{Ends, WritesInPart}
pub use Rattle.asg_app.specs.Fetches.{AreGiven, AsksOf, Fails, Given, Gives, Stopped, StopsAt, status_of}
pub use Rattle.asg_io.specs.Shelf.{Rose, asked_after}
pub use Rattle.asg_io.specs.declared.shelf.FetchFault.{FetchFault}
pub use Rattle.asg_model.specs.Limits.{longest_file}
pub use Rattle.asg_model.specs.declared.objectives.Objective.{Objective}
pub use Rattle.asg_model.specs.declared.objectives.Objective.TheVariants.{Balanced, Bottleneck, BottleneckMax, Capped, Lex, Sum, SumMax, SumPair, TimeCost}
pub use Rattle.asg_promises.specs.Due.{Due, DueForAsked, DueForFront, DueForJob, DueForPart, Long}
pub use Rattle.asg_promises.specs.Requests.{asked_of, files_of, is_edit, is_streamed}
pub use Rattle.asg_promises.specs.ScriptStage.{DueForScript}
pub use Rattle.asg_promises.specs.Sources.{AreShort, MayHold, MayHoldAll, content_at}
pub use Rattle.asg_words.specs.Bounds.{IsJob, IsRequest, IsWithin, cap_of}
pub use Rattle.asg_words.specs.declared.requests.Job.{Job}
pub use Rattle.asg_words.specs.declared.requests.Request.{Request}
pub use Rattle.asg_words.specs.declared.requests.Request.TheVariants.{Make, Work}
pub use Rattle.asg_text.specs.SpelledLines.{held_passes}
pub use Rattle.asg_text.specs.TriedScripts.{HoldsLines, first_refused}
pub use Rattle.asg_text.specs.declared.script_lines.Line.{Line}
