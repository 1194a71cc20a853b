-- How a request to edit ends.
use Rattle.asg_app.proofs.Common.{◌≡◌, ℕ, Bool, true, false, List, ◌++◌, IfSome, Some, None, Option, sym, refl, ap, ◌∙◌, subst, inl, inr, arith, Answers, IsReply, bytes_of, TellsScript, WritesAll, WritesFront, Reply, Status, Done, WriteFault, NoMemory, IsStarted, Ends, WritesInPart, Rose, Objective, Sum, SumMax, SumPair, Capped, Bottleneck, BottleneckMax, TimeCost, Balanced, Lex, DueForAsked, DueForFront, DueForJob, DueForPart, is_edit, DueForScript, IsJob, IsWithin, cap_of, Job, Request, HoldsLines, Line}
use Rattle.asg_doc.specs.Words.{HasWord}
use Rattle.asg_model.specs.Objectives.{most_cap}
use Rattle.asg_commands.specs.declared.editors.Work.{Work}
use Rattle.asg_promises.specs.DueToEdit.{DueToEdit, Followed}
use Rattle.asg_commands.proofs.EditStarts.{edit_of, script_due}
use Rattle.asg_words.specs.declared.requests.Request.TheVariants as requests

-- an objective has a word, where its cap is within its bounds
pub word_of : (job : Job) → IsJob job → HasWord job.objective
word_of job within = by_objective job.objective within.capped
  where
    by_objective : (objective : Objective) → IfSome (cap_of objective) (IsWithin 1 most_cap) → HasWord objective
    by_objective Sum capped = tt
    by_objective SumMax capped = tt
    by_objective SumPair capped = tt
    by_objective (Capped cap) capped = (omega (arith, capped.0), omega (arith, capped.1))
    by_objective Bottleneck capped = tt
    by_objective BottleneckMax capped = tt
    by_objective TimeCost capped = tt
    by_objective Balanced capped = tt
    by_objective Lex capped = tt

-- ---- what is due for what was started

module _ (job : Job) (contents : List (List ℕ)) (work : Work) (is : is_edit job.task ≡ true) (started : IsStarted job contents work) where
  -- what tells all lines
  all_due : (text : List ℕ) → TellsScript job.brief job.objective work.editor.instance work.lines.items text → DueForJob job contents Done text
  all_due text told =
      script_due job contents work.editor.instance Done text is started.short started.held
      (subst (λ file. DueForScript file (DueToEdit job work.editor.instance) Done text) (sym started.lines) (Followed told refl))

  -- and the first ones
  front_due : (front rest : List (ℕ × Line)) → work.lines.items ≡ front ++ rest → (text : List ℕ) → TellsScript job.brief job.objective work.editor.instance front text → DueForFront job contents Done text
  front_due front rest lines text told =
      let of = edit_of job.task is in
      record {
        script = of.0;
        edits = of.1;
        problem = work.editor.instance;
        held = started.held;
        front = front;
        rest = rest;
        lines = started.lines ∙ ap HoldsLines lines;
        due = Followed told refl;
      }

  module _ {K : Type 0} (written : K → Option (List ℕ)) (faults : K → ℕ) (before after : K) where
    pub Ends-done : WritesAll job.brief job.objective work.editor.instance work.lines.items (written before) (written after) → Ends written faults before after true (DueForJob job contents) (DueForPart (Some (requests.Work job)) contents) Done
    Ends-done (text, told, puts) = record {
      answered = λ _. (text, all_due text told, puts);
      write_fault = λ e. cc;
      write_fault_cause = λ e. cc;
      no_memory = λ e. cc;
      no_read_fault = λ e. cc;
    }

    pub Ends-fault : WritesFront job.brief job.objective work.editor.instance work.lines.items (written before) (written after) → Rose (faults before) (faults after) → Ends written faults before after true (DueForJob job contents) (DueForPart (Some (requests.Work job)) contents) WriteFault
    Ends-fault (front, rest, lines, text, told, puts) rose = record {
      answered = λ answer. absurd answer;
      write_fault = λ e. (Done, text, inr (front_due front rest lines text told), puts);
      write_fault_cause = λ e. rose;
      no_memory = λ e. cc;
      no_read_fault = λ e. cc;
    }

    pub Ends-wanting : WritesFront job.brief job.objective work.editor.instance work.lines.items (written before) (written after) → Ends written faults before after true (DueForJob job contents) (DueForPart (Some (requests.Work job)) contents) NoMemory
    Ends-wanting (front, rest, lines, text, told, puts) = record {
      answered = λ answer. absurd answer;
      write_fault = λ e. cc;
      write_fault_cause = λ e. cc;
      no_memory = λ e. inr (refl, Done, text, inr (front_due front rest lines text told), puts);
      no_read_fault = λ e. cc;
    }

-- want of memory before anything is written
pub Ends-nothing : {K : Type 0} (written : K → Option (List ℕ)) (faults : K → ℕ) (before : K) (streamed : Bool) (Owed InPart : Status → List ℕ → Type 0) → Ends written faults before before streamed Owed InPart NoMemory
Ends-nothing written faults before streamed Owed InPart = record {
  answered = λ answer. absurd answer;
  write_fault = λ e. cc;
  write_fault_cause = λ e. cc;
  no_memory = λ e. inl refl;
  no_read_fault = λ e. cc;
}

-- what was put of a reply that is owed
pub Ends-owed : {K : Type 0} (written : K → Option (List ℕ)) (faults : K → ℕ) (before after : K) (streamed : Bool) (Owed InPart : Status → List ℕ → Type 0) (reply : Reply) (status : Status) → ((due : Status) (text : List ℕ) → Owed due text → InPart due text) → Answers Owed reply
    → Ends written faults before after false (IsReply reply) (IsReply reply) status → Ends written faults before after streamed Owed InPart status
Ends-owed written faults before after streamed Owed InPart reply status part owed ends = record {
  answered = λ answer. let did = ends.answered answer in (did.0, subst (Owed status) (sym did.1.1) (subst (λ s. Owed s (bytes_of reply.text)) (sym did.1.0) owed), did.2);
  write_fault = λ e. let did = ends.write_fault e in (did.0, did.1, part did.0 did.1 (subst (Owed did.0) (sym did.2.1) (subst (λ s. Owed s (bytes_of reply.text)) (sym did.2.0) owed)), did.3);
  write_fault_cause = ends.write_fault_cause;
  no_memory = λ e. nothing (ends.no_memory e);
  no_read_fault = ends.no_read_fault;
}
  where
    nothing : WritesInPart false (IsReply reply) (written before) (written after) → WritesInPart streamed InPart (written before) (written after)
    nothing (inl same) = inl same
    nothing (inr more) = let no_stream = more.0 in cc

-- what is due is due in part
pub part_of : (asked : Option Request) (contents : List (List ℕ)) (status : Status) (text : List ℕ) → DueForAsked asked contents status text → DueForPart asked contents status text
part_of None contents status text due = due
part_of (Some (requests.Make seed side)) contents status text due = due
part_of (Some (requests.Work job)) contents status text due = inl due

pub Ends-part : {K : Type 0} (written : K → Option (List ℕ)) (faults : K → ℕ) (before after : K) (streamed : Bool) (Owed InPart : Status → List ℕ → Type 0) (status : Status) → ((due : Status) (text : List ℕ) → Owed due text → InPart due text)
    → Ends written faults before after streamed Owed Owed status → Ends written faults before after streamed Owed InPart status
Ends-part written faults before after streamed Owed InPart status part ends = record {
  answered = ends.answered;
  write_fault = λ e. let did = ends.write_fault e in (did.0, did.1, part did.0 did.1 did.2, did.3);
  write_fault_cause = ends.write_fault_cause;
  no_memory = λ e. in_part (ends.no_memory e);
  no_read_fault = ends.no_read_fault;
}
  where
    in_part : WritesInPart streamed Owed (written before) (written after) → WritesInPart streamed InPart (written before) (written after)
    in_part (inl same) = inl same
    in_part (inr (stream, due, text, owed, puts)) = inr (stream, due, text, part due text owed, puts)
