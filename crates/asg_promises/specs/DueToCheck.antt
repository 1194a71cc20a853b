-- What is due for a request to check.
use Rattle.std.specs.Prelude.{◌≡◌, ◌≢◌, ℕ, List, Option, Some, None, length}
use Rattle.asg_model.specs.declared.objectives.Objective.{Objective}
use Rattle.asg_model.specs.Problem.{Problem}
use Rattle.asg_doc.specs.declared.documents.Document.{Document}
use Rattle.asg_doc_reader.specs.RefusedLine.{AllHaveText, IsNoText, IsRefusedLine}
use Rattle.asg_doc.specs.Text.{texts_of}
use Rattle.asg_check.specs.declared.document_forms.Form.{Form}
use Rattle.asg_check.specs.declared.document_forms.Form.TheVariants.{Solve, Rank}
use Rattle.asg_answers.specs.declared.status.Status.{Status}
use Rattle.asg_answers.specs.declared.status.Status.TheVariants.{Document as Unread}
use Rattle.asg_answers.specs.Texts.{refused_document_text}
use Rattle.asg_promises.specs.DueToJudge.{DueToJudge}

-- the form that a document must have to be accepted: where a count is given, that of a ranking
abbrev pub form_asked : Option ℕ → Form
form_asked None = Solve
form_asked (Some count) = Rank count

-- how a request to check ends, where a document of the form is due for each of these instances: the
-- answer's file is the text of no documents, or of another number of them, or they are judged
pub data DueToCheck (objective : Objective) (form : Form) (instances : List Problem)
    (bytes : List ℕ) (status : Status) (text : List ℕ) : Type 0 where
  NotRead : (line : ℕ) → IsNoText bytes → IsRefusedLine bytes line
      → status ≡ Unread → text ≡ refused_document_text line
      → DueToCheck objective form instances bytes status text
  Miscounted : (documents : List Document) → AllHaveText documents → bytes ≡ texts_of documents
      → length documents ≢ length instances
      → status ≡ Unread → text ≡ refused_document_text 0
      → DueToCheck objective form instances bytes status text
  Read : (documents : List Document) → AllHaveText documents → bytes ≡ texts_of documents
      → length documents ≡ length instances
      → DueToJudge objective form 0 instances documents status text
      → DueToCheck objective form instances bytes status text
