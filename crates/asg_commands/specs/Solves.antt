-- The `solve` lines of a script, as the check of their documents goes through them.
use Rattle.std.specs.Prelude.{ℕ, List, drop, Option, Some, None}
use Rattle.asg_model.specs.declared.objectives.Objective.{Objective}
use Rattle.asg_model.specs.Problem.{Problem}
use Rattle.asg_doc.specs.declared.documents.Document.{Document}
use Rattle.asg_check.specs.declared.document_forms.Form.{Form}
use Rattle.asg_answers.specs.declared.replies.Reply.{Reply}
use Rattle.asg_answers.specs.declared.status.Status.{Status}
use Rattle.asg_promises.specs.DueToJudge.{DueToJudge}
use Rattle.asg_answers.specs.Replies.{Answers}

-- a denial is due for the instances and the documents behind so many; or without one what is due
-- later for the other instances and the documents behind so many more
abbrev pub JudgesOn : Objective → Form → ℕ → List Problem → List Document → ℕ → List Problem
    → Option Reply → Type 0
JudgesOn objective form count instances documents more others (Some denied) =
    Answers (DueToJudge objective form count instances (drop count documents)) denied
JudgesOn objective form count instances documents more others None =
    (status : Status) (text : List ℕ)
    → DueToJudge objective form more others (drop more documents) status text
    → DueToJudge objective form count instances (drop count documents) status text
