-- What is written of an outcome: the text of a document, or in brief a line.
use Rattle.std.specs.Prelude.{◌≡◌, ℕ, Bool, true, false, List}
use Rattle.asg_model.specs.declared.objectives.Objective.{Objective}
use Rattle.asg_model.specs.Problem.{Problem}
use Rattle.asg_brief.specs.BriefLines.{AreBriefLines, IsBestLine, IsNoneLine, IsRankedLine}
use Rattle.asg_check.specs.declared.document_forms.Form.{Form}
use Rattle.asg_check.specs.declared.document_forms.Form.TheVariants.{Solve}
use Rattle.asg_doc.specs.declared.documents.Document.{Document}
use Rattle.asg_doc.specs.Text.{text_of, texts_of}
use Rattle.asg_proof.specs.KeptWords.{Standing}
use Rattle.asg_text.specs.TriedScripts.{solved_instances}
use Rattle.asg_text.specs.declared.script_lines.Line.{Line}
use Rattle.asg_answers.specs.EditDocuments.{AreEditDocuments, at_first}
use Rattle.asg_answers.specs.WrittenDocument.{IsBestDocument, IsNoneDocument, IsRankedDocument}

-- the text tells a best choice: it is that of a document, or in brief the line of the best value
abbrev pub TellsBest : Bool → Objective → Problem → List ℕ → Type 0
TellsBest false objective X text = (document : Document)
    × IsBestDocument objective X Solve document × (text ≡ text_of document)
TellsBest true objective X text = IsBestLine objective X text

-- the text tells that no choice is valid: it is that of a document of a form, or in brief a line
abbrev pub TellsNone : Bool → Objective → Problem → Form → List ℕ → Type 0
TellsNone false objective X form text = (document : Document)
    × IsNoneDocument objective X form document × (text ≡ text_of document)
TellsNone true objective X form text = IsNoneLine objective X text

-- the text tells a ranking of so many choices: it is that of a document, or in brief the line of
-- its ends
abbrev pub TellsRanking : Bool → Objective → Problem → ℕ → List ℕ → Type 0
TellsRanking false objective X count text = (document : Document)
    × IsRankedDocument objective X count document × (text ≡ text_of document)
TellsRanking true objective X count text = IsRankedLine objective X count text

-- the text tells an answer for each `solve` line of a script, from an instance and what was kept
-- on: it is that of documents, of which each goes on from what is kept of the one before it, or in
-- brief that of a line for each instance
abbrev pub TellsEdits : Bool → Objective → Problem → Standing → List (ℕ × Line) → List ℕ → Type 0
TellsEdits false objective X standing lines text = (documents : List Document)
    × AreEditDocuments objective X standing lines documents × (text ≡ texts_of documents)
TellsEdits true objective X standing lines text =
    AreBriefLines objective (solved_instances X lines) text

-- the same from the first line on
abbrev pub TellsScript : Bool → Objective → Problem → List (ℕ × Line) → List ℕ → Type 0
TellsScript brief objective X lines text = TellsEdits brief objective X at_first lines text
