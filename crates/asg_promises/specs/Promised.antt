-- What the program's answers promise of the files.
use Rattle.std.specs.Prelude.{◌≡◌, ◌≢◌, ◌⊎◌, ◌<◌, ℕ, ℤ, List, [], ◌∷◌, length}
use Rattle.asg_model.specs.declared.objectives.Objective.{Objective}
use Rattle.asg_model.specs.declared.objectives.Objective.TheVariants.{Lex}
use Rattle.asg_model.specs.Instances.{IsInstance}
use Rattle.asg_model.specs.Problem.{Problem}
use Rattle.asg_doc.specs.declared.documents.Document.{Document}
use Rattle.asg_doc.specs.HasText.{HasText}
use Rattle.asg_doc_reader.specs.RefusedLine.{AllHaveText, IsNoText, IsRefusedLine}
use Rattle.asg_doc.specs.Text.{text_of, texts_of}
use Rattle.asg_check.specs.declared.document_forms.Form.{Form}
use Rattle.asg_check.specs.declared.document_forms.Form.TheVariants.{Solve, Edit}
use Rattle.asg_text.specs.TriedScripts.{HoldsLines, script_in, solved_instances}
use Rattle.asg_text.specs.declared.script_lines.Line.{Line}
use Rattle.asg_answers.specs.EditDocuments.{AreEditDocuments, at_first}
use Rattle.asg_brief.specs.BriefLines.{AreBriefLines}
use Rattle.asg_check.specs.Certifies.{Certifies}
use Rattle.asg_check.specs.Reasons.{IsFirstReason}
use Rattle.asg_check.specs.TrueClaim.{ClaimsTruly}
use Rattle.asg_model.specs.Objectives.{IsBottleneck}
use Rattle.asg_words.specs.declared.requests.Job.{Job}
use Rattle.asg_rank.specs.Rankings.{ranking_work}
use Rattle.asg_rank.specs.Rooms.{most_work}
use Rattle.asg_words.specs.declared.requests.Task.TheVariants.{Solve as Solving, Rank as Ranking}
use Rattle.asg_answers.specs.declared.status.Status.{Status}
use Rattle.asg_answers.specs.declared.status.Status.TheVariants.{Done, No, Nothing}
use Rattle.asg_answers.specs.SolverLimits.{SolverRefuses, limit_number}
use Rattle.asg_promises.specs.InstanceFile.{Holds, Refuses, instance_in}
use Rattle.asg_answers.specs.Tellings.{TellsScript}
use Rattle.asg_answers.specs.Texts.{refused_document_text, no_text}
use Rattle.asg_answers.specs.WrittenDocument.{IsBestDocument, IsNoneDocument, IsRankedDocument}

-- two jobs ask about one instance file alike: of one objective, and with the same options for the
-- instance
pub record AskAlike (job other : Job) : Type 0 where
  pub of_objective : other.objective ≡ job.objective
  pub of_format : other.format ≡ job.format
  pub of_place : other.place ≡ job.place
  pub of_each : other.each ≡ job.each

-- the bytes hold an instance, of which the text tells so
pub record IsToldOf (job : Job) (bytes text : List ℕ) (Tells : Problem → List ℕ → Type 0)
    : Type 0 where
  pub problem : Problem
  pub held : instance_in job bytes ≡ Holds problem
  pub instance : IsInstance problem
  pub tells : Tells problem text

-- the bytes hold an instance, and the script's lines that may be followed from it; the text tells
-- an answer for each `solve` line, by documents or in brief by lines
pub record IsToldOfScript (job : Job) (bytes script text : List ℕ) : Type 0 where
  pub problem : Problem
  pub lines : List (ℕ × Line)
  pub held : instance_in job bytes ≡ Holds problem
  pub followed : script_in job.objective problem script ≡ HoldsLines lines
  pub tells : TellsScript job.brief job.objective problem lines text

-- the bytes hold an instance, and the script's lines that may be followed from it; the text is that
-- of the brief lines of the instances for which the script asks
pub record IsBriefScript (job : Job) (bytes script text : List ℕ) : Type 0 where
  pub problem : Problem
  pub lines : List (ℕ × Line)
  pub held : instance_in job bytes ≡ Holds problem
  pub followed : script_in job.objective problem script ≡ HoldsLines lines
  pub told : AreBriefLines job.objective (solved_instances problem lines) text

-- the bytes hold an instance, and the text is that of a document with a best answer for it
pub record IsSolved (job : Job) (bytes text : List ℕ) : Type 0 where
  pub problem : Problem
  pub document : Document
  pub held : instance_in job bytes ≡ Holds problem
  pub instance : IsInstance problem
  pub best : IsBestDocument job.objective problem Solve document
  pub written : text ≡ text_of document

-- the bytes hold an instance, and the text is that of a document with a ranking of so many of its
-- choices
pub record IsRanked (job : Job) (count : ℕ) (bytes text : List ℕ) : Type 0 where
  pub problem : Problem
  pub document : Document
  pub held : instance_in job bytes ≡ Holds problem
  pub instance : IsInstance problem
  pub ranked : IsRankedDocument job.objective problem count document
  pub written : text ≡ text_of document

-- the bytes hold an instance, and the text is that of a document of a form with a Hall set of it
pub record IsUnsolvable (job : Job) (form : Form) (bytes text : List ℕ) : Type 0 where
  pub problem : Problem
  pub document : Document
  pub held : instance_in job bytes ≡ Holds problem
  pub instance : IsInstance problem
  pub none : IsNoneDocument job.objective problem form document
  pub written : text ≡ text_of document

-- the objectives whose promised proofs are short: the two bottleneck objectives, and `lex`
abbrev pub HasShortProofs : Objective → Type 0
HasShortProofs Lex = Unit {0}
HasShortProofs objective = IsBottleneck objective

-- what is written with a status of a job is never longer than the longest file that is read: that
-- no choice is valid, or a document for an objective with short proofs
abbrev pub IsNeverLong : Job → Status → Type 0
IsNeverLong job status = (status ≡ Nothing) ⊎ HasShortProofs job.objective

-- the job is to solve, and the bytes hold an instance that its objective's solver refuses; the
-- numbers are 16 and that of the different costs, or 17 and that of the rows
pub record IsTooLargeToSolve (job : Job) (bytes numbers : List ℕ) : Type 0 where
  pub solves : job.task ≡ Solving
  pub problem : Problem
  pub held : instance_in job bytes ≡ Holds problem
  pub count : ℕ
  pub refused : SolverRefuses job.objective problem count
  pub told : numbers ≡ limit_number job.objective ∷ count ∷ []

-- the job is to rank, and the bytes hold an instance of which so many choices are too much to rank;
-- the numbers are 18 and the work, which is the count times the rows times the side
pub record IsTooMuchToRank (job : Job) (bytes numbers : List ℕ) : Type 0 where
  pub count : ℕ
  pub ranks : job.task ≡ Ranking count
  pub problem : Problem
  pub held : instance_in job bytes ≡ Holds problem
  pub refused : most_work < ranking_work problem count
  pub told : numbers ≡ 18 ∷ ranking_work problem count ∷ []

-- the bytes are refused with these numbers: they hold no instance that the job takes, one that is
-- too large for a job to solve, or one that is too much for a job to rank
abbrev pub IsRefusedInstance : Job → List ℕ → List ℕ → Type 0
IsRefusedInstance job bytes numbers =
    (instance_in job bytes ≡ Refuses numbers)
    ⊎ (IsTooLargeToSolve job bytes numbers ⊎ IsTooMuchToRank job bytes numbers)

-- the bytes hold an instance, and the answer is the text of one document, which certifies for it
-- and a form, and claims what is true of it
pub record IsCertified (job : Job) (form : Form) (bytes answer : List ℕ) : Type 0 where
  pub problem : Problem
  pub document : Document
  pub held : instance_in job bytes ≡ Holds problem
  pub instance : IsInstance problem
  pub has_text : HasText document
  pub read : answer ≡ text_of document
  pub certifies : Certifies job.objective problem form document
  pub truly : ClaimsTruly job.objective problem document

-- the bytes hold an instance, and the answer is the text of one document, which doesn't certify for
-- it and a form; the text tells the first reason against it
pub record IsDenied (job : Job) (form : Form) (bytes answer text : List ℕ) : Type 0 where
  pub problem : Problem
  pub document : Document
  pub held : instance_in job bytes ≡ Holds problem
  pub has_text : HasText document
  pub read : answer ≡ text_of document
  pub fails : ¬ Certifies job.objective problem form document
  pub number : ℕ
  pub place : ℤ
  pub reason : IsFirstReason job.objective problem form document number place
  pub told : text ≡ no_text 1 number place

-- the answer is the text of no list of documents, and the text tells the refused line
pub record IsRefused (answer text : List ℕ) : Type 0 where
  pub read_by_none : IsNoText answer
  pub line : ℕ
  pub refused : IsRefusedLine answer line
  pub told : text ≡ refused_document_text line

-- the answer is the text of documents, of which there isn't just one, and the text tells the line 0
pub record IsMiscounted (answer text : List ℕ) : Type 0 where
  pub documents : List Document
  pub have_text : AllHaveText documents
  pub read : answer ≡ texts_of documents
  pub count : length documents ≢ 1
  pub told : text ≡ refused_document_text 0

-- the answer isn't the text of one document, and the text tells the line
abbrev pub IsUnread : List ℕ → List ℕ → Type 0
IsUnread answer text = IsRefused answer text ⊎ IsMiscounted answer text

-- the bytes aren't the text of one document
abbrev pub IsNotOne : List ℕ → Type 0
IsNotOne bytes = (document : Document) → HasText document → bytes ≢ text_of document

-- the status tells whether the document certifies
abbrev pub IsVerdict : Job → Form → Problem → Document → Status → Type 0
IsVerdict job form X document status =
    ((status ≡ Done) × Certifies job.objective X form document)
    ⊎ ((status ≡ No) × ¬ Certifies job.objective X form document)

-- the bytes aren't the text of so many documents
abbrev pub AreNotSoMany : ℕ → List ℕ → Type 0
AreNotSoMany count bytes =
    (documents : List Document) → AllHaveText documents → length documents ≡ count
    → bytes ≢ texts_of documents

-- documents certify each for its instance
abbrev pub CertifyEach : Objective → List Problem → List Document → Type 0
CertifyEach objective [] [] = Unit {0}
CertifyEach objective [] (document ∷ documents) = ⊥
CertifyEach objective (X ∷ instances) [] = ⊥
CertifyEach objective (X ∷ instances) (document ∷ documents) =
    Certifies objective X Edit document × CertifyEach objective instances documents

-- the status tells whether each document certifies for its instance
abbrev pub AreJudged : Objective → List Problem → List Document → Status → Type 0
AreJudged objective instances documents status =
    ((status ≡ Done) × CertifyEach objective instances documents)
    ⊎ ((status ≡ No) × ¬ CertifyEach objective instances documents)

-- documents that certify each for its instance, with a claim that is true of it
abbrev pub AreTrue : Objective → List Problem → List Document → Type 0
AreTrue objective [] [] = Unit {0}
AreTrue objective [] (document ∷ documents) = ⊥
AreTrue objective (X ∷ instances) [] = ⊥
AreTrue objective (X ∷ instances) (document ∷ documents) =
    HasText document × Certifies objective X Edit document × ClaimsTruly objective X document
    × AreTrue objective instances documents

-- the bytes hold an instance, and the script's lines that may be followed from it; the text is that
-- of documents, one for each instance that the script asks for, each with a true claim, and each
-- goes on from the phases that the edits since the one before it have kept
pub record IsEdited (job : Job) (bytes script text : List ℕ) : Type 0 where
  pub problem : Problem
  pub lines : List (ℕ × Line)
  pub documents : List Document
  pub held : instance_in job bytes ≡ Holds problem
  pub followed : script_in job.objective problem script ≡ HoldsLines lines
  pub are_true : AreTrue job.objective (solved_instances problem lines) documents
  pub going_on : AreEditDocuments job.objective problem at_first lines documents
  pub written : text ≡ texts_of documents

-- the bytes hold an instance, and the script's lines that may be followed from it; the answer is
-- the text of documents, one for each instance that the script asks for, each with a true claim
pub record AreCertified (job : Job) (bytes script answer : List ℕ) : Type 0 where
  pub problem : Problem
  pub lines : List (ℕ × Line)
  pub documents : List Document
  pub held : instance_in job bytes ≡ Holds problem
  pub followed : script_in job.objective problem script ≡ HoldsLines lines
  pub are_true : AreTrue job.objective (solved_instances problem lines) documents
  pub read : answer ≡ texts_of documents
