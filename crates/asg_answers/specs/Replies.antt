-- What a run answers.
use Rattle.std.specs.Prelude.{◌≡◌, ℕ, List, string_bytes}
use Rattle.asg_doc.specs.Text.{text_of}
use Rattle.asg_answers.specs.declared.replies.Reply.{Reply}
use Rattle.asg_answers.specs.declared.replies.Text.{Text}
use Rattle.asg_answers.specs.declared.replies.Text.TheVariants.{Brief, File, Line, Sheet}
use Rattle.asg_answers.specs.declared.status.Status.{Status}

-- the bytes that are to be written
abbrev pub bytes_of : Text → List ℕ
bytes_of (Line line) = string_bytes line
bytes_of (Sheet document) = text_of document
bytes_of (File bytes) = bytes
bytes_of (Brief line) = line

-- the status and the text of a reply
abbrev pub IsReply : Reply → Status → List ℕ → Type 0
IsReply reply status text = (status ≡ reply.status) × (text ≡ bytes_of reply.text)

-- a reply is owed, with its status and its text
abbrev pub Answers : (Status → List ℕ → Type 0) → Reply → Type 0
Answers Owed reply = Owed reply.status (bytes_of reply.text)
