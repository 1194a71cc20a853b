-- Which line of a file is refused.
use Rattle.std.specs.Prelude.{◌≡◌, ℕ, ◌+◌, ◌<◌, ◌≤◌, List, ◌∷◌, ◌++◌, length, take, All}
use Rattle.std.specs.List.{flat_map}
use Rattle.asg_doc.specs.declared.documents.Document.{Document}
use Rattle.asg_doc_reader.specs.declared.refusals.DocRefusal.{DocRefusal}
use Rattle.asg_doc_reader.specs.declared.refusals.DocRefusal.TheVariants.{Line, NoMemory}
use Rattle.asg_grammar.specs.declared.faults.Fault.{Fault}
use Rattle.asg_grammar.specs.declared.faults.Fault.TheVariants.{Refused}
use Rattle.asg_grammar.specs.declared.faults.Fault.TheVariants as faults
use Rattle.asg_doc.specs.HasText.{HasText}
use Rattle.asg_doc.specs.Text.{lines_of, texts_of}
use Rattle.asg_grammar.specs.Lines.{line_ends}

-- each of the documents has a text
abbrev pub AllHaveText : List Document → Type 0
AllHaveText documents = All HasText documents

-- the bytes are a prefix of the text of some list of documents
pub record BeginsText (bytes : List ℕ) : Type 0 where
  pub documents : List Document
  pub have_text : AllHaveText documents
  pub rest : List ℕ
  pub whole : bytes ++ rest ≡ texts_of documents

-- some prefix of the file begins a text and has all the LF before line n, and none that begins a
-- text has more
pub record IsRefusedLine (file : List ℕ) (n : ℕ) : Type 0 where
  pub count : ℕ
  pub begins : BeginsText (take count file)
  pub reached : n ≡ 1 + line_ends (take count file)
  pub most : (more : ℕ) → BeginsText (take more file) → line_ends (take more file) < n

-- the first `count` bytes of the file are its longest prefix that begins a text
pub record IsLongestBegun (file : List ℕ) (count : ℕ) : Type 0 where
  pub within : count ≤ length file
  pub begins : BeginsText (take count file)
  pub longest : (more : ℕ) → more ≤ length file → BeginsText (take more file) → more ≤ count

-- no list of documents has this text
abbrev pub IsNoText : List ℕ → Type 0
IsNoText file = (documents : List Document) → AllHaveText documents → file ≡ texts_of documents → ⊥

-- a refused file is no text, and its line is the refused one
abbrev pub IsRefusal : List ℕ → DocRefusal → Type 0
IsRefusal file (Line n) = IsNoText file × IsRefusedLine file n
IsRefusal file NoMemory = Unit {0}

-- reading a list of documents stops before the lines `rest`: those read begin the lines of some
-- list, all lines are those of none, and none goes on with the next line
pub record DocumentsStop (old rest : List (List ℕ)) : Type 0 where
  pub good : List (List ℕ)
  pub split : old ≡ good ++ rest
  pub documents : List Document
  pub have_text : AllHaveText documents
  pub tail : List (List ℕ)
  pub begins : flat_map lines_of documents ≡ good ++ tail
  pub unread : (ds : List Document) → AllHaveText ds → old ≡ flat_map lines_of ds → ⊥
  pub barred : (line : List ℕ) (more : List (List ℕ)) → rest ≡ line ∷ more
      → (ds : List Document) → AllHaveText ds → (others : List (List ℕ))
      → flat_map lines_of ds ≡ good ++ line ∷ others → ⊥

-- reading a list of documents fails: it stops, unless memory runs out
abbrev pub DocumentsHalt : List (List ℕ) → List (List ℕ) → Fault → Type 0
DocumentsHalt old rest Refused = DocumentsStop old rest
DocumentsHalt old rest faults.NoMemory = Unit {0}
