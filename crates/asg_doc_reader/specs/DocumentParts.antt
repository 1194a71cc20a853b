-- The parts that a document is made of.
use Rattle.std.specs.Prelude.{◌≡◌, ℕ, ◌<◌, ◌^◌, ℤ, Bool, List, [], ◌∷◌, ◌++◌, codes, FitsSigned}
use Rattle.std.specs.Fmt.{decimal, signed_decimal}
use Rattle.std.specs.Int.{w64}
use Rattle.asg_model.specs.declared.objectives.Objective.{Objective}
use Rattle.asg_model.specs.declared.objectives.Value.{Value}
use Rattle.asg_order.specs.declared.words.Word.{Word}
use Rattle.asg_proof.specs.declared.outcomes.Proof.{Proof}
use Rattle.asg_proof.specs.declared.levels.Level.{Level}
use Rattle.asg_rankings.specs.declared.nodes.Mark.{Mark}
use Rattle.asg_rankings.specs.declared.nodes.Node.{Node}
use Rattle.asg_proof.specs.declared.windows.Window.{Window}
use Rattle.asg_proof.specs.Phases.{PhaseOf}
use Rattle.asg_grammar.specs.Lines.{IsCutAt}
use Rattle.asg_grammar.specs.Parts.{Part, and_then, one_line}
use Rattle.asg_grammar.specs.Spellings.{Spelling, behind, joined, number_spelling, positive_spelling, pair_spelling, list_spelling, listed, spaced}
use Rattle.asg_doc.specs.declared.documents.Answer.{Answer}
use Rattle.asg_doc.specs.declared.documents.Claim.{Claim}
use Rattle.asg_doc.specs.declared.documents.Command.{Command}
use Rattle.asg_doc.specs.declared.documents.Document.{Document}
use Rattle.asg_doc_reader.specs.declared.heads.ProofHead.{ProofHead}
use Rattle.asg_doc_reader.specs.declared.heads.ProofHead.TheVariants as heads
use Rattle.asg_doc_reader.specs.declared.heads.Status.{Status}
use Rattle.asg_doc.specs.declared.documents.ValueForm.{ValueForm}
use Rattle.asg_doc.specs.CellIds.{IsCellOfIds}
use Rattle.asg_doc.specs.HasText.{AreRows, IsWrittenValue, HasAnswerText, HaveAnswerText, HasStepText, HasPhaseText, HasWindowText, HasColumnText, HasLevelText, HasMarkText, HasNodeText, HasTreeText, HasProofText, HasClaimText, HasText}
use Rattle.asg_doc.specs.Text.{cell_line, value_text, answer_lines_behind, listed_lines, step_text, phase_lines, window_text, column_text, level_lines, mark_text, node_lines, tree_lines, proof_lines, claim_lines, lines_of}
use Rattle.asg_doc.specs.Words.{form_of, has_grades}
use Rattle.asg_doc_reader.specs.WordSpellings.{asked_spelling, command_spelling, objective_spelling, status_spelling}

-- ---- single lines

abbrev pub command_part : Part Command
command_part = one_line (behind (codes "command ") command_spelling)

abbrev pub objective_part : Part Objective
objective_part = one_line (behind (codes "objective ") objective_spelling)

abbrev pub status_part : Part Status
status_part = one_line (behind (codes "status ") status_spelling)

-- a signed number of 64 bits
abbrev pub bound_spelling : Spelling ℤ
bound_spelling = record { bytes = signed_decimal; Has = FitsSigned w64 }

-- a value of this form, behind its word
abbrev pub value_spelling : ValueForm → Spelling Value
value_spelling form = record { bytes = value_text; Has = IsWrittenValue form }

-- the line of a value behind a word
abbrev pub value_part : List ℕ → Objective → Part Value
value_part word objective = one_line (behind word (value_spelling (form_of objective)))

abbrev pub count_part : Part ℕ
count_part = one_line (behind (codes "cells ") positive_spelling)

abbrev pub cell_part : Part (ℕ × ℕ)
cell_part = one_line (record { bytes = cell_line; Has = IsCellOfIds })

abbrev pub hall_part : Part (List ℕ)
hall_part = one_line (behind (codes "hall") list_spelling)

abbrev pub step_spelling : Bool → Spelling Word
step_spelling graded = record { bytes = step_text graded; Has = HasStepText graded }

abbrev pub steps_part : Bool → Part (List Word)
steps_part graded = one_line (behind (codes "steps") (listed (step_spelling graded)))

abbrev pub enters_part : Part (List ℕ)
enters_part = one_line (behind (codes "enters") list_spelling)

abbrev pub leaves_part : Part (List ℕ)
leaves_part = one_line (behind (codes "leaves") list_spelling)

-- the text is two bounds with a space between them and what follows, which is nothing or begins
-- with a space
pub record HasBounds (text : List ℕ) (lo hi : ℤ) (rest : List ℕ) : Type 0 where
  pub lo_fits : FitsSigned w64 lo
  pub hi_fits : FitsSigned w64 hi
  pub whole : text ≡ signed_decimal lo ++ 32 ∷ (signed_decimal hi ++ rest)
  pub cut : IsCutAt 32 rest

abbrev pub window_spelling : Spelling Window
window_spelling = record { bytes = window_text; Has = HasWindowText }

abbrev pub window_part : Part Window
window_part = one_line (behind (codes "window ") window_spelling)

-- a column of an assignment, from 1 on
abbrev pub column_spelling : Spelling ℕ
column_spelling = record { bytes = column_text; Has = HasColumnText }

abbrev pub perm_part : Part (List ℕ)
perm_part = one_line (behind (codes "perm") (listed column_spelling))

-- a cost, a count, and how many phases follow, with spaces between them
abbrev pub level_head_spelling : Spelling (ℤ × (ℕ × ℕ))
level_head_spelling = joined 32 bound_spelling pair_spelling

abbrev pub level_head_part : Part (ℤ × (ℕ × ℕ))
level_head_part = one_line (behind (codes "level ") level_head_spelling)

-- how many answers were asked for, how many are listed, and how many nodes
abbrev pub asked_part : Part ℕ
asked_part = one_line (behind (codes "count ") asked_spelling)

abbrev pub answer_count_part : Part ℕ
answer_count_part = one_line (behind (codes "answers ") positive_spelling)

abbrev pub node_count_part : Part ℕ
node_count_part = one_line (behind (codes "proof tree ") positive_spelling)

-- a mark, and how many phases follow
abbrev pub mark_spelling : Spelling (Mark × ℕ)
mark_spelling = record {
  bytes = λ marked. mark_text marked.0 marked.1;
  Has = λ marked. (marked.1 < 2 ^ 32) × HasMarkText marked.0 marked.1;
}

-- a branch, and the same
abbrev pub branch_spelling : Spelling (ℕ × (Mark × ℕ))
branch_spelling = joined 32 number_spelling mark_spelling

-- a parent, and the same
abbrev pub node_head_spelling : Spelling (ℕ × (ℕ × (Mark × ℕ)))
node_head_spelling = joined 32 number_spelling branch_spelling

abbrev pub node_head_part : Part (ℕ × (ℕ × (Mark × ℕ)))
node_head_part = one_line (behind (codes "node ") node_head_spelling)

-- the text is a number, a space, and what follows
pub record HasFront (text : List ℕ) (number : ℕ) (rest : List ℕ) : Type 0 where
  pub fits : number < 2 ^ 32
  pub whole : text ≡ decimal number ++ 32 ∷ rest

-- what the first line of a proof says behind its word
abbrev pub proof_head_text : ProofHead → List ℕ
proof_head_text (heads.Phases count) = codes "phases " ++ decimal count
proof_head_text (heads.Below rows) = codes "below" ++ spaced rows
proof_head_text (heads.Windows count) = codes "windows " ++ decimal count
proof_head_text (heads.Levels count) = codes "levels " ++ decimal count

abbrev pub HasProofHead : ProofHead → Type 0
HasProofHead (heads.Phases count) = count < 2 ^ 32
HasProofHead (heads.Below rows) = AreRows rows
HasProofHead (heads.Windows count) = count < 2 ^ 32
HasProofHead (heads.Levels count) = (0 < count) × (count < 2 ^ 32)

abbrev pub proof_head_spelling : Spelling ProofHead
proof_head_spelling = record { bytes = proof_head_text; Has = HasProofHead }

abbrev pub proof_head_part : Part ProofHead
proof_head_part = one_line (behind (codes "proof ") proof_head_spelling)

-- ---- larger parts

-- an answer, its value behind a word
abbrev pub answer_part : List ℕ → Objective → Part Answer
answer_part word objective = record { lines = answer_lines_behind word; Has = HasAnswerText objective }

-- listed answers
abbrev pub answers_part : Objective → Part (List Answer)
answers_part objective = record { lines = listed_lines; Has = HaveAnswerText objective }

abbrev pub phase_part : Bool → Part (PhaseOf Word)
phase_part graded = record { lines = phase_lines graded; Has = HasPhaseText graded }

abbrev pub level_part : Part Level
level_part = record { lines = level_lines; Has = HasLevelText }

abbrev pub proof_part : Objective → Part Proof
proof_part objective = record { lines = proof_lines objective; Has = HasProofText objective }

-- a part, and the last line of a document
abbrev pub ended_part : {A : Type 0} → Part A → Part A
ended_part part = record { lines = λ a. part.lines a ++ codes "end" ∷ []; Has = part.Has }

-- an answer and its proof
abbrev pub proved_part : Objective → Part ((answer : Answer) × Proof)
proved_part objective = and_then (answer_part (codes "value") objective) (λ _. proof_part objective)

abbrev pub node_part : Bool → Part Node
node_part graded = record { lines = node_lines graded; Has = HasNodeText graded }

abbrev pub tree_part : Bool → Part (List Node)
tree_part graded = record { lines = tree_lines graded; Has = HasTreeText graded }

-- listed answers and their tree
abbrev pub ranked_part : Objective → Part ((answers : List Answer) × List Node)
ranked_part objective = and_then (answers_part objective) (λ _. tree_part (has_grades objective))

-- a ranking: how many answers were asked for, those listed, and their tree
abbrev pub ranking_part : Objective → Part ((count : ℕ) × ((answers : List Answer) × List Node))
ranking_part objective = and_then asked_part (λ _. ranked_part objective)

abbrev pub claim_part : Objective → Part Claim
claim_part objective = record { lines = claim_lines objective; Has = HasClaimText objective }

abbrev pub document_part : Part Document
document_part = record { lines = lines_of; Has = HasText }
