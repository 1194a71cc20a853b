-- What a document must be that a command writes.
use Rattle.std.specs.Prelude.{◌≡◌, ℕ, All, List}
use Rattle.asg_model.specs.declared.objectives.Objective.{Objective}
use Rattle.asg_model.specs.declared.objectives.Objective.TheVariants.{Bottleneck, BottleneckMax, Balanced, Lex}
use Rattle.asg_model.specs.Problem.{Problem}
use Rattle.asg_model.specs.Shapes.{square_side}
use Rattle.asg_proof.specs.declared.outcomes.Outcome.{Outcome}
use Rattle.asg_proof.specs.declared.outcomes.Outcome.TheVariants as outcomes
use Rattle.asg_proof.specs.declared.outcomes.Proof.{Proof}
use Rattle.asg_proof.specs.declared.outcomes.Proof.TheVariants.{Phases}
use Rattle.asg_model.specs.DifferentCosts.{most_costs}
use Rattle.asg_proof.specs.LevelRows.{most_level_rows}
use Rattle.asg_proof.specs.PromisedProofs.{AreFewWindows, HasFewLevels, HasFewPhases, IsPhaseOver, IsThresholdProof}
use Rattle.asg_rankings.specs.declared.nodes.Node.{Node}
use Rattle.asg_rank.specs.Rankings.{HaveFewPhases}
use Rattle.asg_doc.specs.declared.documents.Answer.{Answer}
use Rattle.asg_doc.specs.declared.documents.Claim.{Claim}
use Rattle.asg_doc.specs.declared.documents.Claim.TheVariants.{Best, Nothing, Ranked}
use Rattle.asg_doc.specs.declared.documents.Document.{Document}
use Rattle.asg_doc.specs.HasText.{HasText}
use Rattle.asg_check.specs.declared.document_forms.Form.{Form}
use Rattle.asg_check.specs.declared.document_forms.Form.TheVariants.{Rank, Edit}
use Rattle.asg_check.specs.Certifies.{Certifies}
use Rattle.asg_check.specs.TrueClaim.{ClaimsTruly}

-- the proof that is promised for an objective and an instance: a threshold proof for the two
-- bottleneck objectives, at most 20,000 windows for `balanced`, levels of at most 200 phases of one
-- step in all for `lex`, and for the other algebraic ones at most as many phases as the side of the
-- instance's square, each of at most as many steps
abbrev pub IsPromisedProof : Objective → Problem → Proof → Type 0
IsPromisedProof Bottleneck X proof = IsThresholdProof proof
IsPromisedProof BottleneckMax X proof = IsThresholdProof proof
IsPromisedProof Balanced X proof = AreFewWindows most_costs proof
IsPromisedProof Lex X proof = HasFewLevels (square_side X) most_level_rows proof
IsPromisedProof _ X proof = HasFewPhases (square_side X) proof

-- an outcome whose proof is promised; the one that no choice is valid has none
abbrev pub IsPromisedOutcome : Objective → Problem → Outcome → Type 0
IsPromisedOutcome objective X (outcomes.Best choice proof) = IsPromisedProof objective X proof
IsPromisedOutcome objective X (outcomes.Nothing rows) = Unit {0}

-- the proof is phases, each of 1 to side steps
abbrev pub ArePhasesOver : ℕ → Proof → Type 0
ArePhasesOver side (Phases words) = All (IsPhaseOver side) words
ArePhasesOver side _ = ⊥

-- the proof that is promised of a best choice in a document of a form: of an edited instance phases
-- for every objective, however many
abbrev pub IsPromisedBest : Form → Objective → Problem → Proof → Type 0
IsPromisedBest Edit objective X proof = ArePhasesOver (square_side X) proof
IsPromisedBest form objective X proof = IsPromisedProof objective X proof

-- a claim whose proof is promised; the one that nothing is valid has none, and in the tree of a
-- ranking every node but the root has at most one phase of its own, each of at most as many steps
-- as the side
abbrev pub IsPromisedClaim : Form → Objective → Problem → Claim → Type 0
IsPromisedClaim form objective X (Best answer proof) = IsPromisedBest form objective X proof
IsPromisedClaim form objective X (Nothing rows) = Unit {0}
IsPromisedClaim form objective X (Ranked count answers nodes) = HaveFewPhases (square_side X) nodes

-- a document that a command may write for an objective, an instance and a form: it has a text and
-- certifies, what it claims is true, and its proof is one that is promised
pub record IsWritten (objective : Objective) (X : Problem) (form : Form)
    (document : Document) : Type 0 where
  pub has_text : HasText document
  pub certifies : Certifies objective X form document
  pub truly : ClaimsTruly objective X document
  pub promised : IsPromisedClaim form objective X document.claim

-- a document that may be written, and claims a best answer
pub record IsBestDocument (objective : Objective) (X : Problem) (form : Form)
    (document : Document) : Type 0 where
  pub answer : Answer
  pub proof : Proof
  pub claims : document.claim ≡ Best answer proof
  pub written : IsWritten objective X form document

-- a document that may be written, and claims that no choice is valid, for its rows are a Hall set
pub record IsNoneDocument (objective : Objective) (X : Problem) (form : Form)
    (document : Document) : Type 0 where
  pub rows : List ℕ
  pub claims : document.claim ≡ Nothing rows
  pub written : IsWritten objective X form document

-- a document that may be written, and claims a ranking of so many choices
pub record IsRankedDocument (objective : Objective) (X : Problem) (count : ℕ)
    (document : Document) : Type 0 where
  pub answers : List Answer
  pub nodes : List Node
  pub claims : document.claim ≡ Ranked count answers nodes
  pub written : IsWritten objective X (Rank count) document
