-- What it means that a document certifies.
use Rattle.std.specs.Prelude.{◌≡◌, ℕ, IsTrue, List, map, Option}
use Rattle.asg_model.specs.declared.bands.Band.TheVariants.{Whole}
use Rattle.asg_model.specs.declared.objectives.Objective.{Objective}
use Rattle.asg_model.specs.HallSet.{IsHall}
use Rattle.asg_model.specs.Problem.{Problem}
use Rattle.asg_model.specs.Values.{choice_value}
use Rattle.asg_proof.specs.Proves.{Proves}
use Rattle.asg_rankings.specs.Ranked.{AreListed}
use Rattle.asg_rankings.specs.TreeProofs.{ProvesRanking}
use Rattle.asg_rankings.specs.declared.nodes.Node.{Node}
use Rattle.asg_proof.specs.declared.outcomes.Proof.{Proof}
use Rattle.asg_doc.specs.declared.documents.Answer.{Answer}
use Rattle.asg_doc.specs.declared.documents.Claim.{Claim}
use Rattle.asg_doc.specs.declared.documents.Claim.TheVariants.{Best, Nothing, Ranked}
use Rattle.asg_doc.specs.declared.documents.Document.{Document}
use Rattle.asg_check.specs.declared.document_forms.Form.{Form}
use Rattle.asg_check.specs.DocumentForm.{has_form}
use Rattle.asg_check.specs.Written.{AreWrittenAs, IsWrittenAs}

-- the answer's cells are a valid choice with the answer's value, and the proof proves the choice
pub record CertifiesAnswer (objective : Objective) (X : Problem) (answer : Answer)
    (proof : Proof) : Type 0 where
  pub choice : List (Option ℕ)
  pub written : IsWrittenAs X answer.cells choice
  pub value : answer.value ≡ choice_value objective X choice
  pub proved : Proves objective X choice proof

-- the answers' cells are valid choices with the answers' values, which may be listed where so many
-- were asked for, and the nodes prove them
pub record CertifiesRanking (objective : Objective) (X : Problem) (count : ℕ) (answers : List Answer)
    (nodes : List Node) : Type 0 where
  pub choices : List (List (Option ℕ))
  pub written : AreWrittenAs X answers choices
  pub values : map (λ answer. answer.value) answers ≡ map (choice_value objective X) choices
  pub listed : AreListed objective X count choices
  pub proved : ProvesRanking objective X count choices nodes

-- a claim certifies: its answer with its proof, its rows as a Hall set of the instance, or its
-- answers with its nodes
abbrev pub CertifiesClaim : Objective → Problem → Claim → Type 0
CertifiesClaim objective X (Best answer proof) = CertifiesAnswer objective X answer proof
CertifiesClaim objective X (Nothing rows) = IsHall X Whole rows
CertifiesClaim objective X (Ranked count answers nodes) =
    CertifiesRanking objective X count answers nodes

-- a document certifies for an objective, an instance and a form: it is of the asked objective and
-- has the asked form, and its claim certifies
pub record Certifies (objective : Objective) (X : Problem) (form : Form)
    (document : Document) : Type 0 where
  pub of_objective : document.objective ≡ objective
  pub of_form : IsTrue (has_form objective form document)
  pub claim : CertifiesClaim objective X document.claim
