-- The form that a document must have.
use Rattle.std.specs.Prelude.{◌≡◌, ℕ, ◌==◌, nat_le, Bool, true, false, ◌&&◌, IsTrue, length}
use Rattle.asg_model.specs.declared.objectives.Objective.{Objective}
use Rattle.asg_model.specs.declared.parts.Place.TheVariants.{All}
use Rattle.asg_model.specs.Objectives.{is_algebraic}
use Rattle.asg_model.specs.Problem.{Problem}
use Rattle.asg_proof.specs.Proves.{takes}
use Rattle.asg_doc.specs.declared.documents.Claim.{Claim}
use Rattle.asg_doc.specs.declared.documents.Claim.TheVariants.{Best, Nothing, Ranked}
use Rattle.asg_doc.specs.declared.documents.Command.{Command}
use Rattle.asg_doc.specs.declared.documents.Command.TheVariants as commands
use Rattle.asg_doc.specs.declared.documents.Document.{Document}
use Rattle.asg_check.specs.declared.document_forms.Form.{Form}
use Rattle.asg_check.specs.declared.document_forms.Form.TheVariants as forms

-- what may be asked: a ranking only for an algebraic objective, of an instance that places all rows
abbrev pub MayBeAsked : Form → Objective → Problem → Type 0
MayBeAsked forms.Solve objective X = Unit {0}
MayBeAsked (forms.Rank count) objective X = IsTrue (is_algebraic objective) × (X.place ≡ All)
MayBeAsked forms.Edit objective X = Unit {0}

-- documents of the asked form have this command
abbrev pub is_command_of : Form → Command → Bool
is_command_of forms.Solve commands.Solve = true
is_command_of (forms.Rank count) commands.Rank = true
is_command_of forms.Edit commands.Edit = true
is_command_of form command = false

-- so many answers are at least one and at most as many as were asked for
abbrev pub is_answer_count : ℕ → ℕ → Bool
is_answer_count count answers = nat_le 1 answers && nat_le answers count

-- the claim answers what was asked: that no choice is valid always does, one best choice where no
-- ranking is asked, and a ranking where one of the same count is
abbrev pub answers_form : Form → Claim → Bool
answers_form form (Nothing rows) = true
answers_form forms.Solve (Best answer proof) = true
answers_form forms.Solve (Ranked count answers nodes) = false
answers_form forms.Edit (Best answer proof) = true
answers_form forms.Edit (Ranked count answers nodes) = false
answers_form (forms.Rank asked) (Best answer proof) = false
answers_form (forms.Rank asked) (Ranked count answers nodes) =
    (count == asked) && is_answer_count count (length answers)

-- the objective takes the kind of the claim's proof: nodes of search trees for the algebraic
-- objectives; the claim that no choice is valid has none
abbrev pub takes_claim : Objective → Claim → Bool
takes_claim objective (Best answer proof) = takes objective proof
takes_claim objective (Nothing rows) = true
takes_claim objective (Ranked count answers nodes) = is_algebraic objective

-- the document has the asked form: the command, a claim that answers what was asked, and a proof of
-- a kind that the objective takes
abbrev pub has_form : Objective → Form → Document → Bool
has_form objective form document =
    is_command_of form document.command
    && (answers_form form document.claim && takes_claim objective document.claim)
