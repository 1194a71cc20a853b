-- What a document claims of an instance.
use Rattle.std.specs.Prelude.{◌≡◌, ℕ, List, Option, map}
use Rattle.asg_model.specs.declared.objectives.Objective.{Objective}
use Rattle.asg_model.specs.Best.{IsBest}
use Rattle.asg_model.specs.Problem.{Problem}
use Rattle.asg_model.specs.ValidChoice.{IsValid}
use Rattle.asg_model.specs.Values.{choice_value}
use Rattle.asg_rankings.specs.Ranked.{IsRanking}
use Rattle.asg_doc.specs.ChosenCells.{cells_by_id}
use Rattle.asg_doc.specs.declared.documents.Answer.{Answer}
use Rattle.asg_doc.specs.declared.documents.Claim.{Claim}
use Rattle.asg_doc.specs.declared.documents.Claim.TheVariants.{Best, Nothing, Ranked}
use Rattle.asg_doc.specs.declared.documents.Document.{Document}

-- the answer is a best choice: its cells are those of a best choice, and its value is the value of
-- that choice
pub record IsBestAnswer (objective : Objective) (X : Problem) (answer : Answer) : Type 0 where
  pub choice : List (Option ℕ)
  pub best : IsBest objective X choice
  pub written : answer.cells ≡ cells_by_id X choice
  pub value : answer.value ≡ choice_value objective X choice

-- the answers are a ranking of so many: their cells are those of its choices, and their values are
-- the values of these
pub record AreRankedAnswers (objective : Objective) (X : Problem) (count : ℕ) (answers : List Answer)
    : Type 0 where
  pub choices : List (List (Option ℕ))
  pub ranking : IsRanking objective X count choices
  pub written : map (λ answer. answer.cells) answers ≡ map (cells_by_id X) choices
  pub values : map (λ answer. answer.value) answers ≡ map (choice_value objective X) choices

-- the claim is true: the answer is a best choice, no choice is valid, or the answers are a ranking
abbrev pub IsTrueClaim : Objective → Problem → Claim → Type 0
IsTrueClaim objective X (Best answer proof) = IsBestAnswer objective X answer
IsTrueClaim objective X (Nothing rows) = (f : List (Option ℕ)) → IsValid X f → ⊥
IsTrueClaim objective X (Ranked count answers nodes) = AreRankedAnswers objective X count answers

-- the document claims what is true of the instance
abbrev pub ClaimsTruly : Objective → Problem → Document → Type 0
ClaimsTruly objective X document = IsTrueClaim objective X document.claim
