-- The answers of choices, one after another.
use Rattle.asg_answers.proofs.Common.{◌≡◌, ℕ, ◌+◌, ◌<◌, ◌≤◌, List, [], ◌∷◌, ◌++◌, map, length, get_or, take, Option, sym, refl, ap, ◌∙◌, subst, take_all, All-nil, All-push, map-append, take_more, AreAnswersOf, cells_by_id, HasAnswerText, Answer, Problem, choice_value, Objective}

-- of no choice there is none
pub AreAnswersOf-none : (objective : Objective) (X : Problem) → AreAnswersOf objective X [] []
AreAnswersOf-none objective X = record { cells = refl; values = refl; texts = All-nil (HasAnswerText objective) }

-- the answer of the choice at a place
pub record IsAnswerOf (objective : Objective) (X : Problem) (choice : List (Option ℕ)) (answer : Answer) : Type 0 where
  pub cells : answer.cells ≡ cells_by_id X choice
  pub value : answer.value ≡ choice_value objective X choice
  pub text : HasAnswerText objective answer

-- is one more
pub AreAnswersOf-more : (objective : Objective) (X : Problem) (choices : List (List (Option ℕ))) (k : ℕ) (answers : List Answer) (choice : List (Option ℕ)) (answer : Answer) → k < length choices → choice ≡ get_or choices k choice → AreAnswersOf objective X (take k choices) answers
    → IsAnswerOf objective X choice answer → AreAnswersOf objective X (take (k + 1) choices) (answers ++ answer ∷ [])
AreAnswersOf-more objective X choices k answers choice answer within is are one = record {
  cells =
      map-append (λ (a : Answer). a.cells) answers (answer ∷ [])
      ∙ (λ i. are.cells i ++ one.cells i ∷ [])
      ∙ sym (map-append (cells_by_id X) (take k choices) (choice ∷ []))
      ∙ ap (map (cells_by_id X)) longer;
  values =
      map-append (λ (a : Answer). a.value) answers (answer ∷ [])
      ∙ (λ i. are.values i ++ one.value i ∷ [])
      ∙ sym (map-append (choice_value objective X) (take k choices) (choice ∷ []))
      ∙ ap (map (choice_value objective X)) longer;
  texts = All-push (HasAnswerText objective) answers answer are.texts one.text;
}
  where
    longer : take k choices ++ choice ∷ [] ≡ take (k + 1) choices
    longer = ap (λ one. take k choices ++ one ∷ []) is ∙ sym (take_more choices k choice within)

-- and in the end all are there
pub AreAnswersOf-all : (objective : Objective) (X : Problem) (choices : List (List (Option ℕ))) (k : ℕ) (answers : List Answer) → length choices ≤ k → AreAnswersOf objective X (take k choices) answers → AreAnswersOf objective X choices answers
AreAnswersOf-all objective X choices k answers all are = subst (λ list. AreAnswersOf objective X list answers) (take_all k choices all) are
