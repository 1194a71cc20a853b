-- The first and the last answer of branches that are a ranking.
use Rattle.asg_sum_ranks.proofs.Common.{◌≡◌, ℕ, zero, suc, ◌-◌, ◌<◌, List, [], ◌∷◌, map, length, get_or, Some, Option, sym, refl, ap, ◌∙◌, arith, get_or_default, length-map, same_lists, choice_of, Problem, Objective, Branch, columns_of, answers_of, answer_at}
use Rattle.asg_rankings.specs.Ranked.{IsRanking}
use Rattle.asg_sum_ranks.specs.RankedSums.{AreEnds}
use Rattle.asg_sum_ranks.proofs.Rankings.{answer_of}

choice_at : (answers : List (List ℕ)) (a : ℕ) → get_or (map choice_of answers) a [] ≡ choice_of (get_or answers a [])
choice_at [] a = refl
choice_at (x ∷ xs) zero = refl
choice_at (x ∷ xs) (suc a) = choice_at xs a

-- the choice at a place is that of the branch's answer
choice_of_branch : (branches : List Branch) (a : ℕ) → get_or (map choice_of (answers_of branches)) a [] ≡ choice_of (answer_at branches a)
choice_of_branch branches a = choice_at (answers_of branches) a ∙ ap choice_of (answer_of branches a)

length_choices : (branches : List Branch) → length (map choice_of (answers_of branches)) ≡ length branches
length_choices branches = length-map (answers_of branches) choice_of ∙ length-map branches columns_of

pub ends_are : (objective : Objective) (X : Problem) (count : ℕ) (branches : List Branch) (first last : List (Option ℕ))
    → IsRanking objective X count (map choice_of (answers_of branches)) → length branches ≡ count
    → first ≡ choice_of (answer_at branches 0) → last ≡ choice_of (answer_at branches (length branches - 1)) → AreEnds objective X count first last
ends_are objective X count branches first last ranking many is_first is_last = record {
  choices = map choice_of (answers_of branches);
  ranking = ranking;
  many = sym many ∙ sym (length_choices branches);
  first_one = is_first ∙ sym (choice_of_branch branches 0);
  last_one = is_last ∙ sym (ap (λ n. get_or (map choice_of (answers_of branches)) (n - 1) []) (length_choices branches) ∙ choice_of_branch branches (length branches - 1));
}

-- a choice that gives each row its column of a list
pub is_choice : (choice : List (Option ℕ)) (columns : List ℕ) → length choice ≡ length columns → ((i : ℕ) (d : Option ℕ) → i < length columns → get_or choice i d ≡ Some (get_or columns i 0)) → choice ≡ choice_of columns
is_choice choice columns same each =
    let long = length-map columns Some in
    same_lists choice (choice_of columns) (same ∙ sym long) (λ k d below.
    let under : k < length columns = omega arith in
    let within : k < length (choice_of columns) = omega arith in
    each k d under ∙ sym (get_or_default (choice_of columns) k d (Some 0) within ∙ some_at columns k))
  where
    some_at : (columns : List ℕ) (k : ℕ) → get_or (choice_of columns) k (Some 0) ≡ Some (get_or columns k 0)
    some_at [] k = refl
    some_at (x ∷ xs) zero = refl
    some_at (x ∷ xs) (suc k) = some_at xs k
