-- Branches whose sums ascend and whose children are shut are a ranking.
use Rattle.asg_sum_ranks.proofs.Common.{◌≡◌, ℕ, zero, suc, ◌+◌, ◌-◌, ◌<◌, ◌≤◌, List, [], ◌∷◌, length, get_or, Contains, sym, refl, ap, ◌∙◌, subst, inl, inr, arith, get_or_default, length-map, IsAnswer, sum_at, Problem, Objective, Branch, columns_of, answers_of, answer_at, AreBranches, AreShut, SumsTo}
use Rattle.asg_dual_bounds.specs.SumRankings.{IsSumRanking}
use Rattle.asg_sum_ranks.proofs.Splits.{IsSplit, split_upto}

-- the answers in turn
pub answer_of : (branches : List Branch) (a : ℕ) → get_or (answers_of branches) a [] ≡ answer_at branches a
answer_of [] a = refl
answer_of (b ∷ bs) zero = refl
answer_of (b ∷ bs) (suc a) = answer_of bs a

module _ (objective : Objective) (X : Problem) (branches : List Branch) (are : AreBranches objective X branches (length branches)) where
  -- the answer at a place, whatever stands past the end
  read : (a : ℕ) (d : List ℕ) → a < length (answers_of branches) → get_or (answers_of branches) a d ≡ answer_at branches a
  read a d below = get_or_default (answers_of branches) a d [] below ∙ answer_of branches a

  many : length (answers_of branches) ≡ length branches
  many = length-map branches columns_of

  split_at : (n : ℕ) → 1 ≤ n → n ≤ length branches → IsSplit objective X branches n
  split_at zero one below = absurd (omega arith)
  split_at (suc k) one below = split_upto objective X branches (length branches) are k (omega arith)

  split : 1 ≤ length branches → IsSplit objective X branches (length branches)
  split some = split_at (length branches) some (omega arith)

  -- an answer that isn't listed has no lesser sum
  unlisted : (least : ℕ) → 1 ≤ length branches → ((a : ℕ) → a < length branches → AreShut objective X branches least a) → (f : List ℕ) → IsAnswer objective X f → ¬ Contains (answers_of branches) f → least ≤ sum_at objective X f
  unlisted least some shut f answer not_listed =
      elim ((split some).cover f answer) [
        | inl (a, below, same) ↦
            let count = many in
            let within : a < length (answers_of branches) = omega arith in
            absurd (not_listed (a, within, read a f within ∙ sym same))
        | inr (e, r, holds) ↦ elim (shut e holds.before r holds.from holds.upto) [
          | inl given ↦ absurd (holds.free given)
          | inr bound ↦ bound f answer holds.within
        ]
      ]

  pub ranking : (count least : ℕ) → 1 ≤ length branches → length branches ≡ count → SumsTo objective X branches (length branches) least → ((a : ℕ) → a < length branches → AreShut objective X branches least a) → IsSumRanking objective X count (answers_of branches)
  ranking count least some same sums shut =
      let number = many in
      let last : least ≡ sum_at objective X (answer_at branches (length branches - 1)) = sums.last_one (length branches - 1) (omega arith) in
      record {
        some = omega arith;
        few = omega arith;
        valid = λ k d below. subst (IsAnswer objective X) (sym (read k d below)) (are.sound k (omega arith)).answer;
        different = λ i j d order below equal.
            let under : i < length (answers_of branches) = omega arith in
            (split some).different i j order (omega arith) (sym (read i d under) ∙ (equal ∙ read j d below));
        ascending = λ a below. subst (λ f. sum_at objective X f ≤ sum_at objective X (get_or (answers_of branches) (a + 1) [])) (sym (answer_of branches a)) (subst (λ f. sum_at objective X (answer_at branches a) ≤ sum_at objective X f) (sym (answer_of branches (a + 1))) (sums.ascends a (omega arith)));
        none_less = λ _ f answer not_listed.
            let place : length (answers_of branches) - 1 ≡ length branches - 1 = omega arith in
            let here : get_or (answers_of branches) (length (answers_of branches) - 1) [] ≡ answer_at branches (length branches - 1) = ap (λ a. get_or (answers_of branches) a []) place ∙ answer_of branches (length branches - 1) in
            subst (λ sum. sum ≤ sum_at objective X f) (last ∙ sym (ap (sum_at objective X) here)) (unlisted least some shut f answer not_listed);
        whole = λ fewer f answer. absurd (omega arith);
      }
