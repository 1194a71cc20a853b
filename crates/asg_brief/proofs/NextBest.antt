-- Answers that are each best of those that are left are a ranking.
use Rattle.asg_brief.proofs.Common.{◌≡◌, ℕ, ◌+◌, ◌-◌, ◌<◌, ◌≤◌, ◌≢◌, ◌⊎◌, List, [], length, get_or, Contains, Option, sym, ap, ◌∙◌, subst, ⊎_elim, arith, get_or_default, Problem, IsValid, Objective, IsExhausted, answer_at, IsNextBest, IsRanking}

-- each answer is best among the valid choices that those before it left
abbrev pub AreNextBest : Objective → Problem → List (List (Option ℕ)) → Type 0
AreNextBest objective X answers = (a : ℕ) → 1 ≤ a → a ≤ length answers → IsNextBest objective X answers a

module _ (objective : Objective) (X : Problem) (count : ℕ) (answers : List (List (Option ℕ))) (next : AreNextBest objective X answers) where
  -- the element at a place is the answer of the number above it
  placed_at : (k : ℕ) (d : List (Option ℕ)) → k < length answers → answer_at answers (k + 1) ≡ get_or answers k d
  placed_at k d within = ap (λ j. get_or answers j []) (let e : k + 1 - 1 ≡ k = omega arith in e) ∙ get_or_default answers k [] d within

  -- answers before one that isn't listed are other ones
  others : (g : List (Option ℕ)) → ¬ Contains answers g → (b : ℕ) → 1 ≤ b → b ≤ length answers → answer_at answers b ≢ g
  others g other b from upto same =
      let within : b - 1 < length answers = omega (arith, from, upto) in
      other (b - 1, within, get_or_default answers (b - 1) g [] within ∙ same)

  pub ranking_of_next : 1 ≤ length answers → length answers ≤ count → IsExhausted X count answers → IsRanking objective X count answers
  ranking_of_next some few done = record {
    listed = record {
      some = some;
      few = few;
      different = λ i j d less within same.
          (next (j + 1) (omega arith) (omega (arith, within))).apart (i + 1) (omega arith) (omega (arith, less))
          (placed_at i d (omega (arith, less, within)) ∙ same ∙ sym (placed_at j d within));
      in_order = λ a from upto.
          (next a from (omega (arith, upto))).none_better (answer_at answers (a + 1)) (next (a + 1) (omega arith) (omega (arith, upto))).valid
          (λ b from_b less same. (next (a + 1) (omega arith) (omega (arith, upto))).apart b from_b (omega (arith, less)) same);
    };
    valid = λ k d within. subst (IsValid X) (placed_at k d within) (next (k + 1) (omega arith) (omega (arith, within))).valid;
    none_better = λ full g valid_g other.
        (next (length answers) some (omega arith)).none_better g valid_g (λ b from less. others g other b from (omega (arith, less)));
    whole = λ fewer g valid_g.
        ⊎_elim
        (λ (full : length answers ≡ count). absurd (omega (arith, fewer, full)))
        (λ (all : (h : List (Option ℕ)) → IsValid X h → Contains answers h). all g valid_g)
        done;
  }
