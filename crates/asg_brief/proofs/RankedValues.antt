-- All rankings of so many choices of an instance have the same ends.
use Rattle.asg_brief.proofs.Common.{◌≡◌, ℕ, zero, suc, ◌+◌, ◌-◌, ◌<◌, ◌≤◌, ◌≢◌, ◌⊎◌, List, [], ◌∷◌, length, get_or, All, Contains, Option, sym, ap, ◌∙◌, subst, ⊎_elim, arith, All-cons, AllPairs-cons, Contains-get_or, cases_lt, get_or_default, IsBestValue, AreRankedEnds, HasEnds, Problem, IsValid, choice_value, Objective, answer_at, IsBetterChoice, IsRanking, last_answer}
use Rattle.asg_model.specs.Best.{IsBest}
use Rattle.asg_brief.proofs.Pigeonhole.{all_not_not, fewer}
use Rattle.asg_brief.proofs.ValueOrder.{not_better_itself, not_better_trans, same_value}

-- best choices have one value
pub best_values : (objective : Objective) (X : Problem) (f g : List (Option ℕ)) → IsBest objective X f → IsBest objective X g → choice_value objective X f ≡ choice_value objective X g
best_values objective X f g best other = same_value objective X f g (other.none_better f best.valid) (best.none_better g other.valid)

pub IsBestValue-best : (objective : Objective) (X : Problem) (f : List (Option ℕ)) → IsBest objective X f → IsBestValue objective X (choice_value objective X f)
IsBestValue-best objective X f best = record { choice = f; best = best; each = λ g other. best_values objective X g f other best }

module _ (objective : Objective) (X : Problem) (count : ℕ) where
  abbrev Better : List (Option ℕ) → List (Option ℕ) → Type 0
  Better f g = IsBetterChoice objective X f g

  -- the number of an answer
  number_of : (answers : List (List (Option ℕ))) (g : List (Option ℕ)) (there : Contains answers g) → answer_at answers (there.0 + 1) ≡ g
  number_of answers g there =
      ap (λ j. get_or answers j []) (let e : there.0 + 1 - 1 ≡ there.0 = omega arith in e) ∙ get_or_default answers there.0 [] g there.1 ∙ there.2

  module _ (answers : List (List (Option ℕ))) (ranking : IsRanking objective X count answers) where
    valid_at : (a : ℕ) → 1 ≤ a → a ≤ length answers → IsValid X (answer_at answers a)
    valid_at a from upto = ranking.valid (a - 1) [] (omega (arith, from, upto))

    -- no later answer is better
    rises : (a d : ℕ) → 1 ≤ a → a + d ≤ length answers → ¬ Better (answer_at answers (a + d)) (answer_at answers a)
    rises a zero from upto =
        subst (λ b. ¬ Better (answer_at answers b) (answer_at answers a)) (let e : a ≡ a + 0 = omega arith in e) (not_better_itself objective X (answer_at answers a))
    rises a (suc d) from upto =
        let rest = rises a d from (omega (arith, upto)) in
        let step = ranking.listed.in_order (a + d) (omega (arith, from)) (omega (arith, upto)) in
        subst (λ b. ¬ Better (answer_at answers b) (answer_at answers a)) (let e : a + d + 1 ≡ a + suc d = omega arith in e)
        (not_better_trans objective X (answer_at answers a) (answer_at answers (a + d)) (answer_at answers (a + d + 1)) rest step)

    rises_to : (a b : ℕ) → 1 ≤ a → a ≤ b → b ≤ length answers → ¬ Better (answer_at answers b) (answer_at answers a)
    rises_to a b from order upto =
        subst (λ c. ¬ Better (answer_at answers c) (answer_at answers a)) (let e : a + (b - a) ≡ b = omega (arith, order) in e) (rises a (b - a) from (omega (arith, order, upto)))

    -- the last answer isn't better than any
    last_not_better_than : (g : List (Option ℕ)) → Contains answers g → ¬ Better (last_answer answers) g
    last_not_better_than g there =
        let within = there.1 in
        subst (λ f. ¬ Better (last_answer answers) f) (number_of answers g there) (rises_to (there.0 + 1) (length answers) (omega arith) (omega (arith, within)) (omega arith))

    -- and none is better than the first
    not_better_than_first : (g : List (Option ℕ)) → Contains answers g → ¬ Better g (answer_at answers 1)
    not_better_than_first g there =
        let within = there.1 in
        subst (λ f. ¬ Better f (answer_at answers 1)) (number_of answers g there) (rises_to 1 (there.0 + 1) (omega arith) (omega arith) (omega (arith, within)))

    -- the first answer is a best choice
    pub first_best : IsBest objective X (answer_at answers 1)
    first_best = record {
      valid = valid_at 1 (omega arith) ranking.listed.some;
      none_better = λ g valid_g better.
          let other : ¬ Contains answers g = λ there. not_better_than_first g there better in
          ⊎_elim
          (λ (less : length answers < count). other (ranking.whole less g valid_g))
          (λ (full : count ≤ length answers).
          let few = ranking.listed.few in
          not_better_trans objective X (answer_at answers 1) (last_answer answers) g (rises_to 1 (length answers) (omega arith) ranking.listed.some (omega arith))
          (ranking.none_better (omega (arith, full, few)) g valid_g other) better)
          (cases_lt (length answers) count);
    }

    -- a valid choice that isn't listed isn't better than the last answer
    not_listed : (g : List (Option ℕ)) → IsValid X g → ¬ Contains answers g → ¬ Better g (last_answer answers)
    not_listed g valid_g other =
        ⊎_elim
        (λ (less : length answers < count). absurd (other (ranking.whole less g valid_g)))
        (λ (full : count ≤ length answers). let few = ranking.listed.few in ranking.none_better (omega (arith, full, few)) g valid_g other)
        (cases_lt (length answers) count)

  -- a ranking of fewer choices than were asked for has as many as any
  shorter : (answers others : List (List (Option ℕ))) → IsRanking objective X count answers → IsRanking objective X count others → length answers < count → length others ≤ length answers
  shorter answers others ranking ranked less = fewer others answers ranked.listed.different (λ k d within. ranking.whole less (get_or others k d) (ranked.valid k d within))

  as_many : (answers others : List (List (Option ℕ))) → IsRanking objective X count answers → IsRanking objective X count others → length others ≡ length answers
  as_many answers others ranking ranked =
      let few = ranking.listed.few in
      let few_others = ranked.listed.few in
      ⊎_elim
      (λ (less : length answers < count).
      let upto : length others ≤ length answers = shorter answers others ranking ranked less in
      let from : length answers ≤ length others = shorter others answers ranked ranking (omega (arith, upto, less)) in
      omega (arith, upto, from))
      (λ (full : count ≤ length answers).
      ⊎_elim
      (λ (less : length others < count).
      let from : length answers ≤ length others = shorter others answers ranked ranking less in
      absurd (omega (arith, from, less, full)))
      (λ (full_others : count ≤ length others). omega (arith, few, few_others, full, full_others))
      (cases_lt (length others) count))
      (cases_lt (length answers) count)

  -- the last answer of one ranking isn't better than that of another
  last_not_better : (answers others : List (List (Option ℕ))) → IsRanking objective X count answers → IsRanking objective X count others → ¬ Better (last_answer others) (last_answer answers)
  last_not_better answers others ranking ranked better = all_not_not (Contains answers) others each all_listed
    where
      each : (k : ℕ) (d : List (Option ℕ)) → k < length others → ¬ ¬ Contains answers (get_or others k d)
      each k d within other =
          let g = get_or others k d in
          let there : Contains others g = Contains-get_or others k d within in
          not_better_trans objective X (last_answer answers) g (last_answer others)
          (not_listed answers ranking g (ranked.valid k d within) other)
          (last_not_better_than others ranked g there) better

      last_listed : Contains answers (last_answer answers)
      last_listed = let some = ranking.listed.some in Contains-get_or answers (length answers - 1) [] (omega (arith, some))

      last_there : All (Contains answers) others → ¬ ¬ Contains others (last_answer answers)
      last_there all other =
          let last = last_answer answers in
          let apart : All (λ g. last ≢ g) others = λ k d within e. other (k, within, get_or_default others k last d within ∙ sym e) in
          let more : length (last ∷ others) ≤ length answers = fewer (last ∷ others) answers (AllPairs-cons ◌≢◌ last others apart ranked.listed.different) (All-cons (Contains answers) last others last_listed all) in
          let same = as_many answers others ranking ranked in
          omega (arith, more, same)

      all_listed : ¬ All (Contains answers) others
      all_listed all = last_there all (λ there. last_not_better_than others ranked (last_answer answers) there better)

  -- a ranking has the ends of any other
  pub same_ends : (answers others : List (List (Option ℕ))) → IsRanking objective X count answers → IsRanking objective X count others
      → HasEnds objective X (length answers) (choice_value objective X (answer_at answers 1)) (choice_value objective X (last_answer answers)) others
  same_ends answers others ranking ranked = record {
    many = as_many answers others ranking ranked;
    first_value = best_values objective X (answer_at others 1) (answer_at answers 1) (first_best others ranked) (first_best answers ranking);
    last_value = same_value objective X (last_answer others) (last_answer answers) (last_not_better answers others ranking ranked) (last_not_better others answers ranked ranking);
  }

  pub AreRankedEnds-ranking : (answers : List (List (Option ℕ))) → IsRanking objective X count answers
      → AreRankedEnds objective X count (length answers) (choice_value objective X (answer_at answers 1)) (choice_value objective X (last_answer answers))
  AreRankedEnds-ranking answers ranking = record {
    choices = answers;
    ranking = ranking;
    each = λ others ranked. same_ends answers others ranking ranked;
  }
