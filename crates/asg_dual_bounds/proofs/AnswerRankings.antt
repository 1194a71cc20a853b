-- Answers whose sums ascend are a ranking.
use Rattle.asg_dual_bounds.proofs.Common.{◌≡◌, ℕ, ◌+◌, ◌-◌, ◌<◌, ◌≤◌, true, ◌≢◌, List, [], map, length, get_or, slice_index_or, Contains, Option, AllPairs, sym, refl, ap, ◌∙◌, subst, arith, All-get_or, All-map, All-weaker, get_or_default, length-map, choice_of, sum_at, IsAnswer, IsPlain, IsInstance, Problem, IsValid, Objective, is_narrow_objective, IsBetterChoice, AreListed, IsRanking, get_or-map}
use Rattle.asg_rankings.specs.Nodes.{answer_at}
use Rattle.asg_rankings.specs.SearchTrees.{last_answer}
use Rattle.asg_dual_bounds.specs.SumRankings.{sum_of_answer, IsSumRanking}
use Rattle.asg_dual_bounds.proofs.AnswerSums.{better_is}
use Rattle.asg_dual_bounds.proofs.PlainChoices.{columns_of, columns-of_choice, columns_from_valid, IsValid-from_answer, answer-from_valid}

module _ (objective : Objective) (X : Problem) (count : ℕ) (answers : List (List ℕ)) (is_sum : is_narrow_objective objective ≡ true) (instance : IsInstance X) (plain : IsPlain X) (ranked : IsSumRanking objective X count answers) where
  abbrev choices : List (List (Option ℕ))
  choices = map choice_of answers

  abbrev answer : ℕ → List ℕ
  answer a = slice_index_or answers a []

  many : length choices ≡ length answers
  many = length-map answers choice_of

  -- answers count from 1
  choice_is : (a i : ℕ) → a - 1 ≡ i → answer_at choices a ≡ choice_of (answer i)
  choice_is a i e = ap (λ (k : ℕ). get_or choices k []) e ∙ get_or-map choice_of answers i []

  is_answer : (a : ℕ) → a < length answers → IsAnswer objective X (answer a)
  is_answer a h = All-get_or (IsAnswer objective X) answers a [] h ranked.valid

  better : (f g : List ℕ) → IsAnswer objective X f → IsAnswer objective X g → IsBetterChoice objective X (choice_of f) (choice_of g) → sum_at objective X f < sum_at objective X g
  better f g is_f is_g b = (better_is objective X is_sum instance f g is_f is_g).0 b

  different : AllPairs ◌≢◌ choices
  different i j d less h e =
      ranked.different i j (columns_of d) less (omega (arith, h, many)) (same i j d (omega (arith, h, less)) h e)
    where
      column : (i : ℕ) (d : List (Option ℕ)) → i < length choices → columns_of (get_or choices i d) ≡ get_or answers i (columns_of d)
      column i d h =
          ap columns_of (get_or_default choices i d [] h ∙ get_or-map choice_of answers i [])
          ∙ columns-of_choice (answer i)
          ∙ get_or_default answers i [] (columns_of d) (omega (arith, h, many))

      same : (i j : ℕ) (d : List (Option ℕ)) → i < length choices → j < length choices → get_or choices i d ≡ get_or choices j d → get_or answers i (columns_of d) ≡ get_or answers j (columns_of d)
      same i j d hi hj e = sym (column i d hi) ∙ ap columns_of e ∙ column j d hj

  in_order : (a : ℕ) → 1 ≤ a → a < length choices → IsBetterChoice objective X (answer_at choices (a + 1)) (answer_at choices a) → ⊥
  in_order a from upto b =
      let later = choice_is (a + 1) a (omega arith) in
      let sooner = choice_is a (a - 1) refl in
      let first = subst (λ f. IsBetterChoice objective X f (answer_at choices a)) later b in
      let both = subst (λ g. IsBetterChoice objective X (choice_of (answer a)) g) sooner first in
      let less = better (answer a) (answer (a - 1)) (is_answer a (omega (arith, upto, many))) (is_answer (a - 1) (omega (arith, upto, many))) both in
      let ascends = ranked.ascending (a - 1) (omega (arith, from, upto, many)) in
      let next : a - 1 + 1 ≡ a = omega (arith, from) in
      let same = ap (λ k. sum_of_answer objective X answers k) next in
      omega (arith, less, ascends, same)

  contains : (h : List ℕ) → Contains answers h → Contains choices (choice_of h)
  contains h at =
      (at.0, omega (arith, at.1, many), get_or-map choice_of answers at.0 h ∙ ap choice_of at.2)

  none_better : length choices ≡ count → (g : List (Option ℕ)) → IsValid X g → (Contains choices g → ⊥) → IsBetterChoice objective X g (last_answer choices) → ⊥
  none_better full g valid other b =
      let e = columns_from_valid X plain g valid in
      let is = answer-from_valid X plain objective (columns_of g) (subst (IsValid X) e valid) in
      let last = choice_is (length choices) (length answers - 1) (ap (λ n. n - 1) many) in
      let first = subst (λ f. IsBetterChoice objective X f (last_answer choices)) e b in
      let both = subst (λ f. IsBetterChoice objective X (choice_of (columns_of g)) f) last first in
      let some = ranked.some in
      let less = better (columns_of g) (answer (length answers - 1)) is (is_answer (length answers - 1) (omega (arith, some))) both in
      let least = ranked.none_less (sym many ∙ full) (columns_of g) is (λ has. other (subst (Contains choices) (sym e) (contains (columns_of g) has))) in
      omega (arith, less, least)

  whole : length choices < count → (g : List (Option ℕ)) → IsValid X g → Contains choices g
  whole few g valid =
      let e = columns_from_valid X plain g valid in
      let is = answer-from_valid X plain objective (columns_of g) (subst (IsValid X) e valid) in
      subst (Contains choices) (sym e) (contains (columns_of g) (ranked.whole (omega (arith, few, many)) (columns_of g) is))

  listed : AreListed objective X count choices
  listed = record {
    some = let some = ranked.some in omega (arith, some, many);
    few = let few = ranked.few in omega (arith, few, many);
    different = different;
    in_order = in_order;
  }

  pub ranking : IsRanking objective X count choices
  ranking = record {
    listed = listed;
    valid = All-map (IsValid X) choice_of answers (All-weaker (IsAnswer objective X) (λ columns. IsValid X (choice_of columns)) (λ columns is. IsValid-from_answer X plain objective columns is) answers ranked.valid);
    none_better = none_better;
    whole = whole;
  }
