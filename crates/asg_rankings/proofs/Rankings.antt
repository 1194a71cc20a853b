-- Answers of a search tree are a ranking by an objective whose order the monoid keeps, and each is
-- best among the choices that those before it left.
use Rattle.asg_rankings.proofs.Common.{◌≡◌, ℕ, zero, suc, ◌+◌, ◌-◌, ◌<◌, ◌≤◌, Bool, true, false, ◌⊎◌, ◌↔◌, List, [], length, get_or, All, Contains, Option, sym, ap, ◌∙◌, subst, ⊎_elim, arith, IfSome_then, cases_Bool, cases_lt, false≢true, get_or_default, IsInstance, live_at, Problem, PassesNegative, IsValid, Objective, Cost, Bridges, choice_fold, MayEnter, Monoid, IsValue, IsLe, IsOrderedMonoid, Word, EntersValues, answer_at, IsBetterChoice, AreListed, IsRanking, IsNextBest, last_answer, IsSearchTree, Node}
use Rattle.asg_model.specs.Limits.{most_cost}
use Rattle.asg_proof.specs.laws.LiveCosts.{lies_within, costs_may_enter}
use Rattle.asg_rankings.proofs.RankingLaw.{choice_fold_is_value}
use Rattle.asg_model.specs.declared.parts.Place.TheVariants.{All as PlaceAll}
use Rattle.asg_order.specs.laws.Orders.{reflexive as le_reflexive}

module _ (objective : Objective) (X : Problem) (count : ℕ) (answers : List (List (Option ℕ)))
    {V : Type 0} (is_le : V → V → Bool) (product_of : List (Option ℕ) → V)
    (reflexive : (f : List (Option ℕ)) → is_le (product_of f) (product_of f) ≡ true)
    (transitive : (f g h : List (Option ℕ)) → is_le (product_of f) (product_of g) ≡ true → is_le (product_of g) (product_of h) ≡ true → is_le (product_of f) (product_of h) ≡ true)
    (bridge : (f g : List (Option ℕ)) → IsValid X f → IsValid X g → IsBetterChoice objective X f g ↔ (is_le (product_of g) (product_of f) ≡ false))
    (listed : AreListed objective X count answers) (valid : All (IsValid X) answers)
    (accounted : (g : List (Option ℕ)) → IsValid X g → Contains answers g ⊎ ((count ≤ length answers) × (is_le (product_of (last_answer answers)) (product_of g) ≡ true)))
  where
    not_better : (f g : List (Option ℕ)) → IsValid X f → IsValid X g → is_le (product_of g) (product_of f) ≡ true → ¬ IsBetterChoice objective X f g
    not_better f g valid_f valid_g le better = false≢true (sym ((bridge f g valid_f valid_g).0 better) ∙ le)

    le_from_not_better : (f g : List (Option ℕ)) → IsValid X f → IsValid X g → ¬ IsBetterChoice objective X f g → is_le (product_of g) (product_of f) ≡ true
    le_from_not_better f g valid_f valid_g not =
        ⊎_elim (λ (e : is_le (product_of g) (product_of f) ≡ true). e)
        (λ (e : is_le (product_of g) (product_of f) ≡ false). absurd (not ((bridge f g valid_f valid_g).1 e)))
        (cases_Bool (is_le (product_of g) (product_of f)))

    valid_at : (a : ℕ) → 1 ≤ a → a ≤ length answers → IsValid X (answer_at answers a)
    valid_at a from upto = valid (a - 1) [] (omega (arith, from, upto))

    last_valid : IsValid X (last_answer answers)
    last_valid = valid_at (length answers) listed.some (omega arith)

    -- the answers are a ranking
    pub ranking : IsRanking objective X count answers
    ranking = record {
      listed = listed;
      valid = valid;
      none_better = λ full g valid_g other.
          ⊎_elim
          (λ (there : Contains answers g). absurd (other there))
          (λ (rest : (count ≤ length answers) × (is_le (product_of (last_answer answers)) (product_of g) ≡ true)).
          not_better g (last_answer answers) valid_g last_valid rest.1)
          (accounted g valid_g);
      whole = λ fewer g valid_g.
          ⊎_elim
          (λ (there : Contains answers g). there)
          (λ (rest : (count ≤ length answers) × (is_le (product_of (last_answer answers)) (product_of g) ≡ true)).
          absurd (let full = rest.0 in omega (arith, fewer, full)))
          (accounted g valid_g);
    }

    -- each answer's product is at most those of later ones
    rises : (a d : ℕ) → 1 ≤ a → a + d ≤ length answers → is_le (product_of (answer_at answers a)) (product_of (answer_at answers (a + d))) ≡ true
    rises a zero from upto = subst (λ b. is_le (product_of (answer_at answers a)) (product_of (answer_at answers b)) ≡ true) (let e : a ≡ a + 0 = omega arith in e) (reflexive (answer_at answers a))
    rises a (suc d) from upto =
        let rest = rises a d from (omega (arith, upto)) in
        let step = le_from_not_better (answer_at answers (a + d + 1)) (answer_at answers (a + d)) (valid_at (a + d + 1) (omega arith) (omega (arith, upto))) (valid_at (a + d) (omega (arith, from)) (omega (arith, upto))) (listed.in_order (a + d) (omega (arith, from)) (omega (arith, upto))) in
        let whole = transitive (answer_at answers a) (answer_at answers (a + d)) (answer_at answers (a + d + 1)) rest step in
        subst (λ b. is_le (product_of (answer_at answers a)) (product_of (answer_at answers b)) ≡ true) (let e : a + d + 1 ≡ a + suc d = omega arith in e) whole

    rises_to : (a b : ℕ) → 1 ≤ a → a ≤ b → b ≤ length answers → is_le (product_of (answer_at answers a)) (product_of (answer_at answers b)) ≡ true
    rises_to a b from order upto =
        subst (λ c. is_le (product_of (answer_at answers a)) (product_of (answer_at answers c)) ≡ true) (let e : a + (b - a) ≡ b = omega (arith, order) in e) (rises a (b - a) from (omega (arith, order, upto)))

    -- each answer is best among the valid choices that those before it left
    pub next_best : (a : ℕ) → 1 ≤ a → a ≤ length answers → IsNextBest objective X answers a
    next_best a from upto = record {
      valid = valid_at a from upto;
      apart = λ b from_b less same. listed.different (b - 1) (a - 1) [] (omega (arith, from_b, less)) (omega (arith, from, upto)) same;
      none_better = λ g valid_g other.
          ⊎_elim
          (λ (there : Contains answers g).
          let k = there.0 in
          let is : answer_at answers (k + 1) ≡ g = ap (λ j. get_or answers j []) (let e : k + 1 - 1 ≡ k = omega arith in e) ∙ get_or_default answers k [] g there.1 ∙ there.2 in
          ⊎_elim
          (λ (before : k + 1 < a). absurd (other (k + 1) (omega arith) before is))
          (λ (from_a : a ≤ k + 1).
          not_better g (answer_at answers a) valid_g (valid_at a from upto)
          (subst (λ f. is_le (product_of (answer_at answers a)) (product_of f) ≡ true) is (rises_to a (k + 1) from from_a (omega (arith, there.1)))))
          (cases_lt (k + 1) a))
          (λ (rest : (count ≤ length answers) × (is_le (product_of (last_answer answers)) (product_of g) ≡ true)).
          not_better g (answer_at answers a) valid_g (valid_at a from upto)
          (transitive (answer_at answers a) (last_answer answers) g (rises_to a (length answers) from upto (omega arith)) rest.1))
          (accounted g valid_g);
    }

-- what search trees give: valid answers
abbrev pub GivesValid : {V : Type 0} → Monoid V → (V → V → V) → (V → Word) → Type 0
GivesValid {V} M difference word_of =
    (enter : Cost → V) (X : Problem) (count : ℕ) (answers : List (List (Option ℕ))) (nodes : List Node)
    → IsInstance X → X.place ≡ PlaceAll → EntersValues M enter X → IsSearchTree M difference word_of enter X count answers nodes → All (IsValid X) answers

-- and an account of each valid choice
abbrev pub GivesAll : {V : Type 0} → Monoid V → (V → V → V) → (V → Word) → Type 0
GivesAll {V} M difference word_of =
    (enter : Cost → V) (X : Problem) (count : ℕ) (answers : List (List (Option ℕ))) (nodes : List Node) (g : List (Option ℕ))
    → IsInstance X → X.place ≡ PlaceAll → EntersValues M enter X → IsSearchTree M difference word_of enter X count answers nodes → IsValid X g
    → Contains answers g ⊎ ((count ≤ length answers) × IsLe M (choice_fold M enter X (last_answer answers)) (choice_fold M enter X g))

module _ {V : Type 0} (M : Monoid V) (laws : IsOrderedMonoid M) (difference : V → V → V) (word_of : V → Word)
    (objective : Objective) (enter : Cost → V) (reach : ℕ) (bridges : Bridges M enter objective reach)
    (enters : (cost : Cost) → MayEnter objective reach cost → IsValue M (enter cost))
    (X : Problem) (count : ℕ) (answers : List (List (Option ℕ))) (nodes : List Node)
    (instance : IsInstance X) (all : X.place ≡ PlaceAll) (passes : PassesNegative objective X) (far : most_cost ≤ reach)
    (listed : AreListed objective X count answers) (tree : IsSearchTree M difference word_of enter X count answers nodes)
    (valid : GivesValid M difference word_of)
    (accounted : GivesAll M difference word_of)
  where
    enters_values : EntersValues M enter X
    enters_values r c = IfSome_then (live_at X r c) (costs_may_enter objective reach X far instance passes r c) enters

    value_of : (f : List (Option ℕ)) → IsValue M (choice_fold M enter X f)
    value_of f = choice_fold_is_value M laws enter X f enters_values

    pub kind_ranking : IsRanking objective X count answers
    kind_ranking =
        ranking objective X count answers M.is_le (choice_fold M enter X)
        (λ f. le_reflexive M laws (choice_fold M enter X f) (value_of f))
        (λ f g h. laws.transitive (choice_fold M enter X f) (choice_fold M enter X g) (choice_fold M enter X h) (value_of f) (value_of g) (value_of h))
        (λ f g. bridges X f g instance.well_formed.few_rows (lies_within reach X far instance) passes)
        listed (valid enter X count answers nodes instance all enters_values tree)
        (λ g. accounted enter X count answers nodes g instance all enters_values tree)

    pub kind_next_best : (a : ℕ) → 1 ≤ a → a ≤ length answers → IsNextBest objective X answers a
    kind_next_best =
        next_best objective X count answers M.is_le (choice_fold M enter X)
        (λ f. le_reflexive M laws (choice_fold M enter X f) (value_of f))
        (λ f g h. laws.transitive (choice_fold M enter X f) (choice_fold M enter X g) (choice_fold M enter X h) (value_of f) (value_of g) (value_of h))
        (λ f g. bridges X f g instance.well_formed.few_rows (lies_within reach X far instance) passes)
        listed (valid enter X count answers nodes instance all enters_values tree)
        (λ g. accounted enter X count answers nodes g instance all enters_values tree)
