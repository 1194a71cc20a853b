-- What the next answer is, by the objective.
use Rattle.asg_rank.proofs.Common.{◌≡◌, ℕ, ◌+◌, ◌-◌, ◌^◌, ◌<◌, ◌≤◌, ◌≢◌, ◌↔◌, List, [], ◌∷◌, ◌++◌, length, get_or, All, Contains, Option, AllPairs, sym, ap, ◌∙◌, subst, inl, inr, ⊎_elim, arith, Contains-get_or, false≢true, get_or-append_seam, get_or_append_left, get_or_default, IsLeastNew, placed, Problem, IsValid, Objective, Rules, choice_fold, IsLe, IsLess, GivesLeast, Gives, answer_room, Next, Answer, Done, answer_at, IsBetterChoice, IsNextBest, length-append}

-- the bridge between better choices and lesser products, of an instance
abbrev pub IsBridged : {V : Type 0} → Rules V → Objective → Problem → Type 0
IsBridged R objective X = (f g : List (Option ℕ)) → IsValid X f → IsValid X g
    → IsBetterChoice objective X f g ↔ IsLess R.monoid (choice_fold R.monoid R.enter X f) (choice_fold R.monoid R.enter X g)

-- answer number a of a list is its element at the place before
pub at_number : (given : List (List (Option ℕ))) (a : ℕ) → answer_at given (a + 1) ≡ get_or given a []
at_number given a = ap (λ k. get_or given k []) (let e : a + 1 - 1 ≡ a = omega arith in e)

-- as many as there is room for are as many as were asked for
pub all_asked : (X : Problem) → ((choices : List (List (Option ℕ))) → All (IsValid X) choices → AllPairs ◌≢◌ choices → length choices ≤ length X.columns ^ placed X) → (count : ℕ) (given : List (List (Option ℕ))) → All (IsValid X) given → AllPairs ◌≢◌ given → length given ≡ answer_room X count → length given ≡ count
all_asked X few count given valid different is = let most = few given valid different in omega (arith, most, is)

module _ {V : Type 0} (R : Rules V) (objective : Objective) (X : Problem) (bridge : IsBridged R objective X) where
  -- a choice that is worth at most another one isn't beaten by it
  pub not_better : (f g : List (Option ℕ)) → IsValid X f → IsValid X g → IsLe R.monoid (choice_fold R.monoid R.enter X f) (choice_fold R.monoid R.enter X g) → ¬ IsBetterChoice objective X g f
  not_better f g valid_f valid_g le better = false≢true (sym ((bridge g f valid_g valid_f).0 better) ∙ le)

  next_best : (before : List (List (Option ℕ))) (f : List (Option ℕ)) → IsLeastNew R X before f → IsNextBest objective X (before ++ f ∷ []) (length before + 1)
  next_best before f least =
      let here : answer_at (before ++ f ∷ []) (length before + 1) ≡ f = at_number (before ++ f ∷ []) (length before) ∙ get_or-append_seam before f [] [] in
      let old : (b : ℕ) → b < length before → answer_at (before ++ f ∷ []) (b + 1) ≡ get_or before b [] = λ b h. at_number (before ++ f ∷ []) b ∙ get_or_append_left before (f ∷ []) [] b h in
      record {
        valid = subst (IsValid X) (sym here) least.valid;
        apart = λ b from less same.
            let place : b ≡ b - 1 + 1 = omega (arith, from) in
            let low : b - 1 < length before = omega (arith, from, less) in
            let is : get_or before (b - 1) [] ≡ f = sym (old (b - 1) low) ∙ ap (answer_at (before ++ f ∷ [])) (sym place) ∙ same ∙ here in
            least.new (subst (Contains before) is (Contains-get_or before (b - 1) [] low));
        none_better = λ g valid_g others.
            subst (λ h. ¬ IsBetterChoice objective X g h) (sym here)
            (not_better f g least.valid valid_g (least.least g valid_g
            (λ (there : Contains before g).
            let low = there.1 in
            others (there.0 + 1) (omega arith) (omega (arith, low)) (old there.0 low ∙ get_or_default before there.0 [] g low ∙ there.2))));
      }

  module _ (few : (choices : List (List (Option ℕ))) → All (IsValid X) choices → AllPairs ◌≢◌ choices → length choices ≤ length X.columns ^ placed X) where
    -- what the next answer is by the objective
    pub gives : (count : ℕ) (before after : List (List (Option ℕ))) (result : Next) → All (IsValid X) before → AllPairs ◌≢◌ before → GivesLeast R X (answer_room X count) before after result → Gives objective X count before after result
    gives count before after (Answer number) valid different is =
        let one = is.2 in
        let appended : after ≡ before ++ one.choice ∷ [] = one.appended in
        let count_is : length after ≡ length before + 1 = ap (λ (xs : List (List (Option ℕ))). length xs) appended ∙ (let e : length (before ++ one.choice ∷ []) ≡ length before + 1 = omega (arith, length-append before (one.choice ∷ [])) in e) in
        let fits = is.1 in (
          is.0,
          omega (arith, fits),
          (one.choice, appended),
          subst (λ a. IsNextBest objective X after a) (sym (is.0 ∙ count_is)) (subst (λ xs. IsNextBest objective X xs (length before + 1)) (sym appended) (next_best before one.choice one.least)),
        )
    gives count before after Done valid different is = (
      is.0,
      ⊎_elim
          (λ (full : length before ≡ answer_room X count). inl (all_asked X few count before valid different full))
          (λ (every : (g : List (Option ℕ)) → IsValid X g → Contains before g). inr every)
          is.1,
    )
