-- Reasons that stand at parts: what tells of the first, and that such a reason is tested where each
-- part is.
use mathlib.Core.Logic.Dec.{of_iff}
use Rattle.std.proofs.Common.{◌≡◌, ℕ, suc, ◌+◌, ◌<◌, ◌≤◌, refl, sym, ap, subst, ◌∙◌, List, ◌∷◌, ◌⊎◌, inl, inr, ⊎_elim, Option, Some, None, arith}
use Rattle.std.specs.Prelude.{ℤ, pos, ◌≤ℤ◌, slice_get}
use Rattle.std.proofs.lemmas.Bool.{cases_lt}
use Rattle.std.proofs.lemmas.Int.{ints}
use Rattle.std.proofs.lemmas.Option.{none-some, same_Some}
use Rattle.asg_verdicts.specs.declared.verdicts.Reason.{Reason}
use Rattle.asg_verdicts.specs.declared.verdicts.Verdict.{Verdict}
use Rattle.asg_verdicts.specs.declared.verdicts.Verdict.TheVariants.{No}
use Rattle.asg_verdicts.specs.Verdicts.{IsToldOf, Tells, reason_number}
use Rattle.asg_verdicts.specs.Spots.{At, AtParts, IsFirstPart, IsNoLater, Overall, Spot}
use Rattle.asg_verdicts.specs.laws.ToldReasons.{Nowhere, Tested, least_below}

-- ---- a reason that stands at the number of each n at which a fact holds, and maybe for the whole

module _ (Against : Spot → Type 0) (Fails : ℕ → Type 0) (number : ℕ → ℕ) (up : (m n : ℕ) → m ≤ n → number m ≤ number n) (stands : (n : ℕ) → Fails n → Against (At (pos (number n)))) (found : (place : ℤ) → Against (At place) → (n : ℕ) × (place ≡ pos (number n)) × Fails n) where
  pub first_told : (reason : Reason) (n : ℕ) → Fails n → ((m : ℕ) → m < n → ¬ Fails m) → IsToldOf Against reason (No (reason_number reason) (pos (number n)))
  first_told reason n fails first = record { spot = At (pos (number n)); stands = stands n fails; least = least; told = refl }
    where
      no_later : (m : ℕ) → n ≤ m → pos (number n) ≤ℤ pos (number m)
      no_later m le = let above = up n m le in omega (arith, ints, above)

      least : (other : Spot) → Against other → IsNoLater (At (pos (number n))) other
      least Overall there = tt
      least (At place) there =
          let one = found place there in
          subst (λ p. pos (number n) ≤ℤ p) (sym one.1) (⊎_elim (λ (before : one.0 < n). absurd (first one.0 before one.2)) (λ (past : n ≤ one.0). no_later one.0 past) (cases_lt one.0 n))

  pub whole_told : (reason : Reason) → ((n : ℕ) → ¬ Fails n) → Against Overall → IsToldOf Against reason (No (reason_number reason) (pos 0))
  whole_told reason none whole = record { spot = Overall; stands = whole; least = least; told = refl }
    where
      least : (other : Spot) → Against other → IsNoLater Overall other
      least Overall there = tt
      least (At place) there = let one = found place there in absurd (none one.0 one.2)

  pub none_there : ((n : ℕ) → ¬ Fails n) → ¬ Against Overall → Nowhere Against
  none_there none whole Overall = whole
  none_there none whole (At place) = λ there. let one = found place there in none one.0 one.2

  pub tested_parts : (reason : Reason) (bound : ℕ) → ((n : ℕ) → Fails n → n < bound) → ((n : ℕ) → Dec (Fails n)) → Dec (Against Overall) → Tested Against reason
  tested_parts reason bound within each whole = by (least_below Fails each bound)
    where
      past : ((k : ℕ) → k < bound → ¬ Fails k) → (n : ℕ) → ¬ Fails n
      past none n fails = none n (within n fails) fails

      overall : ((n : ℕ) → ¬ Fails n) → Dec (Against Overall) → Tested Against reason
      overall none (yes there) = inl (No (reason_number reason) (pos 0), whole_told reason none there)
      overall none (no fails) = inr (none_there none fails)

      by : ((k : ℕ) × (k < bound) × Fails k × ((m : ℕ) → m < k → ¬ Fails m)) ⊎ ((k : ℕ) → k < bound → ¬ Fails k) → Tested Against reason
      by (inl one) = inl (No (reason_number reason) (pos (number one.0)), first_told reason one.0 one.2 one.3)
      by (inr none) = overall (past none) whole

-- ---- a reason that stands at parts of a list

module _ (Fails : ℕ → Type 0) where
  up_parts : (m n : ℕ) → m ≤ n → suc m ≤ suc n
  up_parts m n le = omega (arith, le)

  pub first_part : (reason : Reason) (n : ℕ) → Fails n → ((m : ℕ) → m < n → ¬ Fails m) → IsToldOf (AtParts Fails) reason (No (reason_number reason) (pos (suc n)))
  first_part = first_told (AtParts Fails) Fails suc up_parts (λ n fails. (n, refl, fails)) (λ place there. there)

  pub no_part : ((n : ℕ) → ¬ Fails n) → Nowhere (AtParts Fails)
  no_part none = none_there (AtParts Fails) Fails suc up_parts (λ n fails. (n, refl, fails)) (λ place there. there) none (λ there. there)

  pub none_at_part : Nowhere (AtParts Fails) → (n : ℕ) → ¬ Fails n
  none_at_part none n fails = none (At (pos (suc n))) (n, refl, fails)

  pub tested_part : (reason : Reason) (bound : ℕ) → ((n : ℕ) → Fails n → n < bound) → ((n : ℕ) → Dec (Fails n)) → Tested (AtParts Fails) reason
  tested_part reason bound within each =
      tested_parts (AtParts Fails) Fails suc up_parts (λ n fails. (n, refl, fails)) (λ place there. there) reason bound within each (no (λ there. there))

-- ---- the first place at which something holds

module _ (Fails : ℕ → Type 0) where
  pub none_more : (n : ℕ) → ((m : ℕ) → m < n → ¬ Fails m) → ¬ Fails n → (m : ℕ) → m < n + 1 → ¬ Fails m
  none_more n before here m less =
      ⊎_elim (λ (early : m < n). before m early) (λ (late : n ≤ m). let same : n ≡ m = omega (arith, less, late) in subst (λ k. ¬ Fails k) same here) (cases_lt m n)

  pub none_at_all : (count : ℕ) → ((n : ℕ) → Fails n → n < count) → ((m : ℕ) → m < count → ¬ Fails m) → (n : ℕ) → ¬ Fails n
  none_at_all count within before n fails = before n (within n fails) fails

-- ---- what is told of a reason that stands at parts, and of those after it

module _ (Against : Reason → Spot → Type 0) (Fails : ℕ → Type 0) (reason : Reason) (of : Against reason ≡ AtParts Fails) (rest : List Reason) (verdict : Verdict) where
  -- at the first part of which the reason holds
  pub stops : (n : ℕ) → Fails n → ((m : ℕ) → m < n → ¬ Fails m) → verdict ≡ No (reason_number reason) (pos (n + 1)) → Tells Against (reason ∷ rest) verdict
  stops n fails first is =
      let place : n + 1 ≡ suc n = omega arith in
      inl (subst (λ R. IsToldOf R reason verdict) (sym of)
      (subst (IsToldOf (AtParts Fails) reason) (sym (is ∙ ap (λ k. No (reason_number reason) (pos k)) place)) (first_part Fails reason n fails first)))

  pub stops_at : (count n : ℕ) → IsFirstPart Fails count (Some n) → verdict ≡ No (reason_number reason) (pos (n + 1)) → Tells Against (reason ∷ rest) verdict
  stops_at count n first is = stops n first.1 first.2 is

  -- or what is told after it
  pub goes_on : ((n : ℕ) → ¬ Fails n) → Tells Against rest verdict → Tells Against (reason ∷ rest) verdict
  goes_on none told = inr (λ spot stands. no_part Fails none spot (subst (λ R. R spot) of stands), told)

-- ---- the same reason by another fact

module _ (Against Other : Spot → Type 0) (to : (spot : Spot) → Against spot → Other spot) (from : (spot : Spot) → Other spot → Against spot) (reason : Reason) where
  pub told_for : (verdict : Verdict) → IsToldOf Against reason verdict → IsToldOf Other reason verdict
  told_for verdict one = record { spot = one.spot; stands = to one.spot one.stands; least = λ other stands. one.least other (from other stands); told = one.told }

  pub nowhere_for : Nowhere Against → Nowhere Other
  nowhere_for none spot stands = none spot (from spot stands)

  pub tested_for : Tested Against reason → Tested Other reason
  tested_for (inl one) = inl (one.0, told_for one.0 one.1)
  tested_for (inr none) = inr (nowhere_for none)

-- ---- tests

pub dec_le : (a b : ℕ) → Dec (a ≤ b)
dec_le a b = by (cases_lt b a)
  where
    by : (b < a) ⊎ (a ≤ b) → Dec (a ≤ b)
    by (inl less) = no (λ le. absurd (omega (arith, less, le)))
    by (inr le) = yes le

pub dec_implies : {A B : Type 0} → Dec A → Dec B → Dec (A → B)
dec_implies (no none) b = yes (λ x. absurd (none x))
dec_implies (yes x) (yes y) = yes (λ _. y)
dec_implies (yes x) (no none) = no (λ f. none (f x))

-- some number below a bound
pub dec_some_below : (P : ℕ → Type 0) → ((k : ℕ) → Dec (P k)) → (n : ℕ) → Dec ((k : ℕ) × (k < n) × P k)
dec_some_below P each n = by (least_below P each n)
  where
    by : ((k : ℕ) × (k < n) × P k × ((m : ℕ) → m < k → ¬ P m)) ⊎ ((k : ℕ) → k < n → ¬ P k) → Dec ((k : ℕ) × (k < n) × P k)
    by (inl found) = yes (found.0, found.1, found.2)
    by (inr none) = no (λ some. none some.0 some.1 some.2)

-- the element at a place
pub dec_there : {A : Type 0} (xs : List A) (n : ℕ) (P : A → Type 0) → ((x : A) → Dec (P x)) → Dec ((x : A) × (slice_get xs n ≡ Some x) × P x)
dec_there {A} xs n P each = by (slice_get xs n) refl
  where
    by : (o : Option A) → slice_get xs n ≡ o → Dec ((x : A) × (slice_get xs n ≡ Some x) × P x)
    by None at = no (λ one. absurd (none-some one.0 (sym at ∙ one.1)))
    by (Some x) at = of_iff (λ p. (x, at, p), λ one. subst P (same_Some one.0 x (sym one.1 ∙ at)) one.2) (each x)
