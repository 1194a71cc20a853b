-- What verdicts tell of reasons: they are one, there is one where each reason is tested, and `Yes`
-- is told exactly where none stands.
use Rattle.std.proofs.Common.{◌≡◌, ℕ, zero, suc, ◌<◌, ◌≤◌, refl, sym, ap, subst, ◌∙◌, List, [], ◌∷◌, ◌⊎◌, inl, inr, ⊎_elim, arith}
use Rattle.std.specs.Prelude.{ℤ, pos, ◌≤ℤ◌}
use Rattle.std.proofs.lemmas.Bool.{cases_lt}
use Rattle.std.proofs.lemmas.Int.{ints}
use Rattle.asg_verdicts.specs.declared.verdicts.Reason.{Reason}
use Rattle.asg_verdicts.specs.declared.verdicts.Verdict.{Verdict}
use Rattle.asg_verdicts.specs.declared.verdicts.Verdict.TheVariants.{No, Yes}
use Rattle.asg_verdicts.specs.Verdicts.{IsToldOf, Tells, reason_number}
use Rattle.asg_verdicts.specs.Spots.{At, ForWhole, IsNoLater, Overall, Spot, place_of}

-- spots that are no later than one another are one
same_spots : (s t : Spot) → IsNoLater s t → IsNoLater t s → s ≡ t
same_spots (At x) (At y) st ts = ap At (both x y st ts)
  where
    both : (x y : ℤ) → x ≤ℤ y → y ≤ℤ x → x ≡ y
    both x y xy yx = omega (arith, ints)
same_spots (At x) Overall st ts = absurd ts
same_spots Overall (At y) st ts = absurd st
same_spots Overall Overall st ts = refl

-- what stands nowhere
abbrev pub Nowhere : (Spot → Type 0) → Type 0
Nowhere Against = (spot : Spot) → ¬ Against spot

-- what doesn't stand for the whole
pub nowhere : {P : Type 0} → ¬ P → Nowhere (ForWhole P)
nowhere fails Overall = fails
nowhere fails (At place) = λ stands. stands

-- what stands for the whole
pub overall : {P : Type 0} (reason : Reason) → P → IsToldOf (ForWhole P) reason (No (reason_number reason) (pos 0))
overall {P} reason stands = record { spot = Overall; stands = stands; least = least; told = refl }
  where
    least : (other : Spot) → ForWhole P other → IsNoLater Overall other
    least Overall stands = tt
    least (At place) stands = absurd stands

-- what follows from what is told to stand for the whole
pub told_same : {P Q : Type 0} (reason : Reason) (verdict : Verdict) → (P → Q) → IsToldOf (ForWhole P) reason verdict → IsToldOf (ForWhole Q) reason verdict
told_same {P} {Q} reason verdict follows one = by one.spot one.stands one.told
  where
    by : (spot : Spot) → ForWhole P spot → verdict ≡ No (reason_number reason) (place_of spot) → IsToldOf (ForWhole Q) reason verdict
    by Overall stands told =
        let all = overall reason (follows stands) in
        record { spot = all.spot; stands = all.stands; least = all.least; told = told ∙ all.told }
    by (At place) stands told = absurd stands

-- a reason is tested: some verdict tells of it, or it stands nowhere
abbrev pub Tested : (Spot → Type 0) → Reason → Type 0
Tested Against reason = ((verdict : Verdict) × IsToldOf Against reason verdict) ⊎ Nowhere Against

pub tested : {P : Type 0} (reason : Reason) → Dec P → Tested (ForWhole P) reason
tested reason (yes stands) = inl (No (reason_number reason) (pos 0), overall reason stands)
tested reason (no fails) = inr (nowhere fails)

-- the least number below a bound of which P holds, or none
pub least_below : (P : ℕ → Type 0) → ((k : ℕ) → Dec (P k)) → (n : ℕ) → ((k : ℕ) × (k < n) × P k × ((m : ℕ) → m < k → ¬ P m)) ⊎ ((k : ℕ) → k < n → ¬ P k)
least_below P each zero = inr (λ k less. absurd (omega arith))
least_below P each (suc n) = by (least_below P each n) (each n)
  where
    by : ((k : ℕ) × (k < n) × P k × ((m : ℕ) → m < k → ¬ P m)) ⊎ ((k : ℕ) → k < n → ¬ P k) → Dec (P n) → ((k : ℕ) × (k < suc n) × P k × ((m : ℕ) → m < k → ¬ P m)) ⊎ ((k : ℕ) → k < suc n → ¬ P k)
    by (inl found) here = inl (found.0, omega (arith, found.1), found.2, found.3)
    by (inr none) (yes p) = inl (n, omega arith, p, none)
    by (inr none) (no fails) = inr (λ k less. ⊎_elim (λ (before : k < n). none k before) (λ (past : n ≤ k). let last : n ≡ k = omega arith in subst (λ m. ¬ P m) last fails) (cases_lt k n))

module _ (Against : Reason → Spot → Type 0) where
  -- verdicts that tell of the same reasons are one
  pub one_verdict : (reasons : List Reason) (v w : Verdict) → Tells Against reasons v → Tells Against reasons w → v ≡ w
  one_verdict [] v w here there = here ∙ sym there
  one_verdict (reason ∷ rest) v w (inl here) (inl there) =
      here.told
      ∙ ap (λ spot. No (reason_number reason) (place_of spot)) (same_spots here.spot there.spot (here.least there.spot there.stands) (there.least here.spot here.stands))
      ∙ sym there.told
  one_verdict (reason ∷ rest) v w (inl here) (inr there) = absurd (there.0 here.spot here.stands)
  one_verdict (reason ∷ rest) v w (inr here) (inl there) = absurd (here.0 there.spot there.stands)
  one_verdict (reason ∷ rest) v w (inr here) (inr there) = one_verdict rest v w here.1 there.1

  -- there is a verdict where each reason is tested
  pub some_verdict : ((reason : Reason) → Tested (Against reason) reason) → (reasons : List Reason) → (verdict : Verdict) × Tells Against reasons verdict
  some_verdict each [] = (Yes, refl)
  some_verdict each (reason ∷ rest) = by (each reason) (some_verdict each rest)
    where
      by : Tested (Against reason) reason → (verdict : Verdict) × Tells Against rest verdict → (verdict : Verdict) × Tells Against (reason ∷ rest) verdict
      by (inl told) more = (told.0, inl told.1)
      by (inr none) more = (more.0, inr (none, more.1))

  -- `Yes` is told where no reason stands, and only there
  pub yes_told : ((reason : Reason) → Nowhere (Against reason)) → (reasons : List Reason) → Tells Against reasons Yes
  yes_told none [] = refl
  yes_told none (reason ∷ rest) = inr (none reason, yes_told none rest)

  abbrev pub NoneOf : List Reason → Type 0
  NoneOf [] = Unit {0}
  NoneOf (reason ∷ rest) = Nowhere (Against reason) × NoneOf rest

  pub none_stands : (reasons : List Reason) → Tells Against reasons Yes → NoneOf reasons
  none_stands [] told = tt
  none_stands (reason ∷ rest) (inl here) = let two = here.told in absurd (cc)
  none_stands (reason ∷ rest) (inr later) = (later.0, none_stands rest later.1)
