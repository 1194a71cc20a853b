-- Rows without a negative part: the objectives refuse no live cell of theirs.
use Rattle.asg_values.proofs.Common.{◌≡◌, ℕ, ◌<◌, ◌≤◌, false, cond, List, length, get_or, ℤ, pos, ◌≤ℤ◌, int_lt, Some, None, Option, sym, refl, ap, ◌∙◌, subst, ⊎_elim, arith, cases_lt, get_or_default, get_or_past, ints, option_map_or, live_at, Problem, is_refused, is_refused_at, IsPassed, absent, AreRowParts, Objective, Capped, TimeCost, Cost}
use Rattle.asg_values.specs.laws.LiveCells.{column_of_live}
use Rattle.asg_values.specs.laws.RowSlots.{first-at_live, present-at_live, second-at_live}

not_below : (a : ℤ) → pos 0 ≤ℤ a → int_lt a (pos 0) ≡ false
not_below a low = grind (arith, ints, low)

passed_zero : (a : ℤ) → IsPassed (pos 0) a → int_lt a (pos 0) ≡ false
passed_zero a passed = not_below a (⊎_elim (λ zero. omega (arith, ints, zero)) (λ low. low) passed)

-- a cell isn't refused where no live cost of it is
refused_by_cost : (objective : Objective) (X : Problem) (r c : ℕ) → ((x : Cost) → live_at X r c ≡ Some x → is_refused objective x ≡ false) → is_refused_at objective X r c ≡ false
refused_by_cost objective X r c each = by (live_at X r c) refl
  where
    by : (o : Option Cost) → live_at X r c ≡ o → option_map_or (is_refused objective) o false ≡ false
    by None e = refl
    by (Some x) e = each x e

pub passes_capped : (cap : ℕ) (X : Problem) (r : ℕ) (firsts seconds : List ℤ) → AreRowParts X r firsts seconds → ((c : ℕ) → c < length firsts → IsPassed absent (get_or firsts c absent)) → (c : ℕ) → is_refused_at (Capped cap) X r c ≡ false
passes_capped cap X r firsts seconds parts passed c =
    refused_by_cost (Capped cap) X r c
    (λ x live.
    let within : c < length firsts = omega (arith, column_of_live X r c x live, parts.whole) in
    ⊎_elim
    (λ none. absurd (present-at_live X r firsts seconds parts c x live none))
    (λ low. not_below x.a (subst (λ a. pos 0 ≤ℤ a) (first-at_live X r firsts seconds parts c x live) low))
    (passed c within))

-- The same of an objective that is capped sums.
pub passes_if_capped : (objective : Objective) (cap : ℕ) (X : Problem) (r : ℕ) (firsts seconds : List ℤ) → objective ≡ Capped cap → AreRowParts X r firsts seconds → ((c : ℕ) → c < length firsts → IsPassed absent (get_or firsts c absent)) → (c : ℕ) → is_refused_at objective X r c ≡ false
passes_if_capped objective cap X r firsts seconds is parts passed c =
    subst (λ o. is_refused_at o X r c ≡ false) (sym is) (passes_capped cap X r firsts seconds parts passed c)

pub passes_time_cost : (X : Problem) (r : ℕ) (firsts seconds : List ℤ) → AreRowParts X r firsts seconds → ((c : ℕ) → c < length seconds → IsPassed (pos 0) (get_or seconds c absent)) → (c : ℕ) → is_refused_at TimeCost X r c ≡ false
passes_time_cost X r firsts seconds parts passed c =
    refused_by_cost TimeCost X r c
    (λ x live.
    let at = second-at_live X r firsts seconds parts c x live in
    ⊎_elim
    (λ (within : c < length seconds). subst (λ b. int_lt b (pos 0) ≡ false) (get_or_default seconds c absent (pos 0) within ∙ at) (passed_zero (get_or seconds c absent) (passed c within)))
    (λ (past : length seconds ≤ c). subst (λ b. int_lt b (pos 0) ≡ false) (sym (get_or_past seconds c (pos 0) past) ∙ at) refl)
    (cases_lt c (length seconds)))
