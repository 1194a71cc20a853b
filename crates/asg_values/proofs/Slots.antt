-- What stands in a row of costs, and the live cells of a band.
use Rattle.asg_values.proofs.Common.{◌≡◌, ℕ, zero, suc, ◌+◌, ◌<◌, ◌≤◌, Bool, true, false, cond, ◌&&◌, List, length, get_or, replicate, ℤ, unsigned_abs, int_le, Some, None, All, Option, sym, refl, ap, ◌∙◌, arith, ints, option_map_or, in_band, is_live_within, IsCostInRange, most_cost, is_active, is_open, cost_at, Problem, absent, AreRowParts, IsPartInRange, Band, Cost}
use Rattle.asg_values.specs.laws.RowSlots.{IsSlotOf, slots}

open_case : (b : Bool) (o : Option Cost) (f : Cost → Bool) → option_map_or f (cond b o None) false ≡ (b && option_map_or f o false)
open_case true o f = refl
open_case false o f = refl

-- a cell of an active row is live where its column is open and it has a cost
pub is_live_within-active : (X : Problem) (band : Band) (r c : ℕ) → is_active X r ≡ true → is_live_within X band r c ≡ (is_open X c && option_map_or (λ cost. in_band band cost.a) (cost_at X.cells r c) false)
is_live_within-active X band r c active =
    (λ i. option_map_or (λ cost. in_band band cost.a) (cond (active i && is_open X c) (cost_at X.cells r c) None) false)
    ∙ open_case (is_open X c) (cost_at X.cells r c) (λ cost. in_band band cost.a)

absent_below : (low high : ℤ) → unsigned_abs low ≤ most_cost + 1 → (int_le low absent && int_le absent high) ≡ false
absent_below low high below = ap (λ b. b && int_le absent high) (not_le low below)
  where
    not_le : (low : ℤ) → unsigned_abs low ≤ most_cost + 1 → int_le low absent ≡ false
    not_le low below = grind (arith, ints)

-- what stands in a row lies between the ends of a band where its cell is there, with a cost of the
-- band
slot_within : (band : Band) (low high : ℤ) → ((a : ℤ) → IsPartInRange a → in_band band a ≡ (int_le low a && int_le a high)) → unsigned_abs low ≤ most_cost + 1 → (o : Option Cost) (a : ℤ) → IsSlotOf o a → (int_le low a && int_le a high) ≡ option_map_or (λ cost. in_band band cost.a) o false
slot_within band low high within below None a is = ap (λ b. int_le low b && int_le b high) is ∙ absent_below low high below
slot_within band low high within below (Some cost) a is = sym (within a is.1) ∙ ap (in_band band) is.0

-- both parts of the costs of a row, whose costs are in range
module _ (X : Problem) (r : ℕ) (firsts seconds : List ℤ) (are : AreRowParts X r firsts seconds) (costs : All (λ cell. IsCostInRange cell.1) X.cells) where
  -- a first part lies between the ends of a band, in an open column, where the cell is live with a
  -- cost of the band
  pub live_between : (band : Band) (low high : ℤ) → ((a : ℤ) → IsPartInRange a → in_band band a ≡ (int_le low a && int_le a high)) → unsigned_abs low ≤ most_cost + 1 → is_active X r ≡ true → (c : ℕ) → c < length X.columns → (is_open X c && (int_le low (get_or firsts c absent) && int_le (get_or firsts c absent) high)) ≡ is_live_within X band r c
  live_between band low high ends below active c within =
      ap (λ b. is_open X c && b) (slot_within band low high ends below (cost_at X.cells r c) (get_or firsts c absent) (slots X r firsts seconds are costs c within))
      ∙ sym (is_live_within-active X band r c active)

-- no mark is set in a list of marks that are not set
pub get_or-unmarked : (n k : ℕ) → get_or (replicate n false) k false ≡ false
get_or-unmarked zero k = refl
get_or-unmarked (suc n) zero = refl
get_or-unmarked (suc n) (suc k) = get_or-unmarked n k
