-- Costs as they stand in a table: words of the reader of tables, on which `reading_of` doesn't
-- stand.
use Rattle.std.specs.Prelude.{◌≡◌, ◌≢◌, ◌⊎◌, ℕ, ◌<◌, ◌≤◌, ℤ, pos, if◌then◌else◌, List, [], length, drop, take, Option, Some, None, IfSome, All, slice_index_or, slice_get}
use Rattle.std.specs.Ordering.{int_eq}
use Rattle.asg_model.specs.declared.parts.Cost.{Cost}
use Rattle.asg_model.specs.Table.{absent, IsEntry}
use Rattle.asg_model.specs.ValueRange.{IsPartInRange}
use Rattle.asg_tokens.specs.declared.refusals.TextRefusal.{TextRefusal}
use Rattle.asg_tokens.specs.Faults.{Fault, fault_of}
use Rattle.asg_tokens.specs.Tables.{cell_of, cell_faults}

-- the parts that stand in a table for a cell of this cost, or for an absent one
abbrev pub first_part : Option Cost → ℤ
first_part None = absent
first_part (Some cost) = cost.a

abbrev pub second_part : Option Cost → ℤ
second_part None = pos 0
second_part (Some cost) = cost.b

-- the cost for which these parts stand
abbrev pub cost_of_slot : ℤ → ℤ → Option Cost
cost_of_slot first second =
    if int_eq first absent then None else Some (record { a = first; b = second })

-- the parts stand for this cost, and are in range
pub record IsSlot (cost : Option Cost) (first second : ℤ) : Type 0 where
  pub is_cost : cost ≡ cost_of_slot first second
  pub first_in_range : IsEntry first
  pub second_in_range : IsPartInRange second

-- second parts in range, as many as the table has places, or none where all are 0
pub record AreSeconds (room : ℕ) (seconds : List ℤ) : Type 0 where
  pub none_or_all : (length seconds ≡ 0) ⊎ (length seconds ≡ room)
  pub in_range : All IsPartInRange seconds

-- a second part is put into its place, and all others stay
pub record PutsSecond (place : ℕ) (second : ℤ) (old new : List ℤ) : Type 0 where
  pub here : slice_index_or new place (pos 0) ≡ second
  pub others : (k : ℕ) → k ≢ place → slice_index_or new k (pos 0) ≡ slice_index_or old k (pos 0)

-- the first i of all tokens are cells without a fault, the first of which stands at a place, and
-- the parts of their costs stand in a table; these tokens are left
pub record AreRead (place : ℕ) (all left : List (List ℕ)) (i : ℕ) (firsts seconds : List ℤ)
    : Type 0 where
  pub within : i ≤ length all
  pub left_are : left ≡ drop i all
  pub right : cell_faults place (take i all) ≡ []
  pub slots : (k : ℕ) → k < i → IsSlot (cell_of (slice_index_or all k []))
      (slice_index_or firsts k (pos 0)) (slice_index_or seconds k (pos 0))
  pub seconds_are : AreSeconds (length firsts) seconds
  pub rest_is_zero : (k : ℕ) → i ≤ k → slice_index_or seconds k (pos 0) ≡ pos 0

-- the earliest of some faults is the one that is told
abbrev pub IsEarliest : List Fault → TextRefusal → Type 0
IsEarliest faults refusal = IfSome (fault_of refusal) (λ fault. slice_get faults 0 ≡ Some fault)
