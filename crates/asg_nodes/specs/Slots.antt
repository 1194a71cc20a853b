-- Nodes that have their best choice, in the order of their indexes.
use Rattle.std.specs.Prelude.{◌≡◌, ◌⊎◌, ℕ, ◌<◌, List, [], ◌∷◌, ◌++◌, length, All, Option, IfSome, slice_index_or}
use Rattle.asg_order.specs.Monoid.{Monoid, IsValue, IsLe, IsLess}
use Rattle.asg_nodes.specs.declared.slots.Slot.{Slot}

-- slots over a side: how many there are, and those in use
pub record SlotList (V : Type 0) : Type 0 where
  pub side : ℕ
  pub room : ℕ
  pub used : List (Slot V)

abbrev pub slot_of : {V : Type 0} → ℕ → V → List (Option ℕ) → Slot V
slot_of node index matching = record { node = node; index = index; matching = matching }

-- the slot at a place
abbrev pub slot_at : {V : Type 0} → V → List (Slot V) → ℕ → Slot V
slot_at unit used place = slice_index_or used place (slot_of 0 unit [])

-- the indexes don't fall
abbrev pub Ascends : {V : Type 0} → Monoid V → List (Slot V) → Type 0
Ascends M used = (i j : ℕ) → i < j → j < length used
    → IsLe M (slot_at M.unit used i).index (slot_at M.unit used j).index

abbrev pub HaveValues : {V : Type 0} → Monoid V → List (Slot V) → Type 0
HaveValues M used = All (λ slot. IsValue M slot.index) used

-- each index is at most this one
abbrev pub AreUpTo : {V : Type 0} → Monoid V → V → List (Slot V) → Type 0
AreUpTo M index used = All (λ slot. IsLe M slot.index index) used

-- a slot was put between those whose index is at most its own and those whose index is greater
pub record Inserts {V : Type 0} (M : Monoid V) (old : List (Slot V)) (slot : Slot V) (new : List (Slot V)) : Type 0 where
  pub before : List (Slot V)
  pub after : List (Slot V)
  pub was : old ≡ before ++ after
  pub is : new ≡ before ++ slot ∷ after
  pub upto : AreUpTo M slot.index before
  pub above : All (λ other. IsLess M slot.index other.index) after

-- the slot took the place of the last one, whose index is greater
pub record Replaces {V : Type 0} (M : Monoid V) (old : List (Slot V)) (slot : Slot V) (new : List (Slot V)) : Type 0 where
  pub rest : List (Slot V)
  pub last : Slot V
  pub was : old ≡ rest ++ last ∷ []
  pub less : IsLess M slot.index last.index
  pub inserts : Inserts M rest slot new

-- all stay, where no index is greater
pub record Refuses {V : Type 0} (M : Monoid V) (old : List (Slot V)) (slot : Slot V) (new : List (Slot V)) : Type 0 where
  pub same : new ≡ old
  pub upto : AreUpTo M slot.index old

-- what becomes of a slot that is offered: it is put in its place where there is room, and otherwise
-- where the last one is greater
abbrev pub Offers : {V : Type 0} → Monoid V → SlotList V → Slot V → SlotList V → Type 0
Offers M before slot after =
    (length before.used < before.room × Inserts M before.used slot after.used)
    ⊎ ((length before.used ≡ before.room) × (Replaces M before.used slot after.used ⊎ Refuses M before.used slot after.used))

-- the index from which on nothing is kept: the greatest one, where all slots are in use
abbrev pub IsLimit : {V : Type 0} → Monoid V → SlotList V → Option V → Type 0
IsLimit M slots limit = IfSome limit (λ top. (length slots.used ≡ slots.room) × AreUpTo M top slots.used × IsValue M top)
