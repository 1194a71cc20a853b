-- The leads of columns: keys, and the places of the rows that they come from, in lists.
use Rattle.std.specs.Prelude.{◌≡◌, ◌⊎◌, ℕ, ◌/◌, ◌%◌, ◌==◌, if◌then◌else◌, Bool, IsTrue, List, length, Option, Some, None, IsSome, slice_index, slice_index_or, slice_set}
use Rattle.std.specs.Int.{bit_at}
use Rattle.asg_match.specs.ColumnSet.{HasColumn}
use Rattle.asg_order.specs.Monoid.{Monoid, IsLe}
use Rattle.asg_cell_tables.specs.CellTable.{AreValuesOf}

-- a key for each column, which columns have one, and for each the place of the row that it comes
-- from
pub record Leads (V : Type 0) : Type 0 where
  pub keys : List V
  pub keyed : List ℕ
  pub places : List ℕ

abbrev pub leads_of : {V : Type 0} → List V → List ℕ → List ℕ → Leads V
leads_of keys keyed places = record { keys = keys; keyed = keyed; places = places }

-- the key of a column, if it has one
abbrev pub lead_at : {V : Type 0} → Monoid V → Leads V → ℕ → Option V
lead_at M leads k =
    if bit_at (slice_index leads.keyed (k / 64)) (k % 64) == 1
    then Some (slice_index_or leads.keys k M.unit) else None

-- the place of the row that a column's key comes from
abbrev pub place_at : {V : Type 0} → Leads V → ℕ → ℕ
place_at leads k = slice_index leads.places k

-- a column has the key and the place that it had
pub record KeepsLead {V : Type 0} (M : Monoid V) (before after : Leads V) (k : ℕ) : Type 0 where
  pub lead : lead_at M after k ≡ lead_at M before k
  pub place : place_at after k ≡ place_at before k

-- a column was offered a key from the row at a place: it has this key, which is at most the one
-- that it had, or keeps what it had, which is at most this key
abbrev pub IsOffered : {V : Type 0} → Monoid V → V → ℕ → Leads V → Leads V → ℕ → Type 0
IsOffered {V} M key place before after k =
    ((lead_at M after k ≡ Some key) × (place_at after k ≡ place)
    × ((old : V) → lead_at M before k ≡ Some old → IsLe M key old))
    ⊎ ((old : V) × (lead_at M before k ≡ Some old) × IsLe M old key × KeepsLead M before after k)

-- some columns were offered the products of a sum and their values, and the others have what they
-- had
pub record Relaxes {V : Type 0} (M : Monoid V) (values : List V) (sum : V) (place : ℕ)
    (is_looked_at : ℕ → Type 0) (before after : Leads V) : Type 0 where
  pub keys_side : length after.keys ≡ length before.keys
  pub keyed_side : length after.keyed ≡ length before.keyed
  pub places_side : length after.places ≡ length before.places
  pub looked_at : (k : ℕ) → is_looked_at k
      → IsOffered M (M.product sum (slice_index_or values k M.unit)) place before after k
  pub others : (k : ℕ) → (is_looked_at k → ⊥) → KeepsLead M before after k

-- the columns of a set at which a row has a cell were offered the products of a sum and this cell,
-- and the others have what they had
pub record OffersRow {V : Type 0} (M : Monoid V) (row : ℕ → Option V) (side : ℕ) (sum : V)
    (place : ℕ) (columns : List ℕ) (before after : Leads V) : Type 0 where
  pub values : List V
  pub are_values : AreValuesOf row side values
  pub relaxes : Relaxes M values sum place (λ k. IsSome (row k) × HasColumn columns k) before after

-- of some columns the one with the least key, or none of them has a key
pub record IsLeast {V : Type 0} (M : Monoid V) (lead : ℕ → Option V) (is_among : ℕ → Type 0)
    (column : ℕ) : Type 0 where
  pub among : is_among column
  pub key : V
  pub has : lead column ≡ Some key
  pub least : (k : ℕ) (other : V) → is_among k → lead k ≡ Some other → IsLe M key other

abbrev pub Picks : {V : Type 0} → Monoid V → (ℕ → Option V) → (ℕ → Type 0) → Option ℕ → Type 0
Picks M lead is_among None = (k : ℕ) → is_among k → lead k ≡ None
Picks M lead is_among (Some column) = IsLeast M lead is_among column

-- a column took a key and the place of a row, where it had no key or one that isn't less
pub record TakesKey {V : Type 0} (M : Monoid V) (offered : V) (place column : ℕ) (has_key : Bool)
    (before after : Leads V) : Type 0 where
  pub keys : after.keys ≡ slice_set before.keys column offered
  pub places : after.places ≡ slice_set before.places column place
  pub low : IsTrue has_key → IsLe M offered (slice_index_or before.keys column M.unit)

-- a column kept the key that it has, which is at most the one that it was offered
pub record KeepsKey {V : Type 0} (M : Monoid V) (offered : V) (column : ℕ) (has_key : Bool)
    (before after : Leads V) : Type 0 where
  pub keys : after.keys ≡ before.keys
  pub places : after.places ≡ before.places
  pub has : IsTrue has_key
  pub low : IsLe M (slice_index_or before.keys column M.unit) offered
