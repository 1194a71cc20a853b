-- The nearest column of each word of 64 columns: of those that weren't reached the one with the
-- least key.
use Rattle.std.specs.Prelude.{◌≡◌, ◌⊎◌, ℕ, Bool, ◌/◌, ◌<◌, List, length, Option, Some, None, slice_index_or}
use Rattle.asg_match.specs.ColumnSet.{HasColumn}
use Rattle.asg_order.specs.Monoid.{Monoid, IsValue, IsLe}
use Rattle.asg_growth.specs.Leads.{Leads, lead_at, Picks, TakesKey, KeepsKey}

-- a column of a set in the word of this number
abbrev pub IsWithin : ℕ → List ℕ → ℕ → Type 0
IsWithin number words k = (k / 64 ≡ number) × HasColumn words k

-- for each word the one of its columns in the set with the least key, or none of them has a key
pub record AreNearest {V : Type 0} (M : Monoid V) (leads : Leads V) (unseen : List ℕ)
    (nearest : List (Option ℕ)) : Type 0 where
  pub count : length nearest ≡ length unseen
  pub each : (number : ℕ) → number < length unseen
      → Picks M (lead_at M leads) (IsWithin number unseen) (slice_index_or nearest number None)

-- a column whose key is a value
pub record HasKey {V : Type 0} (M : Monoid V) (keys : List V) (column : ℕ) : Type 0 where
  pub within : column < length keys
  pub value : IsValue M (slice_index_or keys column M.unit)

-- the key of one column is at most that of another
abbrev pub IsNoFarther : {V : Type 0} → Monoid V → List V → ℕ → ℕ → Type 0
IsNoFarther M keys column other =
    IsLe M (slice_index_or keys column M.unit) (slice_index_or keys other M.unit)

-- the nearer one of a former column, if there is one, and another
abbrev pub IsNearer : {V : Type 0} → Monoid V → List V → Option ℕ → ℕ → Option ℕ → Type 0
IsNearer M keys former column result =
    ((result ≡ Some column) × ((k : ℕ) → former ≡ Some k → IsNoFarther M keys column k))
    ⊎ ((k : ℕ) × (former ≡ Some k) × (result ≡ former) × IsNoFarther M keys k column)

-- the nearer one of two columns, where there are two
abbrev pub IsNearest : {V : Type 0} → Monoid V → List V → Option ℕ → Option ℕ → Option ℕ → Type 0
IsNearest M keys former None result = result ≡ former
IsNearest M keys former (Some column) result = IsNearer M keys former column result

-- a column kept its key, or took the one that it was offered and was compared with the nearest one
-- so far
abbrev pub IsAnswered : {V : Type 0} → Monoid V → V → ℕ → ℕ → Bool → Leads V → Leads V → Option ℕ
    → Option ℕ → Type 0
IsAnswered M offered place column has_key before after former result =
    (KeepsKey M offered column has_key before after × (result ≡ former))
    ⊎ (TakesKey M offered place column has_key before after
    × IsNearer M after.keys former column result)
