-- Columns that a scan of a row looks at.
use Rattle.std.specs.Prelude.{◌≡◌, ℕ, ◌/◌, List, map, Option, Some, IsSome, slice_index_or, unwrap_or}
use Rattle.std.specs.List.{range_with_len}
use Rattle.asg_match.specs.ColumnSet.{HasColumn}
use Rattle.asg_order.specs.Monoid.{Monoid, IsValue, IsLe}
use Rattle.asg_square.specs.Grid.{Grid, cell_at}
use Rattle.asg_growth.specs.Leads.{Leads, lead_at}

-- the cells of a row of a square, and the unit where there is none
abbrev pub values_of : {V : Type 0} → Monoid V → Grid V → ℕ → List V
values_of M Q row = map (λ k. unwrap_or (cell_at Q row k) M.unit) (range_with_len 0 Q.side)

-- the keys of these columns are values
abbrev pub AreValued : {V : Type 0} → Monoid V → Leads V → List ℕ → Type 0
AreValued {V} M leads columns =
    (k : ℕ) (key : V) → HasColumn columns k → lead_at M leads k ≡ Some key → IsValue M key

-- a column of the word of this number that is in a set, and at which a row has a cell
abbrev pub IsBoth : {V : Type 0} → ℕ → (ℕ → Option V) → List ℕ → ℕ → Type 0
IsBoth number row unseen k = (k / 64 ≡ number) × IsSome (row k) × HasColumn unseen k

-- a column has a key, which is at most the product of a sum and its value
abbrev pub IsSoon : {V : Type 0} → Monoid V → List V → V → Leads V → ℕ → Type 0
IsSoon {V} M values sum leads k =
    (key : V) × (lead_at M leads k ≡ Some key)
    × IsLe M key (M.product sum (slice_index_or values k M.unit))
