-- Where the costs of arcs stand in a table: words of the reader of asn files, on which `reading_of`
-- doesn't stand.
use Rattle.std.specs.Prelude.{◌≡◌, ◌≢◌, ℕ, ◌+◌, ◌*◌, ◌<◌, ◌≤◌, ℤ, if◌then◌else◌, List, length, Option, Some, None, IfSome, IsSome, All, AllPairs, slice_index, slice_index_or, option_and_then}
use Rattle.std.specs.Option.{option_map}
use Rattle.asg_model.specs.Limits.{most_rows, most_columns}
use Rattle.asg_model.specs.ValueRange.{IsPartInRange}
use Rattle.asg_networks.specs.declared.layouts.Layout.{Layout}
use Rattle.asg_networks.specs.declared.links.Link.{Link}
use Rattle.asg_networks.specs.Networks.{are_same_ends}

-- different ids of nodes, of which there are so many
pub record AreNodeIds (nodes : ℕ) (ids : List ℕ) : Type 0 where
  pub differ : AllPairs (λ x y. x ≢ y) ids
  pub within : All (λ id. id ≤ nodes) ids

-- for each id its place among these ids is told, if it is one of them
pub record TellsPlaces (places : List (Option ℕ)) (ids : List ℕ) : Type 0 where
  pub each : (k : ℕ) → k < length ids → slice_index_or places (slice_index ids k) None ≡ Some k
  pub only : (id : ℕ) → IfSome (slice_index_or places id None)
      (λ k. (k < length ids) × (slice_index ids k ≡ id))

-- the rows and columns that are told are those of the sources and targets
pub record IsLayout (layout : Layout) : Type 0 where
  pub rows : TellsPlaces layout.rows.items layout.sources.now
  pub columns : TellsPlaces layout.columns.items layout.targets.now
  pub few_rows : length layout.sources.now ≤ most_rows
  pub few_columns : length layout.targets.now ≤ most_columns

-- the place of a cell in the table, row by row
abbrev pub cell_between : Layout → ℕ × ℕ → Option ℕ
cell_between layout ends =
    option_and_then (λ row.
    option_map (λ column. row * length layout.targets.now + column)
    (slice_index_or layout.columns.items ends.1 None))
    (slice_index_or layout.rows.items ends.0 None)

-- the table has a cell for the arc, whose cost is in range
pub record HasCell (layout : Layout) (link : Link) : Type 0 where
  pub there : IsSome (cell_between layout (link.source, link.target))
  pub in_range : IsPartInRange link.cost

-- known costs, with one more
abbrev pub with_cost : (ℕ → ℕ → Option ℤ) → ℕ × ℕ → ℤ → ℕ → ℕ → Option ℤ
with_cost known ends cost source target =
    if are_same_ends (source, target) ends then Some cost else known source target
