-- Spans of costs, and the live costs of an instance as a list.
use Rattle.std.specs.Prelude.{◌≡◌, ℕ, ℤ, pos, ◌+ℤ◌, ◌-ℤ◌, ◌≤ℤ◌, ◌<◌, Bool, true, false, int_le, ◌&&◌, Option, Some, None, List, length, All, Contains, filter_map, slice_index_or}
use Rattle.std.specs.List.{flat_map, list_any, range_with_len}
use Rattle.std.specs.Option.{option_map}
use Rattle.asg_model.specs.Live.{live_at}
use Rattle.asg_model.specs.Problem.{Problem}
use Rattle.asg_proof.specs.declared.windows.Window.{Window}
use Rattle.asg_check.specs.declared.window_gaps.Span.{Span}

-- the first part of the cost of the live cell at a row place and a column place, if it is live
abbrev pub live_part : Problem → ℕ → ℕ → Option ℤ
live_part X r c = option_map (λ cost. cost.a) (live_at X r c)

-- those of the first so many columns of a row
abbrev pub row_parts : Problem → ℕ → ℕ → List ℤ
row_parts X r columns = filter_map (live_part X r) (range_with_len 0 columns)

-- those of the first so many rows
abbrev pub live_parts : Problem → ℕ → List ℤ
live_parts X rows = flat_map (λ r. row_parts X r (length X.columns)) (range_with_len 0 rows)

-- the costs from which a window holds d costs
abbrev pub span_of : ℤ → Window → Span
span_of d window = record { lo = window.lo; last = (window.hi -ℤ d) +ℤ pos 1 }

-- the span has the cost
abbrev pub in_span : ℤ → Span → Bool
in_span v span = int_le span.lo v && int_le v span.last

-- some span of the list has the cost
abbrev pub in_spans : List Span → ℤ → Bool
in_spans spans v = list_any (in_span v) spans

-- no cost of the list is above a later one
abbrev pub AreCostsUp : List ℤ → Type 0
AreCostsUp costs = (i j : ℕ) (d : ℤ) → i < j → j < length costs
    → slice_index_or costs i d ≤ℤ slice_index_or costs j d

-- no span of the list begins above a later one
abbrev pub AreSpansUp : List Span → Type 0
AreSpansUp spans = (i j : ℕ) (d : Span) → i < j → j < length spans
    → (slice_index_or spans i d).lo ≤ℤ (slice_index_or spans j d).lo

-- no window of the list begins above a later one
abbrev pub AreWindowsUp : List Window → Type 0
AreWindowsUp windows = (i j : ℕ) (d : Window) → i < j → j < length windows
    → (slice_index_or windows i d).lo ≤ℤ (slice_index_or windows j d).lo

-- the first of the costs that no span has, or none
abbrev pub IsFirstOutside : List ℤ → List Span → Option ℤ → Type 0
IsFirstOutside costs spans None = All (λ v. in_spans spans v ≡ true) costs
IsFirstOutside costs spans (Some v) =
    Contains costs v × (in_spans spans v ≡ false)
    × All (λ w. in_spans spans w ≡ false → v ≤ℤ w) costs
