-- Pieces of rows of a square, at most 64 cells side by side.
use Rattle.std.specs.Prelude.{◌≡◌, ℕ, ℤ, ◌+◌, ◌/◌, ◌<◌, ◌≤◌, Bool, not, Option, Some, None, List, length, ⊤, slice_index_or}
use Rattle.std.specs.Option.{option_and_then, option_map_or}
use Rattle.std.specs.Ordering.{int_eq}
use Rattle.asg_model.specs.declared.parts.Cost.{Cost}
use Rattle.asg_model.specs.Problem.{Problem}
use Rattle.asg_model.specs.Live.{live_at}
use Rattle.asg_model.specs.Table.{absent, table_cost}
use Rattle.asg_cell_tables.specs.declared.labellings.Labelling.{Labelling}
use Rattle.asg_cell_tables.specs.declared.labellings.Labelling.TheVariants.{Plain, Twice, Extra, Mixed}

-- the columns from one on aren't copies
abbrev pub AreExtra : ℕ → List (Option ℕ) → Type 0
AreExtra from columns = (c : ℕ) → from ≤ c → slice_index_or columns c None ≡ None

-- each two of the first columns are the copies of one, at half their places
abbrev pub AreTwice : ℕ → List (Option ℕ) → Type 0
AreTwice count columns = (c : ℕ) → c < count → slice_index_or columns c None ≡ Some (c / 2)

-- what is known of labels that stand side by side from a place on: that each is that of the column
-- at its place, that each two are that of the column at half their place, or that there is none
abbrev pub AreKnownAs : Labelling → ℕ → List (Option ℕ) → Type 0
AreKnownAs Plain first labels = (k : ℕ) → k < length labels → slice_index_or labels k None ≡ Some (first + k)
AreKnownAs Twice first labels = (k : ℕ) → k < length labels → slice_index_or labels k None ≡ Some (first / 2 + k / 2)
AreKnownAs Extra first labels = (k : ℕ) → k < length labels → slice_index_or labels k None ≡ None
AreKnownAs Mixed first labels = ⊤

-- a first part isn't that of an absent cell
abbrev pub is_there : ℤ → Bool
is_there a = not (int_eq a absent)

-- the cost of a row's live cell in the column with this label, if there is one
abbrev pub live_cost : Problem → ℕ → Option ℕ → Option Cost
live_cost X r label = option_and_then (live_at X r) label

-- what it enters as, the free value where there is none
abbrev pub entered_value : {V : Type 0} → Problem → V → (Cost → V) → ℕ → Option ℕ → V
entered_value X free entered r label = option_map_or entered (live_cost X r label) free

-- the parts at each place are those of the cost of the row's live cell in the column with the label
-- there
pub record ArePieceParts (X : Problem) (r : ℕ) (labels : List (Option ℕ)) (firsts seconds : List ℤ) : Type 0 where
  pub count : length firsts ≡ length labels
  pub each : (k : ℕ) → k < length labels
      → table_cost seconds k (slice_index_or firsts k absent) ≡ live_cost X r (slice_index_or labels k None)

-- what stands in a list at the place of a label, another past its end and without a label
abbrev pub gathered_item : List ℤ → ℤ → Option ℕ → ℤ
gathered_item items other label = option_map_or (λ d. slice_index_or items d other) label other
