-- Laws of rows and cells that upper crates cite: which rows are active, how many are counted, and
-- what the costs at the places are.
use Rattle.std.proofs.Common.{◌≡◌, ℕ, zero, suc, ◌<◌, ◌≤◌, Bool, true, false, cond, ◌&&◌, ◌==◌, List, [], ◌∷◌, length, get_or, refl, arith, sym, ap, ◌∙◌, ⊎_elim}
use Rattle.std.specs.Prelude.{Option, Some, None, All, IsSome, IfSome, nat_lt}
use Rattle.std.specs.Option.{option_map_or}
use Rattle.std.proofs.lemmas.Bool.{false≢true, cases_lt}
use Rattle.std.proofs.lemmas.Bool.Decides.{Decides-ltb}
use Rattle.std.proofs.lemmas.List.Elements.{All-head, All-tail}
use Rattle.std.proofs.lemmas.Option.{slice_get-get_or, slice_get_past}
use Rattle.asg_model.specs.declared.parts.Column.{Column}
use Rattle.asg_model.specs.declared.parts.Cost.{Cost}
use Rattle.asg_model.specs.declared.parts.Place.{Place}
use Rattle.asg_model.specs.declared.parts.Place.TheVariants.{All as PlaceAll, Exactly}
use Rattle.asg_model.specs.declared.parts.Row.{Row}
use Rattle.asg_model.specs.Counts.{active_count, counted_by, is_counted_by}
use Rattle.asg_model.specs.Live.{is_active, is_open, cost_at, live_at}
use Rattle.asg_model.specs.Problem.{Problem}
use Rattle.asg_model.specs.Sums.{sum_below, count_below, one}
use Rattle.asg_model.specs.laws.Counting.{sum_below-same, sum_by-below}

-- what is read past the last row, and past the last column
abbrev pub no_row : Row
no_row = record { id = 0; active = false }

abbrev pub no_column : Column
no_column = record { id = 0; cap = 0; usable = false }

pub active_below : (X : Problem) (r : ℕ) → r < length X.rows → is_active X r ≡ (get_or X.rows r no_row).active
active_below X r within = ap (λ o. option_map_or (λ row. row.active) o false) (slice_get-get_or X.rows r no_row within)

pub ones_below : (n : ℕ) → sum_below (λ _. 1) n ≡ n
ones_below zero = refl
ones_below (suc n) = let rest = ones_below n in omega (arith, rest)

-- how many rows the rule counts
pub counted_total : (X : Problem) (place : Place) → count_below (λ r. is_counted_by place (is_active X r) (nat_lt r (length X.rows))) (length X.rows) ≡ counted_by place (active_count X) (length X.rows)
counted_total X PlaceAll =
    sum_below-same (λ r. one (is_active X r)) (λ r. one (get_or X.rows r no_row).active) (length X.rows) (λ r within. ap one (active_below X r within))
    ∙ sym (sum_by-below (λ row. one row.active) X.rows no_row)
counted_total X (Exactly k) =
    sum_below-same (λ r. one (nat_lt r (length X.rows))) (λ _. 1) (length X.rows) (λ r within. ap one ((Decides-ltb r (length X.rows)).1 within))
    ∙ ones_below (length X.rows)

live_parts : (b d : Bool) (o : Option Cost) → IsSome (cond (b && d) o None) → b ≡ true
live_parts true d o live = refl
live_parts false d o live = absurd (false≢true live)

-- a row with a live cell is active
pub is_active-from_live : (X : Problem) (r c : ℕ) → IsSome (live_at X r c) → is_active X r ≡ true
is_active-from_live X r c live = live_parts (is_active X r) (is_open X c) (cost_at X.cells r c) live

pub row-from_active : (X : Problem) (r : ℕ) → is_active X r ≡ true → r < length X.rows
row-from_active X r active =
    ⊎_elim
    (λ (within : r < length X.rows). within)
    (λ (past : length X.rows ≤ r).
    absurd (false≢true (sym (ap (λ o. option_map_or (λ row. row.active) o false) (slice_get_past X.rows r past)) ∙ active)))
    (cases_lt r (length X.rows))

-- an active row is counted
pub counted-from_active : (X : Problem) (place : Place) (r : ℕ) → is_active X r ≡ true → is_counted_by place (is_active X r) (nat_lt r (length X.rows)) ≡ true
counted-from_active X PlaceAll r active = active
counted-from_active X (Exactly k) r active = (Decides-ltb r (length X.rows)).1 (row-from_active X r active)

cost_at-here : (P : Cost → Type 0) (b : Bool) (cost : Cost) (rest : Option Cost) → P cost → IfSome rest P → IfSome (cond b (Some cost) rest) P
cost_at-here P true cost rest here more = here
cost_at-here P false cost rest here more = more

-- what holds of the cost of each cell holds of the one at a place
pub cost_at-All : (P : Cost → Type 0) (cells : List ((ℕ × ℕ) × Cost)) (r c : ℕ) → All (λ cell. P cell.1) cells → IfSome (cost_at cells r c) P
cost_at-All P [] r c all = tt
cost_at-All P (e ∷ es) r c all =
    cost_at-here P ((e.0.0 == r) && (e.0.1 == c)) e.1 (cost_at es r c)
    (All-head (λ cell. P cell.1) e es all)
    (cost_at-All P es r c (All-tail (λ cell. P cell.1) e es all))
