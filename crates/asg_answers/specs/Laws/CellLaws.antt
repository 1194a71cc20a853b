-- How many cells a choice has.
use Rattle.std.proofs.Common.{◌≡◌, ℕ, zero, suc, ◌<◌, ◌≤◌, Bool, true, false, cond, List, [], ◌∷◌, length, Option, Some, None, refl, arith, count_by, IsSome, is_some}
use Rattle.std.specs.Prelude.{slice_get, filter_map, ◌&&◌}
use Rattle.std.specs.Option.{option_map, option_map_or}
use Rattle.std.specs.List.{zip, cons_option}
use Rattle.std.proofs.lemmas.Slice.Zip.{length-zip}
use Rattle.asg_model.specs.declared.parts.Row.{Row}
use Rattle.asg_model.specs.declared.parts.Column.{Column}
use Rattle.asg_model.specs.Problem.{Problem}
use Rattle.asg_model.specs.Live.{live_at, is_active, cost_at}
use Rattle.asg_model.specs.ValidChoice.{Chooses, IsValid}
use Rattle.asg_doc.specs.ChosenCells.{cell_by_id, cells_by_id, column_id}

-- one more element, if there is one
length-cons_option-le : {Y : Type 0} (found : Option Y) (ys : List Y) (n : ℕ) → length ys ≤ n → length (cons_option found ys) ≤ suc n
length-cons_option-le None ys n h = omega arith
length-cons_option-le (Some y) ys n h = omega arith

-- what a filter maps to has at most as many elements
length-filter_map-le : {X Y : Type 0} (h : X → Option Y) (xs : List X) → length (filter_map h xs) ≤ length xs
length-filter_map-le h [] = omega arith
length-filter_map-le h (x ∷ xs) = length-cons_option-le (h x) (filter_map h xs) (length xs) (length-filter_map-le h xs)

-- a choice has at most as many cells as there are rows
pub length-cells_by_id-le : (X : Problem) (f : List (Option ℕ)) → length (cells_by_id X f) ≤ length X.rows
length-cells_by_id-le X f = omega (arith, length-filter_map-le (cell_by_id X) (zip X.rows f), length-zip X.rows f)

-- the column of a live cell has an id
column_id-live : (X : Problem) (r c : ℕ) → IsSome (live_at X r c) → IsSome (column_id X c)
column_id-live X r c = at (is_active X r) (slice_get X.columns c)
  where
    at : (active : Bool) (column : Option Column) → IsSome (cond (active && option_map_or (λ column. column.usable) column false) (cost_at X.cells r c) None) → IsSome (option_map (λ column. column.id) column)
    at active (Some column) live = refl
    at true None live = cc
    at false None live = cc

-- where some row of a choice chooses, and each chosen column has an id, the choice has a cell
some-cells : (X : Problem) (rows : List Row) (f : List (Option ℕ)) → length f ≡ length rows → ((r c : ℕ) → Chooses f r c → IsSome (column_id X c)) → 0 < count_by is_some f → 0 < length (filter_map (cell_by_id X) (zip rows f))
some-cells X rows [] over named some = absurd (omega arith)
some-cells X [] (chosen ∷ f) over named some = absurd (omega arith)
some-cells X (row ∷ rows) (None ∷ f) over named some = some-cells X rows f (omega arith) (λ r c chooses. named (suc r) c chooses) some
some-cells X (row ∷ rows) (Some c ∷ f) over named some = first (column_id X c) (named zero c refl)
  where
    first : (id : Option ℕ) → IsSome id → 0 < length (cons_option (option_map (λ id. (row.id, id)) id) (filter_map (cell_by_id X) (zip rows f)))
    first (Some id) there = omega arith
    first None there = cc

-- a valid choice that places a row has a cell
pub length-cells_by_id-some : (X : Problem) (f : List (Option ℕ)) → IsValid X f → 0 < count_by is_some f → 0 < length (cells_by_id X f)
length-cells_by_id-some X f valid some = some-cells X X.rows f valid.over (λ r c chooses. column_id-live X r c (valid.alive r c chooses)) some
