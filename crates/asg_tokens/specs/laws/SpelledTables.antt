-- What a square or a rect file spells is an instance.
use Rattle.std.proofs.Common.{◌≡◌, ℕ, ◌+◌, ◌*◌, ◌<◌, ◌≤◌, Bool, true, false, List, [], ◌∷◌, length, take, map, Option, Some, None, refl, sym, ap, ◌∙◌, arith, subst, eqb-true}
use Rattle.std.specs.Prelude.{ℤ, pos, All, ◌^◌, not, ◌==◌}
use Rattle.std.specs.List.{range_with_len}
use Rattle.std.proofs.lemmas.List.{take_all, get_or-map, length-map}
use Rattle.std.proofs.lemmas.List.FromFn.{length-range_with_len, get_or-range_with_len}
use Rattle.std.proofs.lemmas.List.Elements.{All-nil, All-cons, All-map, All-weaker}
use Rattle.asg_model.specs.declared.parts.Cost.{Cost}
use Rattle.asg_model.specs.declared.parts.Row.{Row}
use Rattle.asg_model.specs.declared.parts.Column.{Column}
use Rattle.asg_model.specs.declared.parts.Place.{Place}
use Rattle.asg_model.specs.declared.parts.Place.TheVariants.{All as PlaceAll}
use Rattle.asg_model.specs.Instances.{IsInstance, IsWellFormed}
use Rattle.asg_model.specs.Problem.{Problem, problem_of}
use Rattle.asg_model.specs.Table.{IsTable, table_cells}
use Rattle.asg_model.specs.ValueRange.{IsPartInRange}
use Rattle.asg_tokens.specs.Faults.{NoRows, TokenCount, fault_where}
use Rattle.asg_tokens.specs.Readings.{Spells, row_of, column_of, table_of}
use Rattle.asg_tokens.specs.Slots.{IsSlot, first_part, second_part}
use Rattle.asg_tokens.specs.Tables.{cell_of, cell_faults, token_faults, faults_of_cells, size_faults, table_faults, reading_of_table, reading_of_square, reading_of_rect}
use Rattle.asg_tokens.specs.Numbers.{size_of}
use Rattle.asg_tokens.specs.laws.ReadCells.{slot_of_token}
use Rattle.asg_tokens.specs.laws.Spelled.{AreFew, are_few, none_in_front, none_where, spelled}
use Rattle.asg_tokens.specs.laws.TableInstances.{AreDistinct, AreSlots, are_parts, is_table, range_is_distinct, same_cells}

-- the parts of a whole table, with ids below 2^32, are an instance
abbrev pub TablesAreInstances : Type 0
TablesAreInstances = (rows : List Row) (columns : List Column) (firsts seconds : List ℤ) (place : Place) → IsWellFormed (problem_of rows columns [] place)
    → All (λ row. row.id < 2 ^ 32) rows → All (λ column. column.id < 2 ^ 32) columns → IsTable (length rows) (length columns) firsts seconds
    → IsInstance (problem_of rows columns (table_cells (length columns) firsts seconds) place)

-- few different ids below 2^32, and a whole table for them, are an instance
pub table_instance : TablesAreInstances → (rows columns : List ℕ) (firsts seconds : List ℤ) → AreFew (length rows) (length columns) → AreDistinct rows → AreDistinct columns
    → All (λ id. id < 2 ^ 32) rows → All (λ id. id < 2 ^ 32) columns → IsTable (length rows) (length columns) firsts seconds
    → IsInstance (problem_of (map row_of rows) (map column_of columns) (table_cells (length columns) firsts seconds) PlaceAll)
table_instance law rows columns firsts seconds few rows_differ columns_differ row_ids column_ids table =
    let n = length-map rows row_of in
    let m = length-map columns column_of in
    subst (λ m. IsInstance (problem_of (map row_of rows) (map column_of columns) (table_cells m firsts seconds) PlaceAll)) m
    (law (map row_of rows) (map column_of columns) firsts seconds PlaceAll
    (are_parts rows columns few.some few.few_rows few.few_columns rows_differ columns_differ)
    (All-map (λ row. row.id < 2 ^ 32) row_of rows row_ids)
    (All-map (λ column. column.id < 2 ^ 32) column_of columns column_ids)
    (subst (λ n. IsTable n (length (map column_of columns)) firsts seconds) (sym n) (subst (λ m. IsTable (length rows) m firsts seconds) (sym m) table)))

-- numbers from 1 on that are at most 2,000 are ids
pub range_ids : (n : ℕ) → n ≤ 2000 → All (λ id. id < 2 ^ 32) (range_with_len 1 n)
range_ids n few k d within =
    let there : k < n = omega (arith, length-range_with_len 1 n) in
    let is = get_or-range_with_len 1 n k d there in
    omega (arith, is)

-- a cost by whose parts it stands in a table
abbrev StandsByParts : Option Cost → Type 0
StandsByParts cost = IsSlot cost (first_part cost) (second_part cost)

cells_stand : (place : ℕ) (cells : List (List ℕ)) → cell_faults place cells ≡ [] → All StandsByParts (map cell_of cells)
cells_stand place [] right = All-nil StandsByParts
cells_stand place (token ∷ cells) right =
    let parts = none_in_front (token_faults place token) (cell_faults (place + 1) cells) right in
    All-cons StandsByParts (cell_of token) (map cell_of cells) (slot_of_token place token parts.0) (cells_stand (place + 1) cells parts.1)

-- costs that stand by their parts
module _ (costs : List (Option Cost)) (stand : All StandsByParts costs) where
  slots : AreSlots costs (map first_part costs) (map second_part costs)
  unfolding AreSlots
  slots k within =
      let there : k < length costs = omega (arith, length-map costs first_part) in
      let first = get_or-map first_part costs k None (pos 0) there in
      let second = get_or-map second_part costs k None (pos 0) there in
      rw (first, second) (stand k None there)

  seconds_in_range : All IsPartInRange (map second_part costs)
  seconds_in_range = All-map IsPartInRange second_part costs (All-weaker StandsByParts (λ cost. IsPartInRange (second_part cost)) (λ cost slot. slot.second_in_range) costs stand)

-- the table of a file without a fault is an instance
module _ (law : TablesAreInstances) (n m : ℕ) (cells : List (List ℕ)) (few : AreFew n m) (count : length cells ≡ n * m) (stand : All StandsByParts (map cell_of cells)) where
  abbrev costs : List (Option Cost)
  costs = map cell_of cells

  abbrev firsts : List ℤ
  firsts = map first_part costs

  abbrev seconds : List ℤ
  seconds = map second_part costs

  whole : length firsts ≡ length (range_with_len 1 n) * length (range_with_len 1 m)
  whole = length-map costs first_part ∙ length-map cells cell_of ∙ count ∙ (λ i. sym (length-range_with_len 1 n) i * sym (length-range_with_len 1 m) i)

  table_is : table_of (range_with_len 1 n) (range_with_len 1 m) costs ≡ problem_of (map row_of (range_with_len 1 n)) (map column_of (range_with_len 1 m)) (table_cells (length (range_with_len 1 m)) firsts seconds) PlaceAll
  unfolding table_of
  table_is =
      ap (λ cells. problem_of (map row_of (range_with_len 1 n)) (map column_of (range_with_len 1 m)) cells PlaceAll)
      (same_cells (length (range_with_len 1 m)) costs firsts seconds (sym (length-map costs first_part)) (slots costs stand))

  pub file_instance : IsInstance (table_of (range_with_len 1 n) (range_with_len 1 m) costs)
  file_instance =
      let rows = length-range_with_len 1 n in
      let columns = length-range_with_len 1 m in
      let sizes : AreFew (length (range_with_len 1 n)) (length (range_with_len 1 m)) = subst (λ n. AreFew n (length (range_with_len 1 m))) (sym rows) (subst (AreFew n) (sym columns) few) in
      subst IsInstance (sym table_is)
      (table_instance law (range_with_len 1 n) (range_with_len 1 m) firsts seconds sizes (range_is_distinct n) (range_is_distinct m) (range_ids n (omega (arith, few.few_rows))) (range_ids m (omega (arith, few.few_columns)))
      (is_table (length (range_with_len 1 n)) (length (range_with_len 1 m)) costs firsts seconds whole (slots costs stand) (seconds_in_range costs stand)))

yes : (test : Bool) → not test ≡ false → test ≡ true
yes true e = refl
yes false e = cc

-- so is what a table spells
pub table_spells_instance : TablesAreInstances → (header : ℕ) (n m : Option ℕ) (cells : List (List ℕ)) (X : Problem) → reading_of_table header n m cells ≡ Spells X → IsInstance X
table_spells_instance law header None m cells X e = cc
table_spells_instance law header (Some n) None cells X e = cc
table_spells_instance law header (Some n) (Some m) cells X e =
    let table : Problem = table_of (range_with_len 1 n) (range_with_len 1 m) (map cell_of cells) in
    let all = spelled (table_faults header n m cells) table X e in
    let parts = none_in_front (size_faults n m) (faults_of_cells header (n * m) cells) all.0 in
    let sizes = none_in_front (fault_where (n == 0) NoRows) _ parts.0 in
    let more = none_in_front (cell_faults (header + 1) (take (n * m) cells)) _ parts.1 in
    let count : length cells ≡ n * m = eqb-true (length cells) (n * m) (yes (length cells == n * m) (none_where (not (length cells == n * m)) (TokenCount (n * m) (length cells)) more.1)) in
    let right : cell_faults (header + 1) cells ≡ [] = ap (cell_faults (header + 1)) (sym (take_all (n * m) cells (omega (arith, count)))) ∙ more.0 in
    subst IsInstance all.1 (file_instance law n m cells (are_few n m sizes.0 sizes.1) count (cells_stand (header + 1) cells right))

pub square_spells_instance : TablesAreInstances → (tokens : List (List ℕ)) (X : Problem) → reading_of_square tokens ≡ Spells X → IsInstance X
square_spells_instance law [] X e = cc
square_spells_instance law (n ∷ cells) X e = table_spells_instance law 1 (size_of n) (size_of n) cells X e

pub rect_spells_instance : TablesAreInstances → (tokens : List (List ℕ)) (X : Problem) → reading_of_rect tokens ≡ Spells X → IsInstance X
rect_spells_instance law [] X e = cc
rect_spells_instance law (n ∷ []) X e = cc
rect_spells_instance law (n ∷ m ∷ cells) X e = table_spells_instance law 2 (size_of n) (size_of m) cells X e
