-- The instance of a table that was read whole.
use Rattle.std.proofs.Common.{◌≡◌, ◌≢◌, ℕ, suc, ◌+◌, ◌*◌, ◌/◌, ◌%◌, ◌<◌, ◌≤◌, cond, eqb, List, [], ◌∷◌, ◌++◌, length, get_or, take, map, min, Option, None, refl, sym, ap, ◌∙◌, ⊎_elim, arith, subst, length-drop}
use Rattle.std.specs.Prelude.{ℤ, pos, All, AllPairs, not}
use Rattle.std.specs.Option.{option_map}
use Rattle.std.specs.List.{enumerate_from, filter_map, cons_option, range_with_len}
use Rattle.std.proofs.lemmas.Bool.{cases_lt, eq-eqb, ne_eqb}
use Rattle.std.proofs.lemmas.List.{take_all, get_or-map, length-map, get_or_default}
use Rattle.std.proofs.lemmas.List.FromFn.{length-range_with_len, get_or-range_with_len}
use Rattle.std.proofs.lemmas.List.Elements.{All-nil}
use Rattle.std.proofs.lemmas.List.Sums.{get_or-le-sum_by}
use Rattle.asg_model.specs.declared.parts.Cost.{Cost}
use Rattle.asg_model.specs.declared.parts.Row.{Row}
use Rattle.asg_model.specs.declared.parts.Column.{Column}
use Rattle.asg_model.specs.declared.parts.Place.TheVariants.{All as PlaceAll}
use Rattle.asg_model.specs.Instances.{IsWellFormed, IsCostInRange}
use Rattle.asg_model.specs.Limits.{most_rows, most_columns}
use Rattle.asg_model.specs.Problem.{Problem, problem_of}
use Rattle.asg_model.specs.Table.{IsTable, IsEntry, table_cell, table_cells}
use Rattle.asg_model.specs.ValueRange.{IsPartInRange}
use Rattle.asg_tokens.specs.Faults.{TokenCount, fault_where}
use Rattle.asg_tokens.specs.Pieces.{tokens, is_space}
use Rattle.asg_tokens.specs.Readings.{Spells, Refuses, reading_with, row_of, column_of, cells_of_rows}
use Rattle.asg_tokens.specs.Tables.{cell_of, cell_faults, faults_of_cells, size_faults}
use Rattle.asg_tokens.specs.Slots.{cost_of_slot, IsSlot, AreRead}
use Rattle.asg_tokens.specs.laws.FirstPiece.{length-pieces}

-- ids that differ
abbrev pub AreDistinct : List ℕ → Type 0
AreDistinct ids = AllPairs (λ x y. x ≢ y) ids

pub range_is_distinct : (n : ℕ) → AreDistinct (range_with_len 1 n)
range_is_distinct n i j d before within same =
    let last : j < n = omega (arith, length-range_with_len 1 n) in
    absurd (omega (arith, same, get_or-range_with_len 1 n i d (omega arith), get_or-range_with_len 1 n j d last))

row_at : (ids : List ℕ) (i : ℕ) (d : Row) → i < length ids → get_or (map row_of ids) i d ≡ row_of (get_or ids i 0)
row_at ids i d within = get_or-map row_of ids i 0 d within

column_at : (ids : List ℕ) (i : ℕ) (d : Column) → i < length ids → get_or (map column_of ids) i d ≡ column_of (get_or ids i 0)
column_at ids i d within = get_or-map column_of ids i 0 d within

-- rows and columns with different ids, few of them, are the parts of an instance
pub are_parts : (rows columns : List ℕ) → 0 < length rows → length rows ≤ most_rows → length columns ≤ most_columns → AreDistinct rows → AreDistinct columns → IsWellFormed (problem_of (map row_of rows) (map column_of columns) [] PlaceAll)
are_parts rows columns some few_rows few_columns rows_differ columns_differ = record {
  some_active = omega (arith, get_or-le-sum_by (λ (row : Row). cond row.active 1 0) (map row_of rows) 0 (row_of 1) (omega (arith, length-map rows row_of)), ap {B = ℕ} (λ row. cond row.active 1 0) (row_at rows 0 (row_of 1) some));
  few_rows = omega (arith, length-map rows row_of);
  few_columns = omega (arith, length-map columns column_of);
  rows_differ = λ i j d before within same.
      let last : j < length rows = omega (arith, length-map rows row_of) in
      let first : i < length rows = omega arith in
      absurd (rows_differ i j 0 before last (sym (ap (λ row. row.id) (row_at rows i d first)) ∙ same ∙ ap (λ row. row.id) (row_at rows j d last)));
  columns_differ = λ i j d before within same.
      let last : j < length columns = omega (arith, length-map columns column_of) in
      let first : i < length columns = omega arith in
      absurd (columns_differ i j 0 before last (sym (ap (λ column. column.id) (column_at columns i d first)) ∙ same ∙ ap (λ column. column.id) (column_at columns j d last)));
  capacities = λ c d within. rw (column_at columns c d (omega (arith, length-map columns column_of))) (omega arith, omega arith);
  cells_within = All-nil _;
  costs = All-nil (λ cell. IsCostInRange cell.1);
  place_in_range = tt;
}

-- parts that stand for costs, place by place
unfoldable pub AreSlots : List (Option Cost) → List ℤ → List ℤ → Type 0
AreSlots costs firsts seconds = (k : ℕ) → k < length firsts → IsSlot (get_or costs k None) (get_or firsts k (pos 0)) (get_or seconds k (pos 0))

-- the cells of a table from a place on
cells_from : (m n : ℕ) (costs : List (Option Cost)) (firsts seconds : List ℤ) → length costs ≡ length firsts → ((k : ℕ) → k < length firsts → get_or costs k None ≡ cost_of_slot (get_or firsts k (pos 0)) (get_or seconds (n + k) (pos 0))) → filter_map (λ entry. option_map (λ cost. ((entry.0 / m, entry.0 % m), cost)) entry.1) (enumerate_from n costs) ≡ filter_map (table_cell m seconds) (enumerate_from n firsts)
cells_from m n [] [] seconds same slots = refl
cells_from m n [] (a ∷ firsts) seconds same slots = absurd (omega arith)
cells_from m n (cost ∷ costs) [] seconds same slots = absurd (omega arith)
cells_from m n (cost ∷ costs) (a ∷ firsts) seconds same slots =
    let here : cost ≡ cost_of_slot a (get_or seconds n (pos 0)) = slots 0 (omega arith) ∙ ap (λ k. cost_of_slot a (get_or seconds k (pos 0))) (let none : n + 0 ≡ n = omega arith in none) in
    let more = cells_from m (n + 1) costs firsts seconds (omega arith) (λ k within. slots (suc k) (omega arith) ∙ ap (λ i. cost_of_slot (get_or firsts k (pos 0)) (get_or seconds i (pos 0))) (let sum : n + suc k ≡ n + 1 + k = omega arith in sum)) in
    (λ i. cons_option (option_map (λ cost. ((n / m, n % m), cost)) (here i)) (more i))

pub same_cells : (m : ℕ) (costs : List (Option Cost)) (firsts seconds : List ℤ) → length costs ≡ length firsts → AreSlots costs firsts seconds → cells_of_rows m costs ≡ table_cells m firsts seconds
unfolding cells_of_rows table_cells AreSlots
same_cells m costs firsts seconds same slots =
    cells_from m 0 costs firsts seconds same (λ k within. (slots k within).is_cost ∙ ap (λ i. cost_of_slot (get_or firsts k (pos 0)) (get_or seconds i (pos 0))) (let sum : k ≡ 0 + k = omega arith in sum))

-- they are a whole table
pub is_table : (rows columns : ℕ) (costs : List (Option Cost)) (firsts seconds : List ℤ) → length firsts ≡ rows * columns → AreSlots costs firsts seconds → All IsPartInRange seconds → IsTable rows columns firsts seconds
unfolding AreSlots
is_table rows columns costs firsts seconds whole slots in_range = record {
  whole = whole;
  firsts_in_range = λ k d within. subst IsEntry (sym (get_or_default firsts k d (pos 0) within)) (slots k within).first_in_range;
  seconds_in_range = in_range;
}

-- the tokens of a text whose cells were read as far as there is room
module _ (text : List ℕ) {place : ℕ} {left : List (List ℕ)} {firsts seconds : List ℤ} (read : AreRead place (tokens text) left (length firsts) firsts seconds) where
  pub all_of : length firsts + length left ≡ length (tokens text)
  all_of = let within = read.within in omega (arith, ap length read.left_are, length-drop (length firsts) (tokens text))

  -- the cells that count were read
  pub cells_right : (count : ℕ) → length firsts ≡ min count (length text) → cell_faults place (take count (tokens text)) ≡ []
  cells_right count room =
      let few = length-pieces is_space text in
      let same : take count (tokens text) ≡ take (length firsts) (tokens text) =
      ⊎_elim
      (λ (short : length text < count). take_all count (tokens text) (omega arith) ∙ sym (take_all (length firsts) (tokens text) (omega arith)))
      (λ (long : count ≤ length text). ap (λ n. take n (tokens text)) (let equal : count ≡ length firsts = omega arith in equal))
      (cases_lt (length text) count) in
      ap (cell_faults place) same ∙ read.right

  -- as many tokens as cells
  module _ (count : ℕ) (room : length firsts ≡ min count (length text)) (found : length firsts + length left ≡ count) where
    pub room_is : length firsts ≡ count
    room_is = omega (arith, all_of, length-pieces is_space text)

    pub tokens_are : length (tokens text) ≡ count
    tokens_are = sym all_of ∙ found

    pub slots_are : AreSlots (map cell_of (tokens text)) firsts seconds
    unfolding AreSlots
    slots_are k within =
        subst (λ cost. IsSlot cost (get_or firsts k (pos 0)) (get_or seconds k (pos 0))) (sym (get_or-map cell_of (tokens text) k [] None (omega (arith, room_is, tokens_are)))) (read.slots k within)

-- a table whose number of tokens is at fault
pub miscounted : (text : List ℕ) {left : List (List ℕ)} {firsts seconds : List ℤ} (header n m found : ℕ) (X : Problem) → AreRead (header + 1) (tokens text) left (length firsts) firsts seconds → length firsts ≡ min (n * m) (length text) → size_faults n m ≡ [] → found ≡ length firsts + length left → found ≢ n * m → reading_with (size_faults n m ++ faults_of_cells header (n * m) (tokens text)) X ≡ Refuses (TokenCount (n * m) found)
miscounted text header n m found X read room right is other =
    let all : length (tokens text) ≡ found = sym (all_of text read) ∙ sym is in
    (λ i. reading_with (right i ++ (cells_right text read (n * m) room i ++ fault_where (not (eqb (all i) (n * m))) (TokenCount (n * m) (all i)))) X)
    ∙ ap (λ v. reading_with (fault_where (not v) (TokenCount (n * m) found)) X) (ne_eqb found (n * m) other)

-- a table without a fault
pub faultless : (text : List ℕ) {left : List (List ℕ)} {firsts seconds : List ℤ} (header n m : ℕ) (X : Problem) → AreRead (header + 1) (tokens text) left (length firsts) firsts seconds → length firsts ≡ min (n * m) (length text) → size_faults n m ≡ [] → length firsts + length left ≡ n * m → reading_with (size_faults n m ++ faults_of_cells header (n * m) (tokens text)) X ≡ Spells X
faultless text header n m X read room right found =
    let all : length (tokens text) ≡ n * m = tokens_are text read (n * m) room found in
    (λ i. reading_with (right i ++ (cells_right text read (n * m) room i ++ fault_where (not (eqb (all i) (n * m))) (TokenCount (n * m) (all i)))) X)
    ∙ ap (λ v. reading_with (fault_where (not v) (TokenCount (n * m) (n * m))) X) (eq-eqb (n * m) (n * m) refl)
