-- Square and rect files, by their tokens.
use Rattle.std.specs.Prelude.{ℕ, ◌+◌, ◌*◌, ◌==◌, pos, ◌&&◌, ◌||◌, nat_le, nat_lt, not, bytes_eq, codes, if◌then◌else◌, List, [], ◌∷◌, ◌++◌, length, take, map, Option, Some, None, option_and_then, unsigned_abs, Bool}
use Rattle.std.specs.Option.{option_map, option_or}
use Rattle.std.specs.List.{before_first, after_first, range_with_len}
use Rattle.asg_model.specs.Limits.{most_cost, most_rows, most_columns}
use Rattle.asg_model.specs.declared.parts.Cost.{Cost}
use Rattle.asg_tokens.specs.Numbers.{integer_of, size_of}
use Rattle.asg_tokens.specs.Faults.{Fault, TooLarge, NoRows, CostRange, TokenCount, BadToken, fault_where}
use Rattle.asg_tokens.specs.Readings.{Reading, Refuses, reading_with, table_of}

-- the cost of an integer: its second part is 0
abbrev pub plain_cost_of : List ℕ → Option Cost
plain_cost_of token = option_map (λ a. record { a = a; b = pos 0 }) (integer_of token)

-- the cost of a pair `a:b`: what stands before the first colon is an integer, and so is what stands
-- behind it
abbrev pub pair_cost_of : List ℕ → Option Cost
pair_cost_of token =
    option_and_then (λ a.
    option_map (λ b. record { a = a; b = b }) (integer_of (after_first (λ byte. byte == 58) token)))
    (integer_of (before_first (λ byte. byte == 58) token))

-- the cost of an integer or a pair
abbrev pub cost_of : List ℕ → Option Cost
cost_of token = option_or (plain_cost_of token) (pair_cost_of token)

-- the token of an absent cell
abbrev pub is_absent : List ℕ → Bool
is_absent token = bytes_eq token (codes "-")

-- both parts of a cost are in range
abbrev pub is_in_range : Cost → Bool
is_in_range cost = nat_le (unsigned_abs cost.a) most_cost && nat_le (unsigned_abs cost.b) most_cost

-- a cost, where it is in range
abbrev pub cost_in_range : Cost → Option Cost
cost_in_range cost = if is_in_range cost then Some cost else None

-- the faults of a cost token at a place, or of one that is none
abbrev pub cost_faults : ℕ → Option Cost → List Fault
cost_faults place None = BadToken place ∷ []
cost_faults place (Some cost) = fault_where (not (is_in_range cost)) (CostRange place)

-- the fault of a cell token, if it has one: it is no cell, or its cost is out of range
unfoldable pub token_faults : ℕ → List ℕ → List Fault
token_faults place token = if is_absent token then [] else cost_faults place (cost_of token)

-- the faults of cell tokens that stand from a place on
abbrev pub cell_faults : ℕ → List (List ℕ) → List Fault
cell_faults place [] = []
cell_faults place (token ∷ cells) = token_faults place token ++ cell_faults (place + 1) cells

-- the faults of the sizes of a table
abbrev pub size_faults : ℕ → ℕ → List Fault
size_faults n m =
    fault_where (n == 0) NoRows
    ++ fault_where (nat_lt most_rows n || nat_lt most_columns m) (TooLarge n m)

-- the faults of cell tokens behind a header of so many, where there are to be so many, the earliest
-- first
abbrev pub faults_of_cells : ℕ → ℕ → List (List ℕ) → List Fault
faults_of_cells header count cells =
    cell_faults (header + 1) (take count cells)
    ++ fault_where (not (length cells == count)) (TokenCount count (length cells))

-- the faults of a table of n rows and m columns with these tokens behind a header of so many, the
-- earliest first
abbrev pub table_faults : ℕ → ℕ → ℕ → List (List ℕ) → List Fault
table_faults header n m cells =
    size_faults n m ++ faults_of_cells header (n * m) cells

-- the cost of a cell token that has no fault; none of an absent cell
unfoldable pub cell_of : List ℕ → Option Cost
cell_of token = if is_absent token then None else cost_of token

-- the reading of a table whose header spells these sizes, and has so many tokens
abbrev pub reading_of_table : ℕ → Option ℕ → Option ℕ → List (List ℕ) → Reading
reading_of_table header None m cells = Refuses (BadToken 1)
reading_of_table header (Some n) None cells = Refuses (BadToken 2)
reading_of_table header (Some n) (Some m) cells =
    reading_with (table_faults header n m cells)
    (table_of (range_with_len 1 n) (range_with_len 1 m) (map cell_of cells))

-- the reading of a square file: a size n, and n times n cells row by row
abbrev pub reading_of_square : List (List ℕ) → Reading
reading_of_square [] = Refuses (TokenCount 1 0)
reading_of_square (n ∷ cells) = reading_of_table 1 (size_of n) (size_of n) cells

-- the reading of a rect file: two sizes n and m, and n times m cells row by row
abbrev pub reading_of_rect : List (List ℕ) → Reading
reading_of_rect [] = Refuses (TokenCount 2 0)
reading_of_rect (n ∷ []) = Refuses (TokenCount 2 1)
reading_of_rect (n ∷ m ∷ cells) = reading_of_table 2 (size_of n) (size_of m) cells
