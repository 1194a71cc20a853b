-- How long rect texts are.
use Rattle.asg_text.proofs.Common.{ℕ, suc, ◌+◌, ◌*◌, ◌≤◌, List, [], ◌∷◌, ◌++◌, map, length, ℤ, pos, negsuc, unsigned_abs, Some, None, decimal, All, Option, flat_map, int_eq, arith, length-append, All-head, All-map, All-tail, All-weaker, cond_both, join_with_byte, length-decimal-le, mul-le, signed_decimal, most_cost, longest_file, Cost, cell_text, token_line}
use Rattle.asg_text.proofs.WrittenCells.{IsCellInRange}

-- a token of at most 23 bytes
abbrev pub IsShort : List ℕ → Type 0
IsShort token = length token ≤ 23

length-part : (a : ℤ) → unsigned_abs a ≤ most_cost → length (signed_decimal a) ≤ 11
length-part (pos n) within = omega (arith, length-decimal-le 10 n (omega arith) (omega arith) (omega arith))
length-part (negsuc n) within = omega (arith, length-decimal-le 10 (suc n) (omega arith) (omega arith) (omega arith))

cell_is_short : (cell : Option Cost) → IsCellInRange cell → IsShort (cell_text cell)
cell_is_short None within = omega arith
cell_is_short (Some cost) within =
    let first = length-part cost.a within.a_in_range in
    let second = length-part cost.b within.b_in_range in
    cond_both (int_eq cost.b (pos 0)) (signed_decimal cost.a) (signed_decimal cost.a ++ 58 ∷ signed_decimal cost.b) IsShort
    (λ plain. omega arith)
    (λ pair. omega (arith, length-append (signed_decimal cost.a) (58 ∷ signed_decimal cost.b)))

pub cells_are_short : (cells : List (Option Cost)) → All IsCellInRange cells → All IsShort (map cell_text cells)
cells_are_short cells within =
    All-map IsShort cell_text cells (All-weaker IsCellInRange (λ cell. IsShort (cell_text cell)) cell_is_short cells within)

pub size_is_short : (n : ℕ) → n ≤ 1000 → IsShort (decimal n)
size_is_short n few = omega (arith, length-decimal-le 4 n (omega arith) (omega arith) (omega arith))

-- a line of so many tokens
length-join : (line : List (List ℕ)) → All IsShort line → length (join_with_byte 32 line) ≤ 24 * length line
length-join [] short = omega arith
length-join (token ∷ []) short = omega (arith, All-head IsShort token [] short)
length-join (token ∷ next ∷ line) short =
    omega (arith, length-append token (32 ∷ join_with_byte 32 (next ∷ line)), All-head IsShort token (next ∷ line) short, length-join (next ∷ line) (All-tail IsShort token (next ∷ line) short))

pub length-line : (line : List (List ℕ)) → All IsShort line → length (token_line line) ≤ 24 * length line + 1
length-line line short = omega (arith, length-append (join_with_byte 32 line) (10 ∷ []), length-join line short)

-- so many lines of at most so many bytes
pub length-lines : (line : ℕ → List ℕ) (most : ℕ) (rows : List ℕ) → ((r : ℕ) → length (line r) ≤ most) → length (flat_map line rows) ≤ length rows * most
length-lines line most [] few = omega arith
length-lines line most (r ∷ rows) few =
    omega (arith, length-append (line r) (flat_map line rows), few r, length-lines line most rows few)

pub few_bytes : (sizes rows n m : ℕ) → n ≤ 1000 → m ≤ 1000 → sizes ≤ 49 → rows ≤ n * (24 * m + 1) → sizes + rows ≤ longest_file
few_bytes sizes rows n m few_rows few_columns short within =
    omega (arith, mul-le n (24 * m + 1) 1000 24001 few_rows (omega arith))
