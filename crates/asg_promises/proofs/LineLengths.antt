-- How long the lines of a document are.
use Rattle.asg_promises.proofs.Common.{◌≡◌, ℕ, suc, ◌+◌, ◌*◌, ◌^◌, ◌<◌, ◌≤◌, List, [], ◌∷◌, ◌++◌, map, length, get_or, ℤ, pos, negsuc, FitsSigned, codes, decimal, All, flat_map, ap, ◌∙◌, arith, length-append, flat_map-map, ints, length-decimal-le_wide, length-flat_map, signed_decimal, sum_by-le, w128, IsWrittenValue, spaced, spaced_costs, cell_line, ended, value_line, HasWord, command_word, Command, objective_word, Objective, Sum, SumMax, SumPair, Capped, Bottleneck, BottleneckMax, TimeCost, Balanced, Lex, Value, One, Two, Many}
use Rattle.std.specs.Int.{w64}
use Rattle.std.proofs.lemmas.Grind.{flat_map-append}
use Rattle.asg_doc.specs.declared.documents.ValueForm.{ValueForm}
use Rattle.asg_promises.proofs.ListedCosts.{listed_costs}
use Rattle.asg_doc.specs.declared.documents.Command.TheVariants.{Solve as SolveCommand, Rank as RankCommand, Edit as EditCommand}
use Rattle.asg_doc.specs.declared.documents.ValueForm.TheVariants as forms

-- what is written of a number of 32 bits has at most 10 digits
pub digits_of_id : (n : ℕ) → n < 2 ^ 32 → length (decimal n) ≤ 10
digits_of_id n fits = length-decimal-le_wide 10 n (omega arith) (omega arith) (omega arith)

-- what is written of a number of 128 bits has at most 40 bytes
digits_of_value : (z : ℤ) → FitsSigned w128 z → length (signed_decimal z) ≤ 40
digits_of_value (pos n) fits = length-decimal-le_wide 40 n (omega arith) (omega (arith, fits.sfits)) (omega (arith, fits.sfits))
digits_of_value (negsuc n) fits = omega (arith, length-decimal-le_wide 39 (suc n) (omega arith) (omega (arith, fits.sfits)) (omega (arith, fits.sfits)))

-- pieces of at most so many bytes, one after the other
pub pieces : {A : Type 0} (f : A → List ℕ) (most : ℕ) (xs : List A) → All (λ x. length (f x) ≤ most) xs → length (flat_map f xs) ≤ length xs * most
pieces f most xs all = omega (arith, length-flat_map f xs, sum_by-le (λ x. length (f x)) most xs all)

-- the ids of rows, each after a space
pub length-spaced : (rows : List ℕ) → All (λ id. id < 2 ^ 32) rows → length (spaced rows) ≤ length rows * 11
length-spaced rows ids = pieces (λ number. 32 ∷ decimal number) 11 rows (λ i d within. omega (arith, digits_of_id (get_or rows i d) (ids i d within)))

-- the line of a cell
length-cell_line : (cell : ℕ × ℕ) → (cell.0 < 2 ^ 32) × (cell.1 < 2 ^ 32) → length (cell_line cell ++ 10 ∷ []) ≤ 22
length-cell_line cell ids =
    omega (arith, length-append (cell_line cell) (10 ∷ []), length-append (decimal cell.0) (32 ∷ decimal cell.1), digits_of_id cell.0 ids.0, digits_of_id cell.1 ids.1)

-- the lines of cells
pub length-cell_lines : (cells : List (ℕ × ℕ)) → All (λ cell. (cell.0 < 2 ^ 32) × (cell.1 < 2 ^ 32)) cells → length (ended (map cell_line cells)) ≤ length cells * 22
length-cell_lines cells ids =
    let each = pieces (λ cell. cell_line cell ++ 10 ∷ []) 22 cells (λ i d within. length-cell_line (get_or cells i d) (ids i d within)) in
    omega (arith, each, ap length (flat_map-map (λ line. line ++ 10 ∷ []) cell_line cells))

-- a line, and those after it
pub length-line : (line : List ℕ) (lines : List (List ℕ)) → length (ended (line ∷ lines)) ≡ length line + (1 + length (ended lines))
length-line line lines = omega (arith, length-append (line ++ 10 ∷ []) (ended lines), length-append line (10 ∷ []))

-- lines, and those after them
pub length-behind : (lines rest : List (List ℕ)) → length (ended (lines ++ rest)) ≡ length (ended lines) + length (ended rest)
length-behind lines rest = ap length (flat_map-append (λ line. line ++ 10 ∷ []) lines rest) ∙ length-append (ended lines) (ended rest)

-- the words of a document
pub length-command : (command : Command) → length (command_word command) ≤ 5
length-command SolveCommand = omega arith
length-command RankCommand = omega arith
length-command EditCommand = omega arith

pub length-objective : (objective : Objective) → HasWord objective → length (objective_word objective) ≤ 20
length-objective Sum word = omega arith
length-objective SumMax word = omega arith
length-objective SumPair word = omega arith
length-objective (Capped cap) word = omega (arith, length-append (codes "capped=") (decimal cap), length-decimal-le_wide 13 cap (omega arith) (omega (arith, word.1)) (omega (arith, word.1)))
length-objective Bottleneck word = omega arith
length-objective BottleneckMax word = omega arith
length-objective TimeCost word = omega arith
length-objective Balanced word = omega arith
length-objective Lex word = omega arith

-- a signed number of 64 bits has at most 40 bytes
pub digits_of_cost : (z : ℤ) → FitsSigned w64 z → length (signed_decimal z) ≤ 40
digits_of_cost z fits = digits_of_value z (omega (arith, ints, fits))

length-costs : (costs : List ℤ) → All (FitsSigned w64) costs → length (spaced_costs costs) ≤ length costs * 41
length-costs costs fits = pieces (λ cost. 32 ∷ signed_decimal cost) 41 costs (λ i d within. omega (arith, digits_of_cost (get_or costs i d) (fits i d within)))

-- the line of a value that has a text
pub length-value : (form : ValueForm) (value : Value) → IsWrittenValue form value → length (value_line value) ≤ 87 + listed_costs value * 41
length-value forms.One (One value) fits = omega (arith, digits_of_value value fits, length-append (codes "value ") (signed_decimal value))
length-value forms.Many (Many costs) fits = omega (arith, length-append (codes "value") (spaced_costs costs), length-costs costs fits.each)
length-value forms.Two (Two first second) fits =
    omega (
      arith,
      digits_of_value first fits.0,
      digits_of_value second fits.1,
      length-append (codes "value ") (signed_decimal first ++ 58 ∷ signed_decimal second),
      length-append (signed_decimal first) (58 ∷ signed_decimal second),
    )
length-value forms.One (Two first second) fits = absurd fits
length-value forms.One (Many costs) fits = absurd fits
length-value forms.Two (One value) fits = absurd fits
length-value forms.Two (Many costs) fits = absurd fits
length-value forms.Many (One value) fits = absurd fits
length-value forms.Many (Two first second) fits = absurd fits
