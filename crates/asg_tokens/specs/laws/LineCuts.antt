-- The first line of a text.
use Rattle.std.proofs.Common.{◌≡◌, ℕ, ◌+◌, ◌-◌, ◌<◌, ◌≤◌, Bool, true, false, cond, ◌==◌, eqb, List, [], ◌∷◌, ◌++◌, length, take, drop, refl, sym, ap, ◌∙◌, arith}
use Rattle.std.specs.Prelude.{All}
use Rattle.std.specs.List.{slice_split, onto_first, position_or_len}
use Rattle.std.specs.Str.Lines.{lines, lines_of_parts, strip_carriage_return}
use Rattle.std.proofs.lemmas.Bool.{ne_eqb}
use Rattle.std.proofs.lemmas.List.{take_rest, drop_all}
use Rattle.std.proofs.lemmas.List.Elements.{All-from_get_or}
use Rattle.std.proofs.lemmas.List.Splits.{slice_split_first, slice_split_none, slice_split_at, length-slice_split}
use Rattle.std.proofs.lemmas.List.Sums.{fails_before_first}

-- whether a byte ends a line
abbrev is_end : ℕ → Bool
is_end byte = byte == 10

-- a text without an LF is its last line
pub last_line : (text : List ℕ) (len : ℕ) → len ≡ position_or_len is_end text → len ≡ length text → 0 < length text → lines text ≡ text ∷ lines (take (length text - len) (drop len text))
last_line text len at all some =
    let none : All (λ b. is_end b ≡ false) text = All-from_get_or (λ b. is_end b ≡ false) text 0 (λ k below. fails_before_first is_end text k 0 (omega (arith, at))) in
    let left : take (length text - len) (drop len text) ≡ [] = take_rest text len ∙ drop_all len text (omega arith) in
    ap lines_of_parts (slice_split_none is_end text none) ∙ ap (λ v. cond v [] (text ∷ [])) (ne_eqb (length text) 0 (omega arith)) ∙ ap (λ rest. text ∷ lines rest) (sym left)

-- a part before others ends in an LF
ended_part : (first : List ℕ) (parts : List (List ℕ)) → 0 < length parts → lines_of_parts (first ∷ parts) ≡ strip_carriage_return first ∷ lines_of_parts parts
ended_part first [] some = absurd (omega arith)
ended_part first (next ∷ parts) some = refl

ended_line : (text : List ℕ) (first : List ℕ) → lines_of_parts (first ∷ slice_split is_end text) ≡ strip_carriage_return first ∷ lines text
ended_line text first = ended_part first (slice_split is_end text) (omega (arith, length-slice_split is_end text))

-- an LF ends the line of the bytes before it
pub line_at : (line rest : List ℕ) → All (λ b. is_end b ≡ false) line → lines (line ++ (10 ∷ rest)) ≡ strip_carriage_return line ∷ lines rest
line_at line rest none = ap lines_of_parts (slice_split_at is_end line 10 rest none refl) ∙ ended_line rest line

-- what stands before the first LF, less the CR at its end, is the first line
pub line_before : (text : List ℕ) (len : ℕ) → len ≡ position_or_len is_end text → len < length text → lines text ≡ strip_carriage_return (take len text) ∷ lines (take (length text - (len + 1)) (drop (len + 1) text))
line_before text len at within =
    ap lines_of_parts (slice_split_first is_end text 0 (omega (arith, at)) ∙ (λ i. take (sym at i) text ∷ slice_split is_end (drop (sym at i + 1) text)))
    ∙ ended_line (drop (len + 1) text) (take len text)
    ∙ ap (λ rest. strip_carriage_return (take len text) ∷ lines rest) (sym (take_rest text (len + 1)))

-- one more byte in the first part adds at most one line
at_most_one : (v : Bool) (part : List ℕ) → length (cond v [] (part ∷ [])) ≤ 1
at_most_one true part = omega arith
at_most_one false part = omega arith

length-onto : (b : ℕ) (parts : List (List ℕ)) → length (lines_of_parts (onto_first b parts)) ≤ length (lines_of_parts parts) + 1
length-onto b [] = omega arith
length-onto b (x ∷ []) = omega (arith, at_most_one (eqb (length (b ∷ x)) 0) (b ∷ x))
length-onto b (x ∷ y ∷ more) = omega arith

-- a text has no more lines than bytes
pub length-lines : (text : List ℕ) → length (lines text) ≤ length text
length-lines [] = omega arith
length-lines (b ∷ bs) =
    let so_far = length-lines bs in
    elim (is_end b) as (λ v. length (lines_of_parts (cond v ([] ∷ slice_split is_end bs) (onto_first b (slice_split is_end bs)))) ≤ length (b ∷ bs)) [
      | true ↦ omega (arith, ap length (ended_line bs []))
      | false ↦ omega (arith, length-onto b (slice_split is_end bs))
    ]
