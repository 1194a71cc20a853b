-- What a square or a rect file spells is a plain instance.
use Rattle.asg_text.proofs.Common.{◌≡◌, ℕ, List, [], ◌∷◌, map, Some, None, Option, sym, refl, ap, subst, length-map-range_with_len, range_with_len, Problem, Cost, IsPlain, Square, Rect, size_of, tokens, Spells, row_of, column_of, cell_of, table_faults, reading_of_table, reading_of_square, reading_of_rect, spelled}
use Rattle.asg_tokens.specs.Readings.{table_of}
use Rattle.asg_text.specs.Texts.{reading_of}

table_is_plain : (n m : ℕ) (costs : List (Option Cost)) → IsPlain (table_of (range_with_len 1 n) (range_with_len 1 m) costs)
unfolding table_of
table_is_plain n m costs = record {
  rows = ap (λ k. map row_of (range_with_len 1 k)) (sym (length-map-range_with_len row_of 1 n));
  columns = ap (λ k. map column_of (range_with_len 1 k)) (sym (length-map-range_with_len column_of 1 m));
  place = refl;
}

table_spells_plain : (header : ℕ) (n m : Option ℕ) (cells : List (List ℕ)) (X : Problem) → reading_of_table header n m cells ≡ Spells X → IsPlain X
table_spells_plain header None m cells X e = cc
table_spells_plain header (Some n) None cells X e = cc
table_spells_plain header (Some n) (Some m) cells X e =
    let table : Problem = table_of (range_with_len 1 n) (range_with_len 1 m) (map cell_of cells) in
    subst IsPlain (spelled (table_faults header n m cells) table X e).1 (table_is_plain n m (map cell_of cells))

square_spells_plain : (cells : List (List ℕ)) (X : Problem) → reading_of_square cells ≡ Spells X → IsPlain X
square_spells_plain [] X e = cc
square_spells_plain (n ∷ cells) X e = table_spells_plain 1 (size_of n) (size_of n) cells X e

rect_spells_plain : (cells : List (List ℕ)) (X : Problem) → reading_of_rect cells ≡ Spells X → IsPlain X
rect_spells_plain [] X e = cc
rect_spells_plain (n ∷ []) X e = cc
rect_spells_plain (n ∷ m ∷ cells) X e = table_spells_plain 2 (size_of n) (size_of m) cells X e

pub square_is_plain : (bytes : List ℕ) (X : Problem) → reading_of Square bytes ≡ Spells X → IsPlain X
unfolding reading_of
square_is_plain bytes X e = square_spells_plain (tokens bytes) X e

pub rect_is_plain : (bytes : List ℕ) (X : Problem) → reading_of Rect bytes ≡ Spells X → IsPlain X
unfolding reading_of
rect_is_plain bytes X e = rect_spells_plain (tokens bytes) X e
