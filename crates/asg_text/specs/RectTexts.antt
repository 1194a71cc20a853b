-- The rect text of an instance.
use Rattle.std.specs.Prelude.{◌≡◌, ℕ, pos, if◌then◌else◌, List, [], ◌∷◌, ◌++◌, codes, length, map, Option, Some, None}
use Rattle.std.specs.Fmt.{decimal, signed_decimal}
use Rattle.std.specs.List.{flat_map, join_with_byte, range_with_len}
use Rattle.std.specs.Ordering.{int_eq}
use Rattle.asg_model.specs.declared.parts.Cost.{Cost}
use Rattle.asg_model.specs.declared.parts.Place.TheVariants.{All}
use Rattle.asg_model.specs.Live.{cost_at}
use Rattle.asg_model.specs.Problem.{Problem}
use Rattle.asg_tokens.specs.Readings.{row_of, column_of}

-- a plain instance: rows that are all active, columns that are all open for one row, the ids of
-- both from 1 on, and all rows to be placed
pub record IsPlain (X : Problem) : Type 0 where
  pub rows : X.rows ≡ map row_of (range_with_len 1 (length X.rows))
  pub columns : X.columns ≡ map column_of (range_with_len 1 (length X.columns))
  pub place : X.place ≡ All

-- the token of a cost: its first part, and where its second part isn't 0 a colon and that part
abbrev pub cost_text : Cost → List ℕ
cost_text cost =
    if int_eq cost.b (pos 0) then signed_decimal cost.a
    else signed_decimal cost.a ++ 58 ∷ signed_decimal cost.b

-- the token of a cell of this cost, or of an absent one
abbrev pub cell_text : Option Cost → List ℕ
cell_text None = codes "-"
cell_text (Some cost) = cost_text cost

-- a line of tokens with a space between each two
abbrev pub token_line : List (List ℕ) → List ℕ
token_line tokens = join_with_byte 32 tokens ++ 10 ∷ []

-- the costs of the cells of the row at place r, column by column
abbrev pub costs_of_row : Problem → ℕ → List (Option Cost)
costs_of_row X r = map (cost_at X.cells r) (range_with_len 0 (length X.columns))

-- the line of the row at place r
abbrev pub row_line : Problem → ℕ → List ℕ
row_line X r = token_line (map cell_text (costs_of_row X r))

-- the line of the sizes
abbrev pub size_line : Problem → List ℕ
size_line X = token_line (decimal (length X.rows) ∷ decimal (length X.columns) ∷ [])

-- the rect text of an instance: the line of its sizes, and a line for each row
unfoldable pub rect_text : Problem → List ℕ
rect_text X = size_line X ++ flat_map (row_line X) (range_with_len 0 (length X.rows))
