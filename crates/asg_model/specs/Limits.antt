use Rattle.std.specs.Prelude.{ℕ}

-- the greatest distance of a part of a cost from 0
abbrev pub most_cost : ℕ
most_cost = 1000000000

-- the greatest number of rows
abbrev pub most_rows : ℕ
most_rows = 1000

-- the greatest number of columns
abbrev pub most_columns : ℕ
most_columns = 1000

-- the greatest capacity of a column
abbrev pub most_capacity : ℕ
most_capacity = 1000

-- the greatest side of a square
abbrev pub most_side : ℕ
most_side = 2000

-- the greatest length of a file, in bytes
abbrev pub longest_file : ℕ
longest_file = 268435456

-- the greatest number of choices that are ranked
abbrev pub most_ranked : ℕ
most_ranked = 4000000
