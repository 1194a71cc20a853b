-- The lines, fields and tokens of a text.
use Rattle.std.specs.Prelude.{ℕ, ◌==◌, ◌||◌, nat_lt, Bool, List, filter, length}
use Rattle.std.specs.List.{slice_split}

-- what stands between the separators of a text, in order, where anything does
unfoldable pub pieces : (ℕ → Bool) → List ℕ → List (List ℕ)
pieces is_separator text = filter (λ piece. nat_lt 0 (length piece)) (slice_split is_separator text)

-- space and tab separate the fields of a line
abbrev pub is_blank : ℕ → Bool
is_blank byte = byte == 32 || byte == 9

-- space, tab, CR and LF separate the tokens of a text
abbrev pub is_space : ℕ → Bool
is_space byte = byte == 32 || byte == 9 || byte == 13 || byte == 10

-- the fields of a line
abbrev pub fields : List ℕ → List (List ℕ)
fields line = pieces is_blank line

-- the tokens of a text
abbrev pub tokens : List ℕ → List (List ℕ)
tokens text = pieces is_space text
