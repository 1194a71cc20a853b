-- The lines of a text, and where a list of bytes is cut.
use Rattle.std.specs.Prelude.{◌≡◌, ◌≢◌, ℕ, List, [], ◌∷◌, ◌++◌, ◌==◌, if◌then◌else◌, All, count_by}
use Rattle.std.specs.List.{flat_map}

-- lines, each ended by LF
abbrev pub ended : List (List ℕ) → List ℕ
ended lines = flat_map (λ line. line ++ 10 ∷ []) lines

-- a byte before the first line
abbrev pub prepend : ℕ → List (List ℕ) → List (List ℕ)
prepend byte [] = []
prepend byte (line ∷ lines) = (byte ∷ line) ∷ lines

-- the lines that are ended by LF, without it
abbrev pub whole_lines : List ℕ → List (List ℕ)
whole_lines [] = []
whole_lines (byte ∷ bytes) =
    if byte == 10 then [] ∷ whole_lines bytes else prepend byte (whole_lines bytes)

-- how many LF there are
abbrev pub line_ends : List ℕ → ℕ
line_ends bytes = count_by (λ byte. byte == 10) bytes

-- none of the bytes is this one
abbrev pub Lacks : ℕ → List ℕ → Type 0
Lacks at bytes = All (λ byte. byte ≢ at) bytes

-- there are no bytes, or this one comes first
abbrev pub IsCutAt : ℕ → List ℕ → Type 0
IsCutAt at [] = Unit {0}
IsCutAt at (byte ∷ bytes) = byte ≡ at
