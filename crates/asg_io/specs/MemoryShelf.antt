-- A shelf in memory: what it holds, and which of its fetches fail.
use Rattle.std.specs.Prelude.{◌==◌, ◌+◌, ◌||◌, ℕ, Bool, List, Option, length, find, is_none}
use Rattle.std.specs.Prelude.{option_map, bytes_eq, String, string_bytes, Vec}
use Rattle.std.specs.List.{list_any}
use Rattle.std.specs.declared.alloc.Global.{Global}

-- the files by name, the numbers of the fetches that fail, the names asked so far, and the count of
-- faults
pub record HeldFiles : Type 0 where
  pub files : List (List ℕ × List ℕ)
  pub fails : List ℕ
  pub asked : List (List ℕ)
  pub faults : ℕ

-- a file as its name and contents
abbrev pub file_bytes : String Global × Vec ℕ Global → List ℕ × List ℕ
file_bytes file = (string_bytes file.0, file.1.items)

-- the contents of a name: those of its first pair
abbrev pub contents_of : List (List ℕ × List ℕ) → List ℕ → Option (List ℕ)
contents_of files name = option_map (λ file. file.1) (find (λ file. bytes_eq file.0 name) files)

-- the number of the next fetch: one more than the names asked so far
abbrev pub fetch_number : HeldFiles → ℕ
fetch_number shelf = length shelf.asked + 1

-- the next fetch of the name fails: its number is one of those that do, or the name isn't held
abbrev pub is_failing_fetch : HeldFiles → List ℕ → Bool
is_failing_fetch shelf name =
    list_any (λ n. n == fetch_number shelf) shelf.fails || is_none (contents_of shelf.files name)
