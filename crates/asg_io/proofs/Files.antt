-- Looking a name up among files as a shelf stores them.
use Rattle.std.proofs.Common.{◌≡◌, ℕ, List, [], ◌∷◌, cond, true, false, map, find, bytes_eq, option_map, Option, Some, String, string_bytes, Vec, ap, refl}
use Rattle.std.specs.declared.alloc.Global.{Global}
use Rattle.asg_io.specs.MemoryShelf.{file_bytes, contents_of}

-- the contents of the stored file that the name finds
abbrev pub stored_contents : List (String Global × Vec ℕ Global) → List ℕ → Option (List ℕ)
stored_contents files name = option_map (λ (file : String Global × Vec ℕ Global). file.1.items) (find (λ file. bytes_eq (string_bytes file.0) name) files)

-- the contents of a name are those of the stored file that it finds
pub contents_of-map : (files : List (String Global × Vec ℕ Global)) (name : List ℕ) → contents_of (map file_bytes files) name ≡ stored_contents files name
contents_of-map [] name = refl
contents_of-map (file ∷ files) name =
    elim (bytes_eq (string_bytes file.0) name) as (λ same. option_map (λ (seen : List ℕ × List ℕ). seen.1) (cond same (Some (file_bytes file)) (find (λ seen. bytes_eq seen.0 name) (map file_bytes files))) ≡ option_map (λ (stored : String Global × Vec ℕ Global). stored.1.items) (cond same (Some file) (find (λ stored. bytes_eq (string_bytes stored.0) name) files)))
    [ true ↦ refl | false ↦ contents_of-map files name ]

pub ruleset held_contents = contents_of-map

-- a stored file that the name finds has the contents of the name
pub found_contents : (seen : List (List ℕ × List ℕ)) (files searched : List (String Global × Vec ℕ Global)) (name : List ℕ) (file : String Global × Vec ℕ Global) (bytes : List ℕ) → seen ≡ map file_bytes files → searched ≡ files → Some file ≡ find (λ file. bytes_eq (string_bytes file.0) name) searched → bytes ≡ file.1.items → Some bytes ≡ contents_of seen name
found_contents seen files searched name file bytes view same found contents =
    let stored = ap (option_map (λ (file : String Global × Vec ℕ Global). file.1.items)) found in
    let shown = contents_of-map files name in
    cc
