-- The contents of the files of a job, in the order of their names.
use Rattle.std.specs.Prelude.{◌≡◌, ◌≤◌, ℕ, List, [], ◌∷◌, length, slice_index_or, All, Option, IfSome}
use Rattle.asg_model.specs.Limits.{longest_file}

-- the contents at a place, none past the last
abbrev pub content_at : List (List ℕ) → ℕ → List ℕ
content_at contents place = slice_index_or contents place []

-- no file is longer than the longest that is read
abbrev pub AreShort : List (List ℕ) → Type 0
AreShort contents = All (λ bytes. length bytes ≤ longest_file) contents

-- the contents of a file may be these bytes: where they are told, they are
abbrev pub MayHold : (List ℕ → Option (List ℕ)) → List ℕ → List ℕ → Type 0
MayHold told name bytes = IfSome (told name) (λ held. bytes ≡ held)

-- so each of the files, in the order of their names
abbrev pub MayHoldAll : (List ℕ → Option (List ℕ)) → List (List ℕ) → List (List ℕ) → Type 0
MayHoldAll told [] [] = Unit {0}
MayHoldAll told (name ∷ names) (bytes ∷ contents) =
    MayHold told name bytes × MayHoldAll told names contents
MayHoldAll told _ _ = ⊥
