-- What is read at an index of a list.
use Rattle.asg_model.proofs.Common.{◌≡◌, ℕ, List, length, get_or, Some, slice_get, true, ltb, refl, sym}
use Rattle.std.proofs.lemmas.Bool.{ltb-true}
use Rattle.std.proofs.lemmas.Option.{slice_get_read}

-- an element that is there
pub read_at : {X : Type 0} (xs : List X) (i : ℕ) (x : X) → true ≡ ltb i (length xs) → x ≡ get_or xs i x → slice_get xs i ≡ Some x
read_at xs i x within is = slice_get_read xs (length xs) i x refl (ltb-true i (length xs) (sym within)) is
