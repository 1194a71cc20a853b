-- How many different numbers there can be.
use Rattle.std.proofs.Common.{◌≢◌, ℕ, ◌≤◌, List, length, AllPairs, Contains}
use Rattle.std.proofs.lemmas.Bool.{eqb-true}
use Rattle.std.proofs.lemmas.Bool.Decides.{Decides-eqb}
use Rattle.std.proofs.lemmas.Cmp.{nat_eq_equiv}
use Rattle.std.proofs.lemmas.Map.Made.{IsDistinct-from_AllPairs, length-le_from_is_member}
use Rattle.std.proofs.lemmas.Map.Views.{Contains-from_any, list_any-from_Contains}

-- different numbers that all stand in a list are at most as many as it
pub length-le_from_within : (xs ys : List ℕ) → AllPairs ◌≢◌ xs → ((x : ℕ) → Contains xs x → Contains ys x) → length xs ≤ length ys
length-le_from_within xs ys apart within =
    length-le_from_is_member nat_eq_equiv xs ys (IsDistinct-from_AllPairs Decides-eqb xs apart)
    (λ q m. list_any-from_Contains nat_eq_equiv q ys (within q (Contains-from_any eqb-true q xs m)))
