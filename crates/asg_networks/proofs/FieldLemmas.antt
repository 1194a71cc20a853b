-- Lines with too many fields.
use Rattle.asg_networks.proofs.Common.{◌≡◌, ℕ, false, List, [], ◌∷◌, length, ◌==◌, None, refl, sizes_of, arc_of}

pub no_fourth : (a b c : List ℕ) (more : List (List ℕ)) → (length more == 0) ≡ false → arc_of (a ∷ b ∷ c ∷ more) ≡ None
no_fourth a b c [] some = cc
no_fourth a b c (field ∷ more) some = refl

pub no_fifth : (a b c : List ℕ) (more : List (List ℕ)) → (length more == 0) ≡ false → sizes_of (a ∷ b ∷ c ∷ more) ≡ None
no_fifth a b c [] some = cc
no_fifth a b c (field ∷ more) some = refl
