-- The costs of arc lines are in range.
use Rattle.asg_networks.proofs.Common.{◌≡◌, ℕ, Bool, true, false, cond, List, [], ◌∷◌, map, get_or, ℤ, IfSome, nat_le, ◌==◌, slice_index, unsigned_abs, Some, None, codes, All, Option, option_map, option_and_then, bytes_eq, refl, leb-true, All-map, most_cost, IsPartInRange, sizes_of, node_of, arc_of, line_of_fields, IsLineInRange, Arc, Line, Empty, Header, Node, Arrow, Other, integer_of, size_of, integer_in_range, fields}
use Rattle.asg_networks.specs.AsnLines.{line_of}

then_some : {A B : Type 0} (f : A → Option B) (P : B → Type 0) (o : Option A) → ((x : A) → IfSome (f x) P) → IfSome (option_and_then f o) P
then_some f P None each = tt
then_some f P (Some x) each = each x

mapped_some : {A B : Type 0} (f : A → B) (P : B → Type 0) (o : Option A) → ((x : A) → P (f x)) → IfSome (option_map f o) P
mapped_some f P None each = tt
mapped_some f P (Some x) each = each x

told_in_range : (a : ℤ) → IfSome (integer_in_range a) IsPartInRange
told_in_range a = go (nat_le (unsigned_abs a) most_cost) refl
  where
    go : (test : Bool) → nat_le (unsigned_abs a) most_cost ≡ test → IfSome (cond test (Some a) None) IsPartInRange
    go true is = leb-true (unsigned_abs a) most_cost is
    go false is = tt

abbrev IsArcInRange : Arc → Type 0
IsArcInRange arc = IfSome arc.cost IsPartInRange

arc_of_in_range : (words : List (List ℕ)) → IfSome (arc_of words) IsArcInRange
arc_of_in_range [] = tt
arc_of_in_range (source ∷ []) = tt
arc_of_in_range (source ∷ target ∷ []) = tt
arc_of_in_range (source ∷ target ∷ cost ∷ []) =
    then_some _ IsArcInRange (size_of source)
    (λ s. then_some _ IsArcInRange (size_of target)
    (λ t. mapped_some _ IsArcInRange (integer_of cost) (λ a. told_in_range a)))
arc_of_in_range (source ∷ target ∷ cost ∷ more ∷ rest) = tt

either : (test : Bool) (here there : Line) → IsLineInRange here → IsLineInRange there → IsLineInRange (cond test here there)
either true here there first second = first
either false here there first second = second

fields_in_range : (words : List (List ℕ)) → IsLineInRange (line_of_fields words)
fields_in_range [] = tt
fields_in_range (first ∷ more) =
    either (slice_index first 0 == 99) Empty _ tt
    (either (bytes_eq first (codes "p")) (Header (sizes_of more)) _ tt
    (either (bytes_eq first (codes "n")) (Node (node_of more)) _ tt
    (either (bytes_eq first (codes "a")) (Arrow (arc_of more)) Other (arc_of_in_range more) tt)))

-- so are those of all lines of a text
pub lines_in_range : (texts : List (List ℕ)) → All IsLineInRange (map line_of texts)
unfolding line_of
lines_in_range texts = All-map IsLineInRange line_of texts (λ k d within. fields_in_range (fields (get_or texts k d)))
