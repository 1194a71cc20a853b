-- What is told of the files of a request.
use Rattle.asg_promises.proofs.Common.{◌≡◌, ℕ, zero, suc, ◌<◌, List, [], ◌∷◌, length, get_or, IfSome, IsSome, Some, None, All, Option, sym, refl, ◌∙◌, subst, arith, MayHold, MayHoldAll, content_at}

-- contents that are told are one
pub held : (told : Option (List ℕ)) (bytes contents : List ℕ) → told ≡ Some contents → IfSome told (λ held. bytes ≡ held) → bytes ≡ contents
held told bytes contents is may = subst (λ found. IfSome found (λ held. bytes ≡ held)) is may

one_held : (told : Option (List ℕ)) (bytes others : List ℕ) → IsSome told → IfSome told (λ held. bytes ≡ held) → IfSome told (λ held. others ≡ held) → bytes ≡ others
one_held None bytes others some first second = cc
one_held (Some held) bytes others some first second = first ∙ sym second

-- there are as many contents as names
pub held_count : (told : List ℕ → Option (List ℕ)) (names contents : List (List ℕ)) → MayHoldAll told names contents → length contents ≡ length names
held_count told [] [] may = omega arith
held_count told (name ∷ names) (bytes ∷ contents) may = omega (arith, held_count told names contents may.1)
held_count told [] (bytes ∷ contents) may = absurd may
held_count told (name ∷ names) [] may = absurd may

-- each stands under its name
pub held_at : (told : List ℕ → Option (List ℕ)) (names contents : List (List ℕ)) (place : ℕ) (d : List ℕ) → MayHoldAll told names contents → place < length names
    → MayHold told (get_or names place d) (content_at contents place)
held_at told [] contents place d may within = absurd (omega arith)
held_at told (name ∷ names) [] place d may within = absurd may
held_at told (name ∷ names) (bytes ∷ contents) zero d may within = may.0
held_at told (name ∷ names) (bytes ∷ contents) (suc place) d may within = held_at told names contents place d may.1 (omega arith)

-- where all are told there is one list of contents
pub held_once : (told : List ℕ → Option (List ℕ)) (names contents others : List (List ℕ)) → All (λ name. IsSome (told name)) names
    → MayHoldAll told names contents → MayHoldAll told names others → contents ≡ others
held_once told [] [] [] tells may also = refl
held_once told [] [] (other ∷ others) tells may also = absurd also
held_once told [] (bytes ∷ contents) others tells may also = absurd may
held_once told (name ∷ names) [] others tells may also = absurd may
held_once told (name ∷ names) (bytes ∷ contents) [] tells may also = absurd also
held_once told (name ∷ names) (bytes ∷ contents) (other ∷ others) tells may also =
    let first = one_held (told name) bytes other (tells 0 [] (omega arith)) may.0 also.0 in
    let rest = held_once told names contents others (λ i d within. tells (suc i) d (omega arith)) may.1 also.1 in
    λ i. first i ∷ rest i
