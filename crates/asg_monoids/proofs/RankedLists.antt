-- Lists of numbers compared at their first difference.
use Rattle.std.proofs.Common.{◌≡◌, ◌↔◌, List, [], ◌∷◌, arith, refl, sym, ap, ◌∙◌, subst, inl, inr, ℤ}
use Rattle.std.specs.Prelude.{◌<ℤ◌}
use Rattle.std.specs.declared.cmp.Ordering.{Ordering}
use Rattle.std.specs.declared.cmp.Ordering.TheVariants.{Less, Equal, Greater}
use Rattle.std.specs.Ordering.{int_cmp, ordering_then, MatchOrdering}
use Rattle.std.specs.Cmp.Lexicographic.{slice_cmp}
use Rattle.std.proofs.lemmas.Int.{ints}
use Rattle.std.proofs.lemmas.Cmp.{int_ranked}
use Rattle.asg_model.specs.Better.{IsLessList}

not_less_itself : (xs : List ℤ) → IsLessList xs xs → ⊥
not_less_itself [] h = h
not_less_itself (x ∷ xs) h = elim h [ inl lt ↦ omega (arith, ints) | inr rest ↦ not_less_itself xs rest.1 ]

not_both_less : (xs ys : List ℤ) → IsLessList xs ys → IsLessList ys xs → ⊥
not_both_less [] [] h k = h
not_both_less [] (y ∷ ys) h k = k
not_both_less (x ∷ xs) [] h k = h
not_both_less (x ∷ xs) (y ∷ ys) h k =
    elim h [
      | inl lt ↦ elim k [ inl gt ↦ omega (arith, ints) | inr e ↦ let same = e.0 in omega (arith, ints) ]
      | inr e ↦ elim k [ inl gt ↦ let same = e.0 in omega (arith, ints) | inr f ↦ not_both_less xs ys e.1 f.1 ]
    ]

-- what an ordering says of two lists
abbrev Says : Ordering → List ℤ → List ℤ → Type 0
Says o xs ys = MatchOrdering o (IsLessList xs ys) (xs ≡ ys) (IsLessList ys xs)

after_equal : (o : Ordering) (x y : ℤ) (xs ys : List ℤ) → x ≡ y → Says o xs ys → Says o (x ∷ xs) (y ∷ ys)
after_equal Less x y xs ys e h = inr (e, h)
after_equal Equal x y xs ys e h = ap (λ z. z ∷ xs) e ∙ ap (λ zs. y ∷ zs) h
after_equal Greater x y xs ys e h = inr (sym e, h)

after_first : (o p : Ordering) (x y : ℤ) (xs ys : List ℤ) → MatchOrdering o (x <ℤ y) (x ≡ y) (y <ℤ x) → Says p xs ys → Says (ordering_then o p) (x ∷ xs) (y ∷ ys)
after_first Less p x y xs ys first rest = inl first
after_first Equal p x y xs ys first rest = after_equal p x y xs ys first rest
after_first Greater p x y xs ys first rest = inl first

says : (xs ys : List ℤ) → Says (slice_cmp int_cmp xs ys) xs ys
says [] [] = refl
says [] (y ∷ ys) = tt
says (x ∷ xs) [] = tt
says (x ∷ xs) (y ∷ ys) =
    after_first (int_cmp x y) (slice_cmp int_cmp xs ys) x y xs ys (int_ranked x y (int_cmp x y) refl) (says xs ys)

-- an ordering that says so of two lists answers exactly
answers : (o : Ordering) (xs ys : List ℤ) → Says o xs ys → ((o ≡ Less) ↔ IsLessList xs ys) × ((o ≡ Equal) ↔ (xs ≡ ys)) × ((o ≡ Greater) ↔ IsLessList ys xs)
answers Less xs ys h = (
  (λ _. h, λ _. refl),
  (λ e. absurd (cc), λ e. absurd (not_less_itself ys (subst (λ zs. IsLessList zs ys) e h))),
  (λ e. absurd (cc), λ k. absurd (not_both_less xs ys h k)),
)
answers Equal xs ys h = (
  (λ e. absurd (cc), λ k. absurd (not_less_itself ys (subst (λ zs. IsLessList zs ys) h k))),
  (λ _. h, λ _. refl),
  (λ e. absurd (cc), λ k. absurd (not_less_itself ys (subst (λ zs. IsLessList ys zs) h k))),
)
answers Greater xs ys h = (
  (λ e. absurd (cc), λ k. absurd (not_both_less xs ys k h)),
  (λ e. absurd (cc), λ e. absurd (not_less_itself ys (subst (λ zs. IsLessList ys zs) e h))),
  (λ _. h, λ _. refl),
)

-- the comparison of two lists says exactly which is less
pub compared : (o : Ordering) (xs ys : List ℤ) → o ≡ slice_cmp int_cmp xs ys → ((o ≡ Less) ↔ IsLessList xs ys) × ((o ≡ Equal) ↔ (xs ≡ ys)) × ((o ≡ Greater) ↔ IsLessList ys xs)
compared o xs ys e = answers o xs ys (subst (λ p. Says p xs ys) (sym e) (says xs ys))
