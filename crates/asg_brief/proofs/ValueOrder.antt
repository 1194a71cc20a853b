-- The values of an objective are totally ordered.
use Rattle.asg_brief.proofs.Common.{◌≡◌, ℕ, ◌⊎◌, List, [], ◌∷◌, ℤ, ◌<ℤ◌, Option, int_cmp, Ordering, Less, Equal, Greater, sym, refl, ap, ◌∙◌, subst, inl, inr, MatchOrdering, int_chain, int_ranks, Problem, choice_value, costs_of, value_of, Objective, Sum, SumMax, SumPair, Capped, Bottleneck, BottleneckMax, TimeCost, Balanced, Lex, One, Two, Many, IsBetterChoice}
use Rattle.std.specs.Int.Signed.{<ℤ_irrefl}
use Rattle.asg_model.specs.declared.parts.Cost.{Cost}
use Rattle.asg_model.specs.Better.{IsBetter, IsLessList}

-- ---- numbers

by_order : (o : Ordering) (A B C : Type 0) → MatchOrdering o A B C → A ⊎ (B ⊎ C)
by_order Less A B C h = inl h
by_order Equal A B C h = inr (inl h)
by_order Greater A B C h = inr (inr h)

int_total : (x y : ℤ) → (x <ℤ y) ⊎ ((x ≡ y) ⊎ (y <ℤ x))
int_total x y = by_order (int_cmp x y) (x <ℤ y) (x ≡ y) (y <ℤ x) (int_ranks x y)

one_total : (x y : ℤ) → (x <ℤ y) ⊎ ((One x ≡ One y) ⊎ (y <ℤ x))
one_total x y = as_value (int_total x y)
  where
    as_value : (x <ℤ y) ⊎ ((x ≡ y) ⊎ (y <ℤ x)) → (x <ℤ y) ⊎ ((One x ≡ One y) ⊎ (y <ℤ x))
    as_value (inl h) = inl h
    as_value (inr (inl e)) = inr (inl (ap One e))
    as_value (inr (inr h)) = inr (inr h)

max_total : (x y : ℤ) → (y <ℤ x) ⊎ ((One x ≡ One y) ⊎ (x <ℤ y))
max_total x y = turned (one_total x y)
  where
    turned : (x <ℤ y) ⊎ ((One x ≡ One y) ⊎ (y <ℤ x)) → (y <ℤ x) ⊎ ((One x ≡ One y) ⊎ (x <ℤ y))
    turned (inl h) = inr (inr h)
    turned (inr (inl e)) = inr (inl e)
    turned (inr (inr h)) = inl h

-- ---- pairs

abbrev IsLessPair : ℤ → ℤ → ℤ → ℤ → Type 0
IsLessPair x s y t = (x <ℤ y) ⊎ ((x ≡ y) × (s <ℤ t))

pair_trans : (x s y t z u : ℤ) → IsLessPair x s y t → IsLessPair y t z u → IsLessPair x s z u
pair_trans x s y t z u (inl h) (inl k) = inl (int_chain x y z h k)
pair_trans x s y t z u (inl h) (inr (f, k)) = inl (subst (λ w. x <ℤ w) f h)
pair_trans x s y t z u (inr (e, h)) (inl k) = inl (subst (λ w. w <ℤ z) (sym e) k)
pair_trans x s y t z u (inr (e, h)) (inr (f, k)) = inr (e ∙ f, int_chain s t u h k)

two_total : (x s y t : ℤ) → IsLessPair x s y t ⊎ ((Two x s ≡ Two y t) ⊎ IsLessPair y t x s)
two_total x s y t = by_parts (int_total x y) (int_total s t)
  where
    by_parts : (x <ℤ y) ⊎ ((x ≡ y) ⊎ (y <ℤ x)) → (s <ℤ t) ⊎ ((s ≡ t) ⊎ (t <ℤ s)) → IsLessPair x s y t ⊎ ((Two x s ≡ Two y t) ⊎ IsLessPair y t x s)
    by_parts (inl h) k = inl (inl h)
    by_parts (inr (inr h)) k = inr (inr (inl h))
    by_parts (inr (inl e)) (inl k) = inl (inr (e, k))
    by_parts (inr (inl e)) (inr (inl f)) = inr (inl (λ i. Two (e i) (f i)))
    by_parts (inr (inl e)) (inr (inr k)) = inr (inr (inr (sym e, k)))

pair_irreflexive : (x s : ℤ) → IsLessPair x s x s → ⊥
pair_irreflexive x s (inl h) = <ℤ_irrefl {a = x} h
pair_irreflexive x s (inr (e, h)) = <ℤ_irrefl {a = s} h

-- ---- lists

list_trans : (xs ys zs : List ℤ) → IsLessList xs ys → IsLessList ys zs → IsLessList xs zs
list_trans [] [] zs h k = absurd h
list_trans (x ∷ xs) [] zs h k = absurd h
list_trans [] (y ∷ ys) [] h k = absurd k
list_trans (x ∷ xs) (y ∷ ys) [] h k = absurd k
list_trans [] (y ∷ ys) (z ∷ zs) h k = tt
list_trans (x ∷ xs) (y ∷ ys) (z ∷ zs) (inl h) (inl k) = inl (int_chain x y z h k)
list_trans (x ∷ xs) (y ∷ ys) (z ∷ zs) (inl h) (inr (f, k)) = inl (subst (λ w. x <ℤ w) f h)
list_trans (x ∷ xs) (y ∷ ys) (z ∷ zs) (inr (e, h)) (inl k) = inl (subst (λ w. w <ℤ z) (sym e) k)
list_trans (x ∷ xs) (y ∷ ys) (z ∷ zs) (inr (e, h)) (inr (f, k)) = inr (e ∙ f, list_trans xs ys zs h k)

list_total : (xs ys : List ℤ) → IsLessList xs ys ⊎ ((xs ≡ ys) ⊎ IsLessList ys xs)
list_total [] [] = inr (inl refl)
list_total [] (y ∷ ys) = inl tt
list_total (x ∷ xs) [] = inr (inr tt)
list_total (x ∷ xs) (y ∷ ys) = by_first (int_total x y) (list_total xs ys)
  where
    by_first : (x <ℤ y) ⊎ ((x ≡ y) ⊎ (y <ℤ x)) → IsLessList xs ys ⊎ ((xs ≡ ys) ⊎ IsLessList ys xs) → IsLessList (x ∷ xs) (y ∷ ys) ⊎ ((x ∷ xs ≡ y ∷ ys) ⊎ IsLessList (y ∷ ys) (x ∷ xs))
    by_first (inl h) k = inl (inl h)
    by_first (inr (inr h)) k = inr (inr (inl h))
    by_first (inr (inl e)) (inl k) = inl (inr (e, k))
    by_first (inr (inl e)) (inr (inl f)) = inr (inl (λ i. e i ∷ f i))
    by_first (inr (inl e)) (inr (inr k)) = inr (inr (inr (sym e, k)))

many_total : (xs ys : List ℤ) → IsLessList xs ys ⊎ ((Many xs ≡ Many ys) ⊎ IsLessList ys xs)
many_total xs ys = as_value (list_total xs ys)
  where
    as_value : IsLessList xs ys ⊎ ((xs ≡ ys) ⊎ IsLessList ys xs) → IsLessList xs ys ⊎ ((Many xs ≡ Many ys) ⊎ IsLessList ys xs)
    as_value (inl h) = inl h
    as_value (inr (inl e)) = inr (inl (ap Many e))
    as_value (inr (inr h)) = inr (inr h)

list_irreflexive : (xs : List ℤ) → IsLessList xs xs → ⊥
list_irreflexive [] h = h
list_irreflexive (x ∷ xs) (inl h) = <ℤ_irrefl {a = x} h
list_irreflexive (x ∷ xs) (inr (e, h)) = list_irreflexive xs h

-- ---- values

abbrev IsLess : Objective → List Cost → List Cost → Type 0
IsLess objective a b = IsBetter objective (value_of objective a) (value_of objective b)

less_trans : (objective : Objective) (a b c : List Cost) → IsLess objective a b → IsLess objective b c → IsLess objective a c
less_trans Sum a b c h k = int_chain _ _ _ h k
less_trans SumMax a b c h k = int_chain _ _ _ k h
less_trans SumPair a b c h k = pair_trans _ _ _ _ _ _ h k
less_trans (Capped cap_value) a b c h k = int_chain _ _ _ h k
less_trans Bottleneck a b c h k = int_chain _ _ _ h k
less_trans BottleneckMax a b c h k = int_chain _ _ _ k h
less_trans TimeCost a b c h k = pair_trans _ _ _ _ _ _ h k
less_trans Balanced a b c h k = int_chain _ _ _ h k
less_trans Lex a b c h k = list_trans _ _ _ h k

less_total : (objective : Objective) (a b : List Cost) → IsLess objective a b ⊎ ((value_of objective a ≡ value_of objective b) ⊎ IsLess objective b a)
less_total Sum a b = one_total _ _
less_total SumMax a b = max_total _ _
less_total SumPair a b = two_total _ _ _ _
less_total (Capped cap_value) a b = one_total _ _
less_total Bottleneck a b = one_total _ _
less_total BottleneckMax a b = max_total _ _
less_total TimeCost a b = two_total _ _ _ _
less_total Balanced a b = one_total _ _
less_total Lex a b = many_total _ _

less_irreflexive : (objective : Objective) (a : List Cost) → IsLess objective a a → ⊥
less_irreflexive Sum a h = <ℤ_irrefl h
less_irreflexive SumMax a h = <ℤ_irrefl h
less_irreflexive SumPair a h = pair_irreflexive _ _ h
less_irreflexive (Capped cap_value) a h = <ℤ_irrefl h
less_irreflexive Bottleneck a h = <ℤ_irrefl h
less_irreflexive BottleneckMax a h = <ℤ_irrefl h
less_irreflexive TimeCost a h = pair_irreflexive _ _ h
less_irreflexive Balanced a h = <ℤ_irrefl h
less_irreflexive Lex a h = list_irreflexive _ h

-- ---- choices

-- no choice is better than itself
pub not_better_itself : (objective : Objective) (X : Problem) (f : List (Option ℕ)) → ¬ IsBetterChoice objective X f f
not_better_itself objective X f h = less_irreflexive objective (costs_of X f) h

-- two choices of which none is better have one value
pub same_value : (objective : Objective) (X : Problem) (f g : List (Option ℕ)) → ¬ IsBetterChoice objective X f g → ¬ IsBetterChoice objective X g f → choice_value objective X f ≡ choice_value objective X g
same_value objective X f g below above = by_order_of (less_total objective (costs_of X f) (costs_of X g))
  where
    by_order_of : IsBetterChoice objective X f g ⊎ ((choice_value objective X f ≡ choice_value objective X g) ⊎ IsBetterChoice objective X g f) → choice_value objective X f ≡ choice_value objective X g
    by_order_of (inl h) = absurd (below h)
    by_order_of (inr (inl e)) = e
    by_order_of (inr (inr h)) = absurd (above h)

-- what isn't better than a choice that isn't better than a third one isn't better than that
pub not_better_trans : (objective : Objective) (X : Problem) (f g h : List (Option ℕ)) → ¬ IsBetterChoice objective X g f → ¬ IsBetterChoice objective X h g → ¬ IsBetterChoice objective X h f
not_better_trans objective X f g h first second better = by_order_of (less_total objective (costs_of X f) (costs_of X g))
  where
    by_order_of : IsBetterChoice objective X f g ⊎ ((choice_value objective X f ≡ choice_value objective X g) ⊎ IsBetterChoice objective X g f) → ⊥
    by_order_of (inl less) = second (less_trans objective (costs_of X h) (costs_of X f) (costs_of X g) better less)
    by_order_of (inr (inl e)) = second (subst (λ value. IsBetter objective (choice_value objective X h) value) e better)
    by_order_of (inr (inr less)) = first less
