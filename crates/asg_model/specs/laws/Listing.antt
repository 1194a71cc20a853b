-- Laws of lists that upper crates cite: of ranges, of what is given of each element, of different
-- numbers.
use Rattle.std.proofs.Common.{◌≡◌, ◌≢◌, ℕ, zero, suc, ◌+◌, ◌<◌, ◌≤◌, List, [], ◌∷◌, ◌++◌, length, map, refl, sym, ap, subst, ◌∙◌, arith, zero-add}
use Rattle.std.specs.Prelude.{Option, Some, None, IfSome, All, AllPairs, Contains, filter_map, option_to_list}
use Rattle.std.specs.List.{range_with_len, cons_option}
use Rattle.std.proofs.lemmas.Bool.{eqb-true}
use Rattle.std.proofs.lemmas.Bool.Decides.{Decides-eqb}
use Rattle.std.proofs.lemmas.List.{map-id}
use Rattle.std.proofs.lemmas.List.Elements.{All-nil, All-cons, All-contains, filter_map-append}
use Rattle.std.proofs.lemmas.List.FromFn.{get_or-range_with_len, length-range_with_len, map-range_with_len_more}
use Rattle.std.proofs.lemmas.Map.Made.{IsDistinct-from_AllPairs}
use Rattle.std.proofs.lemmas.Map.Steps.{length-le_from_distinct_below}
use Rattle.std.proofs.lemmas.Map.Views.{Contains-from_any}

-- one more place
pub range_with_len_more : (n : ℕ) → range_with_len 0 (n + 1) ≡ range_with_len 0 n ++ n ∷ []
range_with_len_more n =
    sym (map-id (range_with_len 0 (n + 1))) ∙ map-range_with_len_more (λ k. k) 0 n n (zero-add n) ∙ ap (λ list. list ++ n ∷ []) (map-id (range_with_len 0 n))

pub filter_map_one : {X Y : Type 0} (h : X → Option Y) (x : X) (o : Option Y) → h x ≡ o → filter_map h (x ∷ []) ≡ option_to_list o
filter_map_one h x None e = rw e
filter_map_one h x (Some y) e = rw e

-- what is given of one more place
pub filter_map-range_more : {Y : Type 0} (h : ℕ → Option Y) (n : ℕ) → filter_map h (range_with_len 0 (n + 1)) ≡ filter_map h (range_with_len 0 n) ++ option_to_list (h n)
filter_map-range_more h n =
    ap (filter_map h) (range_with_len_more n)
    ∙ filter_map-append h (range_with_len 0 n) (n ∷ [])
    ∙ ap (λ list. filter_map h (range_with_len 0 n) ++ list) (filter_map_one h n (h n) refl)

-- a range has each number below its end
pub Contains-range : (n q : ℕ) → q < n → Contains (range_with_len 0 n) q
Contains-range n q h = (q, subst (λ m. q < m) (sym (length-range_with_len 0 n)) h, omega (arith, get_or-range_with_len 0 n q q h))

-- values that are all there
pub all_there : {V : Type 0} (h : ℕ → Option V) (g : ℕ → V) (a n : ℕ) → ((r : ℕ) → a ≤ r → r < a + n → h r ≡ Some (g r)) → filter_map h (range_with_len a n) ≡ map g (range_with_len a n)
all_there h g a zero there = refl
all_there h g a (suc n) there =
    ap (λ o. cons_option o (filter_map h (range_with_len (a + 1) n))) (there a (omega arith) (omega arith))
    ∙ ap (λ xs. g a ∷ xs) (all_there h g (a + 1) n (λ r from below. there r (omega arith) (omega arith)))

-- different numbers below n are at most n
pub length-le_from_below : (xs : List ℕ) (n : ℕ) → AllPairs ◌≢◌ xs → All (λ x. x < n) xs → length xs ≤ n
length-le_from_below xs n apart below =
    length-le_from_distinct_below xs n (IsDistinct-from_AllPairs Decides-eqb xs apart)
    (λ q m. All-contains (λ x. x < n) xs q below (Contains-from_any eqb-true q xs m))

pub All-cons_option : {B : Type 0} (P : B → Type 0) (o : Option B) (ys : List B) → IfSome o P → All P ys → All P (cons_option o ys)
All-cons_option P None ys holds rest = rest
All-cons_option P (Some y) ys holds rest = All-cons P y ys holds rest

-- what h gives of each element has P
pub All-filter_map : {A B : Type 0} (h : A → Option B) (P : B → Type 0) → ((x : A) → IfSome (h x) P) → (xs : List A) → All P (filter_map h xs)
All-filter_map h P each [] = All-nil P
All-filter_map h P each (x ∷ xs) = All-cons_option P (h x) (filter_map h xs) (each x) (All-filter_map h P each xs)
