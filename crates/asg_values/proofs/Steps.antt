-- One more cost: the steps of the loops over costs and over rows.
use Rattle.asg_values.proofs.Common.{◌≡◌, ℕ, ◌+◌, ◌<◌, ◌≤◌, Bool, true, false, cond, List, [], ◌∷◌, ◌++◌, length, get_or, take, ℤ, pos, ◌+ℤ◌, IfSome, unsigned_abs, Some, None, fold, All, Option, option_to_list, int_eq, sym, refl, ap, ◌∙◌, arith, All-cons, All-nil, filter_more, fold-append, fold-map, fold_more, int_max, int_min, ints, map-append, first_parts, second_parts, costs_at, total, Cost}

-- a fold over the first parts takes one more
pub fold-first_more : (f : ℤ → ℤ → ℤ) (start : ℤ) (costs : List Cost) (i : ℕ) (d : Cost) → i < length costs → fold f start (first_parts (take (i + 1) costs)) ≡ f (fold f start (first_parts (take i costs))) (get_or costs i d).a
fold-first_more f start costs i d lt =
    fold-map f (λ cost. cost.a) start (take (i + 1) costs)
    ∙ fold_more (λ b cost. f b cost.a) start costs i d lt
    ∙ ap (λ b. f b (get_or costs i d).a) (sym (fold-map f (λ cost. cost.a) start (take i costs)))

-- a sum of one list after another
total-append : (xs ys : List ℤ) → total (xs ++ ys) ≡ fold ◌+ℤ◌ (total xs) ys
total-append xs ys = fold-append ◌+ℤ◌ (pos 0) xs ys

total_last : (start : ℤ) (b : Bool) (cost : Cost) → fold ◌+ℤ◌ start (second_parts (cond b (cost ∷ []) [])) ≡ start +ℤ cond b cost.b (pos 0)
total_last start true cost = refl
total_last start false cost = omega (arith, ints)

-- the sum of the second parts at `a` takes one more cost, or leaves it
pub total-at_more : (a : ℤ) (costs : List Cost) (i : ℕ) (d : Cost) → i < length costs → total (second_parts (costs_at a (take (i + 1) costs))) ≡ total (second_parts (costs_at a (take i costs))) +ℤ cond (int_eq (get_or costs i d).a a) (get_or costs i d).b (pos 0)
total-at_more a costs i d lt =
    let here = get_or costs i d in
    let more = filter_more (λ cost. int_eq cost.a a) costs i d lt in
    ap (λ list. total (second_parts list)) more
    ∙ ap total (map-append (λ cost. cost.b) (costs_at a (take i costs)) (cond (int_eq here.a a) (here ∷ []) []))
    ∙ total-append (second_parts (costs_at a (take i costs))) (second_parts (cond (int_eq here.a a) (here ∷ []) []))
    ∙ total_last (total (second_parts (costs_at a (take i costs)))) (int_eq here.a a) here

pub length-option_to_list-le : {Y : Type 0} (o : Option Y) → length (option_to_list o) ≤ 1
length-option_to_list-le None = omega arith
length-option_to_list-le (Some y) = omega arith

-- the greater and the less of two numbers in a range lie in it
pub int_max-in_range : (x y : ℤ) (n : ℕ) → unsigned_abs x ≤ n → unsigned_abs y ≤ n → unsigned_abs (int_max x y) ≤ n
int_max-in_range x y n hx hy = grind (arith, ints)

pub int_min-in_range : (x y : ℤ) (n : ℕ) → unsigned_abs x ≤ n → unsigned_abs y ≤ n → unsigned_abs (int_min x y) ≤ n
int_min-in_range x y n hx hy = grind (arith, ints)

pub unsigned_abs-add : (x y : ℤ) → unsigned_abs (x +ℤ y) ≤ unsigned_abs x + unsigned_abs y
unsigned_abs-add x y = grind (arith, ints)

pub All-option_to_list : {Y : Type 0} (P : Y → Type 0) (o : Option Y) → IfSome o P → All P (option_to_list o)
All-option_to_list P None h = All-nil P
All-option_to_list P (Some y) h = All-cons P y [] h (All-nil P)
