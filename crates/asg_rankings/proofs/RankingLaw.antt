-- A search tree of listed answers proves that they are a ranking.
use Rattle.asg_rankings.proofs.Common.{◌≡◌, ℕ, zero, suc, ◌+◌, ◌-◌, ◌<◌, ◌≤◌, Bool, ◌&&◌, eqb, ◌≢◌, ◌⊎◌, List, [], ◌∷◌, map, length, get_or, IfSome, slice_get, Some, None, All, Contains, count_by, Option, filter_map, option_and_then, sym, refl, ap, ◌∙◌, subst, inl, inr, ⊎_elim, arith, eqb-true, All-cons, All-nil, and_parts, cons_option, get_or_default, get_or_from_slice_get, range_with_len, slice_get_within, IsHall, IsInstance, live_at, Problem, square_side, IsValid, Whole, Cost, choice_fold, Monoid, IsValue, IsLe, IsOrderedMonoid, Word, EntersValues, ProvesIndex, PhaseOf, index_of, child, node_at, IsNumber, answer_number, answer_at, node_answer, node_instance, child_count, IsMarked, HasAnswer, last_answer, IsSearchTree, Mark, Answered, Open, Empty, Node, node_instance-child, IsValid-from_node, choice_fold-node, IsInstance-node, live-in_node, place-of_node, placed-of_node, first_difference, covered, square_cell}
use Rattle.asg_model.specs.Values.{chosen_cost, costs_of}
use Rattle.asg_order.specs.laws.Products.{fold_is_value}
use Rattle.asg_proof.specs.laws.PhaseLists.{index_is_value}
use Rattle.asg_rankings.specs.laws.ChosenRows.{chosen_at}
use Rattle.asg_model.specs.declared.parts.Place.TheVariants.{All as PlaceAll}
use Rattle.asg_values.specs.laws.Elements.{Passes, count_by_found}

-- ---- counts

one_passes : {A : Type 0} (p : A → Bool) (xs : List A) → count_by p xs ≡ 1 → Passes p xs
one_passes p xs one = ⊎_elim (λ (none : count_by p xs ≡ 0). absurd (omega (arith, none, one))) (λ (some : Passes p xs). some) (count_by_found p xs)

-- ---- products of choices are values

All-cons_option : {B : Type 0} (P : B → Type 0) (o : Option B) (ys : List B) → IfSome o P → All P ys → All P (cons_option o ys)
All-cons_option P None ys holds rest = rest
All-cons_option P (Some y) ys holds rest = All-cons P y ys holds rest

All-entered : {V : Type 0} (enter : Cost → V) (P : V → Type 0) (h : ℕ → Option Cost) → ((r : ℕ) → IfSome (h r) (λ cost. P (enter cost))) → (xs : List ℕ) → All P (map enter (filter_map h xs))
All-entered enter P h each [] = All-nil P
All-entered enter P h each (x ∷ xs) = by (h x) (each x) (All-entered enter P h each xs)
  where
    by : (o : Option Cost) → IfSome o (λ cost. P (enter cost)) → All P (map enter (filter_map h xs)) → All P (map enter (cons_option o (filter_map h xs)))
    by None holds rest = rest
    by (Some cost) holds rest = All-cons P (enter cost) (map enter (filter_map h xs)) holds rest

and_then_holds : {A : Type 0} (P : Cost → Type 0) (h : A → Option Cost) → ((x : A) → IfSome (h x) P) → (o : Option A) → IfSome (option_and_then h o) P
and_then_holds P h each None = tt
and_then_holds P h each (Some x) = each x

-- the product of a choice's live costs is a value
pub choice_fold_is_value : {V : Type 0} (M : Monoid V) → IsOrderedMonoid M → (enter : Cost → V) (X : Problem) (f : List (Option ℕ)) → EntersValues M enter X → IsValue M (choice_fold M enter X f)
choice_fold_is_value M laws enter X f live =
    fold_is_value M laws (map enter (costs_of X f))
    (All-entered enter (IsValue M) (chosen_cost X f)
    (λ r. and_then_holds (λ cost. IsValue M (enter cost)) (λ chosen. option_and_then (live_at X r) chosen)
    (λ chosen. and_then_holds (λ cost. IsValue M (enter cost)) (live_at X r) (live r) chosen) (slice_get f r))
    (range_with_len 0 (length f)))

module _ {V : Type 0} (M : Monoid V) (laws : IsOrderedMonoid M) (difference : V → V → V) (word_of : V → Word) (enter : Cost → V)
    (bound : (X : Problem) (phases : List (PhaseOf V)) (z : V) (f : List (Option ℕ)) → IsInstance X → EntersValues M enter X → ProvesIndex M difference enter X phases z → IsValid X f → IsLe M z (choice_fold M enter X f))
    (hall : (X : Problem) (ids : List ℕ) (f : List (Option ℕ)) → IsHall X Whole ids → IsValid X f → ⊥)
    (X : Problem) (count : ℕ) (answers : List (List (Option ℕ))) (nodes : List Node)
    (instance : IsInstance X) (all : X.place ≡ PlaceAll) (live : EntersValues M enter X)
    (tree : IsSearchTree M difference word_of enter X count answers nodes)
  where
    abbrev product_of : List (Option ℕ) → V
    product_of f = choice_fold M enter X f

    abbrev node : ℕ → Node
    node n = node_at nodes n

    abbrev stands_for : ℕ → Problem
    stands_for n = node_instance X answers nodes n

    -- a choice is listed, or as many are listed as were asked for and the last is no worse
    abbrev pub IsAccounted : List (Option ℕ) → Type 0
    IsAccounted g = Contains answers g ⊎ ((count ≤ length answers) × IsLe M (product_of (last_answer answers)) (product_of g))

    parents_fall : (m : ℕ) → 1 < m → m ≤ length nodes → (node m).parent < m
    parents_fall m h within = ((tree.sound m (omega (arith, h), within)).has_place.below h).before

    is_listed : (a : ℕ) → 1 ≤ a → a ≤ length answers → (g : List (Option ℕ)) → answer_at answers a ≡ g → Contains answers g
    is_listed a from upto g e = (a - 1, omega (arith, from, upto), get_or_default answers (a - 1) g [] (omega (arith, from, upto)) ∙ e)

    -- the node of a branch of an answered node
    branch_node : (n i : ℕ) → 1 ≤ n → child_count nodes n i ≡ 1 → (m : ℕ) × IsNumber nodes m × (n < m) × ((node m).parent ≡ n) × ((node m).branch ≡ i)
    branch_node n i from one =
        let some = one_passes (λ x. eqb x.parent n && eqb x.branch i) nodes one in
        let k = some.0 in
        let is : node (k + 1) ≡ some.1 = ap (λ j. get_or nodes j (record { parent = 0; branch = 0; mark = Open; own = [] })) (omega arith) ∙ get_or_from_slice_get nodes k some.1 (record { parent = 0; branch = 0; mark = Open; own = [] }) some.2 in
        let parts = and_parts _ _ some.3 in
        let within : k < length nodes = slice_get_within nodes k some.1 some.2 in
        let parent : (node (k + 1)).parent ≡ n = ap (λ x. x.parent) is ∙ eqb-true some.1.parent n parts.0 in
        let branch : (node (k + 1)).branch ≡ i = ap (λ x. x.branch) is ∙ eqb-true some.1.branch i parts.1 in
        let number : IsNumber nodes (k + 1) = (omega arith, omega (arith, within)) in
        let place = (tree.sound (k + 1) number).has_place in
        let less : n < k + 1 =
        by k number place.root_parent (λ h. (place.below h).before) parent in
        (k + 1, number, less, parent, branch)
      where
        by : (k : ℕ) → IsNumber nodes (k + 1) → (k + 1 ≡ 1 → (node (k + 1)).parent ≡ 0) → (1 < k + 1 → (node (k + 1)).parent < k + 1) → (node (k + 1)).parent ≡ n → n < k + 1
        by zero number root below parent = absurd (let none = root refl in omega (arith, none, parent, from))
        by (suc k) number root below parent = let less = below (omega arith) in omega (arith, less, parent)

    -- each valid choice of a node's instance is accounted for
    accounted : (left n : ℕ) → IsNumber nodes n → length nodes < n + left → (g : List (Option ℕ)) → IsValid (stands_for n) g → IsAccounted g
    accounted zero n number h g valid = absurd (omega (arith, number.1, h))
    accounted (suc left) n number h g valid =
        by_mark (λ m there less inside. accounted left m there (omega (arith, less, h)) g inside) (node n).mark refl
      where
        by_mark : ((m : ℕ) → IsNumber nodes m → n < m → IsValid (stands_for m) g → IsAccounted g) → (mark : Mark) → (node n).mark ≡ mark → IsAccounted g
        by_mark below (Empty rows) e =
            let marked = subst (IsMarked M difference word_of enter X answers nodes n) e (tree.sound n number).marked in
            absurd (hall (stands_for n) rows g marked.0 valid)
        by_mark below Open e =
            let may = tree.open_nodes n number e in
            let trail = may.trail.phases in
            let proves : ProvesIndex M difference enter (stands_for n) trail (index_of M trail) = record { admitted = may.trail.admitted; index = refl } in
            let low = bound (stands_for n) trail (index_of M trail) g (IsInstance-node X answers nodes instance n) (live-in_node X answers nodes (λ cost. IsValue M (enter cost)) live n) proves valid in
            let same = choice_fold-node X answers nodes M enter g n valid in
            inr (
              may.full,
              laws.transitive (product_of (last_answer answers)) (index_of M trail) (product_of g)
                  (choice_fold_is_value M laws enter X (last_answer answers) live)
                  (index_is_value M laws difference (square_side (stands_for n)) trail (square_cell (stands_for n) M.unit enter) may.trail.admitted)
                  (choice_fold_is_value M laws enter X g live)
                  may.bound
                  (subst (IsLe M (index_of M trail)) same low),
            )
        by_mark below (Answered a) e =
            let marked = subst (IsMarked M difference word_of enter X answers nodes n) e (tree.sound n number).marked in
            let has : HasAnswer X answers nodes n a = marked.0 in
            let f = answer_at answers a in
            ⊎_elim
            (λ (same : f ≡ g). inl (is_listed a has.from has.upto g same))
            (λ (at : (r : ℕ) × (r < length f) × ((s : ℕ) → s < r → chosen_at f s ≡ chosen_at g s) × (chosen_at f r ≢ chosen_at g r)).
            let in_child = covered (stands_for n) f (place-of_node X answers nodes n ∙ all) has.valid g valid (λ same. at.3 (ap (λ x. chosen_at x at.0) same)) in
            let i = in_child.0 in
            let under = branch_node n i number.0 (has.branches i in_child.1 (omega (arith, in_child.2, placed-of_node X answers nodes n))) in
            let m = under.0 in
            let stands : stands_for m ≡ child (stands_for n) f i =
            node_instance-child X answers nodes parents_fall m (omega (arith, under.2, number.0)) under.1.1
            ∙ ap (λ p. child (stands_for p) (node_answer answers nodes p) (node m).branch) under.3
            ∙ ap (λ b. child (stands_for n) (node_answer answers nodes n) b) under.4
            ∙ ap (λ mark. child (stands_for n) (answer_at answers (answer_number mark)) i) e in
            below m under.1 under.2 (subst (λ Y. IsValid Y g) (sym stands) in_child.3))
            (first_difference f g (has.valid.over ∙ sym valid.over))

    -- each valid choice is accounted for
    pub all_accounted : (g : List (Option ℕ)) → IsValid X g → IsAccounted g
    all_accounted g valid = accounted (length nodes) 1 (omega arith, tree.root) (omega arith) g valid

    -- each answer is valid
    pub all_valid : All (IsValid X) answers
    all_valid k d within =
        let given = tree.given (k + 1) (omega arith) (omega (arith, within)) in
        let marked = subst (IsMarked M difference word_of enter X answers nodes given.node) given.marked (tree.sound given.node given.there).marked in
        let has : HasAnswer X answers nodes given.node (k + 1) = marked.0 in
        let is : answer_at answers (k + 1) ≡ get_or answers k d = ap (λ j. get_or answers j []) (omega arith) ∙ get_or_default answers k [] d within in
        subst (IsValid X) is (IsValid-from_node X answers nodes (answer_at answers (k + 1)) given.node has.valid)
