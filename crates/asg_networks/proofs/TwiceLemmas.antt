-- Arcs that repeat others, and the costs that are known of them.
use Rattle.asg_networks.proofs.Common.{◌≡◌, ℕ, suc, ◌+◌, ◌<◌, Bool, true, false, cond, not, ◌&&◌, ◌||◌, List, [], ◌∷◌, ◌++◌, map, length, get_or, take, drop, ℤ, IsSome, ◌==◌, slice_get, Some, None, All, Option, find, option_and_then, int_eq, sym, refl, ap, ◌∙◌, subst, ⊎_elim, append_assoc, arith, take-append-drop, rules, eq-eqb, eqb-true, All-nil, All-push, Decides-int_eq, and_parts, cases_Bool, false≢true, find-append, get_or_default, map-append, option_or, take_more, append-nil, is_beside, are_unlike, differs_from, cost_between, no_link, are_same_ends, arc_of_link, twice_faults, Arc, Link, ArcTwice, fault_where}

some_same : {A : Type 0} {x y : A} → Some x ≡ Some y → x ≡ y
some_same e = cc

or_true : (b : Bool) → (b || true) ≡ true
or_true true = refl
or_true false = refl

-- the ends of arcs
ends_same : (x y : ℕ × ℕ) → are_same_ends x y ≡ true → (x.0 ≡ y.0) × (x.1 ≡ y.1)
ends_same x y e = let parts = and_parts _ _ e in (eqb-true _ _ parts.0, eqb-true _ _ parts.1)

same_ends : (x y : ℕ × ℕ) → x.0 ≡ y.0 → x.1 ≡ y.1 → are_same_ends x y ≡ true
same_ends x y first second = rw (eq-eqb x.0 y.0 first, eq-eqb x.1 y.1 second) refl

same_ends_back : (x y : ℕ × ℕ) → are_same_ends x y ≡ true → are_same_ends y x ≡ true
same_ends_back x y e = let ends = ends_same x y e in same_ends y x (sym ends.0) (sym ends.1)

pub ends_flip : (x y : ℕ × ℕ) → are_same_ends x y ≡ are_same_ends y x
ends_flip x y =
    ⊎_elim
    (λ (yes : are_same_ends x y ≡ true). yes ∙ sym (same_ends_back x y yes))
    (λ (apart : are_same_ends x y ≡ false).
    ⊎_elim
    (λ (yes : are_same_ends y x ≡ true). absurd (false≢true (sym apart ∙ same_ends_back y x yes)))
    (λ (still : are_same_ends y x ≡ false). apart ∙ sym still)
    (cases_Bool (are_same_ends y x)))
    (cases_Bool (are_same_ends x y))

-- what is found is one of them
pub found_told : (P : Arc → Type 0) (p : Arc → Bool) (xs : List Arc) (x : Arc) → find p xs ≡ Some x → All P xs → P x
found_told P p [] x found all = cc
found_told P p (y ∷ xs) x found all =
    ⊎_elim
    (λ yes. let same : y ≡ x = some_same (sym (ap {B = Option Arc} (λ v. cond v (Some y) (find p xs)) yes) ∙ found) in subst P same (all 0 y (omega arith)))
    (λ apart. found_told P p xs x (sym (ap {B = Option Arc} (λ v. cond v (Some y) (find p xs)) apart) ∙ found) (λ k d within. all (suc k) d (omega arith)))
    (cases_Bool (p y))

-- a cost that isn't unlike another is the same
alike_is : (cost : ℤ) (known : Option ℤ) → IsSome known → are_unlike (Some cost) known ≡ false → known ≡ Some cost
alike_is cost None some alike = cc
alike_is cost (Some e) some alike =
    ⊎_elim
    (λ yes. ap Some (sym ((Decides-int_eq cost e).0 yes)))
    (λ apart. absurd (false≢true (sym alike ∙ ap not apart)))
    (cases_Bool (int_eq cost e))

-- the arc has the cost that is told of its ends
abbrev IsTold : (ℕ → ℕ → Option ℤ) → Arc → Type 0
IsTold F x = (F x.source x.target ≡ x.cost) × IsSome x.cost

-- the first cost from each source to each destination is told, and no arc has another
pub record AreTold (F : ℕ → ℕ → Option ℤ) (xs : List Arc) : Type 0 where
  pub costs_are : (s t : ℕ) → F s t ≡ cost_between xs s t
  pub one_cost : All (IsTold F) xs

pub none_told : (F : ℕ → ℕ → Option ℤ) → ((s t : ℕ) → F s t ≡ None) → AreTold F []
none_told F none = record { costs_are = λ s t. none s t; one_cost = All-nil (IsTold F) }

-- one arc behind others
module _ (F : ℕ → ℕ → Option ℤ) (arc : Arc) (cost : ℤ) (is_cost : arc.cost ≡ Some cost) where
  abbrev ends : ℕ × ℕ
  ends = (arc.source, arc.target)

  -- none of them differs
  alike_one : (x : Arc) → IsTold F x → are_unlike (Some cost) (F arc.source arc.target) ≡ false → (is_beside arc x && are_unlike arc.cost x.cost) ≡ false
  alike_one x is alike =
      ⊎_elim
      (λ yes.
      let ends = ends_same (arc.source, arc.target) (x.source, x.target) yes in
      let same : x.cost ≡ F arc.source arc.target = sym is.0 ∙ (λ i. F (sym ends.0 i) (sym ends.1 i)) in
      (λ i. yes i && are_unlike (is_cost i) (same i)) ∙ alike)
      (λ apart. ap (λ v. v && are_unlike arc.cost x.cost) apart)
      (cases_Bool (is_beside arc x))

  alike_all : (xs : List Arc) → All (IsTold F) xs → are_unlike (Some cost) (F arc.source arc.target) ≡ false → differs_from xs arc ≡ false
  alike_all [] all alike = refl
  alike_all (x ∷ xs) all alike =
      (λ i. alike_one x (all 0 x (omega arith)) alike i || alike_all xs (λ k d within. all (suc k) d (omega arith)) alike i)

  -- one of them differs
  unlike_some : (xs : List Arc) (e : ℤ) → cost_between xs arc.source arc.target ≡ Some e → are_unlike (Some cost) (Some e) ≡ true → differs_from xs arc ≡ true
  unlike_some [] e first unlike = cc
  unlike_some (x ∷ xs) e first unlike =
      ⊎_elim
      (λ yes.
      let ends = ends_same (x.source, x.target) (arc.source, arc.target) yes in
      let found : x.cost ≡ Some e = sym (ap (λ v. option_and_then (λ (arc : Arc). arc.cost) (cond v (Some x) (find (λ (other : Arc). (other.source == arc.source) && (other.target == arc.target)) xs))) yes) ∙ first in
      let beside : is_beside arc x ≡ true = same_ends (arc.source, arc.target) (x.source, x.target) (sym ends.0) (sym ends.1) in
      (λ i. (beside i && are_unlike (is_cost i) (found i)) || differs_from xs arc) ∙ ap (λ v. v || differs_from xs arc) unlike)
      (λ apart.
      let later : cost_between xs arc.source arc.target ≡ Some e = sym (ap (λ v. option_and_then (λ (arc : Arc). arc.cost) (cond v (Some x) (find (λ (other : Arc). (other.source == arc.source) && (other.target == arc.target)) xs))) apart) ∙ first in
      ap (λ v. (is_beside arc x && are_unlike arc.cost x.cost) || v) (unlike_some xs e later unlike) ∙ or_true (is_beside arc x && are_unlike arc.cost x.cost))
      (cases_Bool ((x.source == arc.source) && (x.target == arc.target)))

  unlike_by : (xs : List Arc) (known : Option ℤ) → known ≡ cost_between xs arc.source arc.target → are_unlike (Some cost) known ≡ true → differs_from xs arc ≡ true
  unlike_by xs None is unlike = cc
  unlike_by xs (Some e) is unlike = unlike_some xs e (sym is) unlike

  -- whether the arc repeats one at another cost is told by the cost that is known
  pub differs_by : (xs : List Arc) → AreTold F xs → differs_from xs arc ≡ are_unlike (Some cost) (F arc.source arc.target)
  differs_by xs told =
      ⊎_elim
      (λ unlike. unlike_by xs (F arc.source arc.target) (told.costs_are arc.source arc.target) unlike ∙ sym unlike)
      (λ alike. alike_all xs told.one_cost alike ∙ sym alike)
      (cases_Bool (are_unlike (Some cost) (F arc.source arc.target)))

  -- with its cost, which isn't unlike that which is known
  module _ (G : ℕ → ℕ → Option ℤ) (xs : List Arc) (told : AreTold F xs) (alike : are_unlike (Some cost) (F arc.source arc.target) ≡ false) (more : (s t : ℕ) → G s t ≡ cond (are_same_ends (arc.source, arc.target) (s, t)) (Some cost) (F s t)) where
    here_is : (s t : ℕ) → are_same_ends (arc.source, arc.target) (s, t) ≡ true → G s t ≡ Some cost
    here_is s t beside = more s t ∙ ap {B = Option ℤ} (λ v. cond v (Some cost) (F s t)) beside

    there_is : (s t : ℕ) → are_same_ends (arc.source, arc.target) (s, t) ≡ false → G s t ≡ F s t
    there_is s t apart = more s t ∙ ap {B = Option ℤ} (λ v. cond v (Some cost) (F s t)) apart

    -- what is known of the same ends is this cost
    same_known : (s t : ℕ) → IsSome (F s t) → are_same_ends (arc.source, arc.target) (s, t) ≡ true → F s t ≡ Some cost
    same_known s t some beside =
        let ends = ends_same (arc.source, arc.target) (s, t) beside in
        alike_is cost (F s t) some (ap (are_unlike (Some cost)) (λ i. F (sym ends.0 i) (sym ends.1 i)) ∙ alike)

    still_told : (x : Arc) → IsTold F x → IsTold G x
    still_told x each = (
      ⊎_elim
          (λ (beside : are_same_ends (arc.source, arc.target) (x.source, x.target) ≡ true). here_is x.source x.target beside ∙ sym (same_known x.source x.target (subst IsSome (sym each.0) each.1) beside) ∙ each.0)
          (λ (apart : are_same_ends (arc.source, arc.target) (x.source, x.target) ≡ false). there_is x.source x.target apart ∙ each.0)
          (cases_Bool (are_same_ends (arc.source, arc.target) (x.source, x.target))),
      each.1,
    )

    abbrev between : ℕ → ℕ → Arc → Bool
    between s t x = (x.source == s) && (x.target == t)

    cost_apart : (s t : ℕ) → between s t arc ≡ false → cost_between (xs ++ arc ∷ []) s t ≡ cost_between xs s t
    cost_apart s t apart =
        ap (option_and_then (λ (x : Arc). x.cost)) (find-append (between s t) xs (arc ∷ []) ∙ ap {B = Option Arc} (λ v. option_or (find (between s t) xs) (cond v (Some arc) None)) apart ∙ or_none (find (between s t) xs))
      where
        or_none : (o : Option Arc) → option_or o None ≡ o
        or_none None = refl
        or_none (Some x) = refl

    cost_here : (s t : ℕ) (found : Option Arc) → find (between s t) xs ≡ found → between s t arc ≡ true → cost_between (xs ++ arc ∷ []) s t ≡ Some cost
    cost_here s t None is beside =
        ap (option_and_then (λ (x : Arc). x.cost)) (find-append (between s t) xs (arc ∷ []) ∙ (λ i. option_or (is i) (cond (beside i) (Some arc) None))) ∙ is_cost
    cost_here s t (Some x) is beside =
        let each = found_told (IsTold F) (between s t) xs x is told.one_cost in
        let known : F s t ≡ x.cost = told.costs_are s t ∙ ap (option_and_then (λ (x : Arc). x.cost)) is in
        ap (option_and_then (λ (x : Arc). x.cost)) (find-append (between s t) xs (arc ∷ []) ∙ (λ i. option_or (is i) (cond (beside i) (Some arc) None)))
        ∙ sym known ∙ same_known s t (subst IsSome (sym known) each.1) beside

    pub told_more : AreTold G (xs ++ arc ∷ [])
    told_more = record {
      costs_are = λ s t.
          ⊎_elim
          (λ (yes : are_same_ends (arc.source, arc.target) (s, t) ≡ true). here_is s t yes ∙ sym (cost_here s t (find (between s t) xs) refl yes))
          (λ (apart : are_same_ends (arc.source, arc.target) (s, t) ≡ false). there_is s t apart ∙ told.costs_are s t ∙ sym (cost_apart s t apart))
          (cases_Bool (are_same_ends (arc.source, arc.target) (s, t)));
      one_cost = All-push (IsTold G) xs arc (λ k d within. still_told (get_or xs k d) (told.one_cost k d within)) (here_is arc.source arc.target (same_ends (arc.source, arc.target) (arc.source, arc.target) refl refl) ∙ sym is_cost, rw is_cost (search rules));
    }

-- the faults of arcs and of those behind them
pub twice_append : (before : List Arc) (xs ys : List Link) → twice_faults before (xs ++ ys) ≡ twice_faults before xs ++ twice_faults (before ++ map arc_of_link xs) ys
twice_append before [] ys = ap (λ before. twice_faults before ys) (sym (append-nil before))
twice_append before (x ∷ xs) ys =
    let fault = fault_where (differs_from before (arc_of_link x)) (ArcTwice x.line) in
    let next = before ++ arc_of_link x ∷ [] in
    ap (λ more. fault ++ more) (twice_append next xs ys ∙ ap (λ before. twice_faults next xs ++ twice_faults before ys) (append_assoc before (arc_of_link x ∷ []) (map arc_of_link xs)))
    ∙ sym (append_assoc fault (twice_faults next xs) (twice_faults (before ++ map arc_of_link (x ∷ xs)) ys))

pub twice_more : (links : List Link) (link : Link) → twice_faults [] (links ++ link ∷ []) ≡ twice_faults [] links ++ fault_where (differs_from (map arc_of_link links) (arc_of_link link)) (ArcTwice link.line)
twice_more links link =
    twice_append [] links (link ∷ []) ∙ ap (λ more. twice_faults [] links ++ more) (append-nil (fault_where (differs_from (map arc_of_link links) (arc_of_link link)) (ArcTwice link.line)))

-- the first i arcs have no fault, and the costs of them are known
pub record AreOnce (F : ℕ → ℕ → Option ℤ) (links : List Link) (i : ℕ) : Type 0 where
  pub once : twice_faults [] (take i links) ≡ []
  pub told : AreTold F (map arc_of_link (take i links))

module _ (F : ℕ → ℕ → Option ℤ) (links : List Link) (i : ℕ) (link : Link) (within : i < length links) (here : get_or links i link ≡ link) (is : AreOnce F links i) where
  cut : take (i + 1) links ≡ take i links ++ link ∷ []
  cut = take_more links i link within ∙ ap (λ x. take i links ++ x ∷ []) here

  fault_is : twice_faults [] (take (i + 1) links) ≡ fault_where (are_unlike (Some link.cost) (F link.source link.target)) (ArcTwice link.line)
  fault_is =
      ap (twice_faults []) cut ∙ twice_more (take i links) link
      ∙ (λ j. is.once j ++ fault_where (differs_by F (arc_of_link link) link.cost refl (map arc_of_link (take i links)) is.told j) (ArcTwice link.line))

  -- the next repeats none at another cost
  pub one_more_once : (G : ℕ → ℕ → Option ℤ) → are_unlike (Some link.cost) (F link.source link.target) ≡ false → ((s t : ℕ) → G s t ≡ cond (are_same_ends (link.source, link.target) (s, t)) (Some link.cost) (F s t)) → AreOnce G links (i + 1)
  one_more_once G alike more = record {
    once = fault_is ∙ ap (λ v. fault_where v (ArcTwice link.line)) alike;
    told =
        subst (AreTold G) (sym (ap (map arc_of_link) cut ∙ map-append arc_of_link (take i links) (link ∷ [])))
        (told_more F (arc_of_link link) link.cost refl G (map arc_of_link (take i links)) is.told alike more);
  }

  -- or it repeats one
  pub twice_here : are_unlike (Some link.cost) (F link.source link.target) ≡ true → slice_get (twice_faults [] links) 0 ≡ Some (ArcTwice link.line)
  twice_here unlike =
      let first : twice_faults [] (take (i + 1) links) ≡ ArcTwice link.line ∷ [] = fault_is ∙ ap (λ v. fault_where v (ArcTwice link.line)) unlike in
      let all : take (i + 1) links ++ drop (i + 1) links ≡ links = take-append-drop (i + 1) links in
      ap (λ links. slice_get (twice_faults [] links) 0) (sym all)
      ∙ ap (λ faults. slice_get faults 0) (twice_append [] (take (i + 1) links) (drop (i + 1) links))
      ∙ ap (λ faults. slice_get (faults ++ twice_faults (map arc_of_link (take (i + 1) links)) (drop (i + 1) links)) 0) first

pub link_at : (links : List Link) (i : ℕ) → i < length links → get_or links i (get_or links i no_link) ≡ get_or links i no_link
link_at links i within = get_or_default links i (get_or links i no_link) no_link within
