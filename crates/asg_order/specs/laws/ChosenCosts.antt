-- The costs of a valid choice: how many they are and that they may enter, so that a bridge follows
-- from the order of lists of costs.
use Rattle.std.proofs.Common.{◌≡◌, ℕ, suc, ◌+◌, ◌≤◌, false, cond, List, [], ◌∷◌, length, refl, arith, sym, ap, ◌∙◌, add-zero, zero-add}
use Rattle.std.specs.Prelude.{Option, Some, None, IsSome, is_some, IfSome, slice_get, filter_map, count_by, option_and_then, All}
use Rattle.std.specs.List.{range_with_len, cons_option}
use Rattle.std.proofs.lemmas.List.Sums.{sum_by-cons, count_by-le-length}
use Rattle.asg_model.specs.declared.parts.Cost.{Cost}
use Rattle.asg_model.specs.declared.objectives.Objective.{Objective}
use Rattle.asg_model.specs.Problem.{Problem}
use Rattle.asg_model.specs.Live.{live_at}
use Rattle.asg_model.specs.Counts.{placed}
use Rattle.asg_model.specs.ValidChoice.{IsValid, Chooses}
use Rattle.asg_model.specs.Values.{chosen_cost, costs_of}
use Rattle.asg_order.specs.Monoid.{Monoid}
use Rattle.asg_model.specs.Refused.{is_refused, PassesNegative}
use Rattle.asg_order.specs.Entering.{IsWithin, MayEnter, LiesWithin}
use Rattle.asg_order.specs.Bridge.{KeepsOrder, Bridges}
use Rattle.asg_model.specs.laws.Listing.{All-filter_map}

IfSome-both : (objective : Objective) (reach : ℕ) (o : Option Cost) → IfSome o (IsWithin reach) → IfSome o (λ cost. is_refused objective cost ≡ false) → IfSome o (MayEnter objective reach)
IfSome-both objective reach None near passes = near
IfSome-both objective reach (Some cost) near passes = record { within = near; passes = passes }

IfSome-and_then : {A B : Type 0} (h : A → Option B) (P : B → Type 0) → ((x : A) → IfSome (h x) P) → (o : Option A) → IfSome (option_and_then h o) P
IfSome-and_then h P each None = tt
IfSome-and_then h P each (Some x) = each x

chosen_may_enter : (objective : Objective) (reach : ℕ) (X : Problem) (f : List (Option ℕ)) → LiesWithin reach X → PassesNegative objective X → (r : ℕ) → IfSome (chosen_cost X f r) (MayEnter objective reach)
chosen_may_enter objective reach X f near passes r =
    IfSome-and_then (λ chosen. option_and_then (live_at X r) chosen) (MayEnter objective reach)
    (IfSome-and_then (live_at X r) (MayEnter objective reach) (λ c. IfSome-both objective reach (live_at X r c) (near r c) (passes r c)))
    (slice_get f r)

-- the chosen costs may enter
pub costs_may_enter : (objective : Objective) (reach : ℕ) (X : Problem) (f : List (Option ℕ)) → LiesWithin reach X → PassesNegative objective X → All (MayEnter objective reach) (costs_of X f)
costs_may_enter objective reach X f near passes =
    All-filter_map (chosen_cost X f) (MayEnter objective reach) (chosen_may_enter objective reach X f near passes) (range_with_len 0 (length f))

length-cons_option : {B : Type 0} (o : Option B) (ys : List B) → length (cons_option o ys) ≡ cond (is_some o) 1 0 + length ys
length-cons_option None ys = sym (zero-add (length ys))
length-cons_option (Some y) ys = omega arith

is_some-chosen : (X : Problem) (r : ℕ) (o : Option ℕ) → ((c : ℕ) → o ≡ Some c → IsSome (live_at X r c)) → is_some (option_and_then (live_at X r) o) ≡ is_some o
is_some-chosen X r None alive = refl
is_some-chosen X r (Some c) alive = alive c refl

-- from place a on: each row that chooses has one cost
length-costs_from : (X : Problem) (f rest : List (Option ℕ)) (a : ℕ) → ((r c : ℕ) → Chooses f r c → IsSome (live_at X r c)) → ((i : ℕ) → slice_get f (a + i) ≡ slice_get rest i) → length (filter_map (chosen_cost X f) (range_with_len a (length rest))) ≡ count_by is_some rest
length-costs_from X f [] a alive same = refl
length-costs_from X f (o ∷ rest) a alive same =
    let here : slice_get f a ≡ Some o = ap (slice_get f) (sym (add-zero a)) ∙ same 0 in
    let is : chosen_cost X f a ≡ option_and_then (live_at X a) o = ap (option_and_then (λ chosen. option_and_then (live_at X a) chosen)) here in
    let some : is_some (chosen_cost X f a) ≡ is_some o = ap is_some is ∙ is_some-chosen X a o (λ c e. alive a c (here ∙ ap Some e)) in
    let more : length (filter_map (chosen_cost X f) (range_with_len (a + 1) (length rest))) ≡ count_by is_some rest = length-costs_from X f rest (a + 1) alive (λ i. ap (slice_get f) (omega arith) ∙ same (suc i)) in
    length-cons_option (chosen_cost X f a) (filter_map (chosen_cost X f) (range_with_len (a + 1) (length rest)))
    ∙ ap (λ b. cond b 1 0 + length (filter_map (chosen_cost X f) (range_with_len (a + 1) (length rest)))) some
    ∙ ap (λ n. cond (is_some o) 1 0 + n) more
    ∙ sym (sum_by-cons (λ chosen. cond (is_some chosen) 1 0) o rest)

-- a valid choice has as many costs as the place rule places rows
pub length-costs_of : (X : Problem) (f : List (Option ℕ)) → IsValid X f → length (costs_of X f) ≡ placed X
length-costs_of X f valid = length-costs_from X f f 0 valid.alive (λ i. ap (slice_get f) (zero-add i)) ∙ valid.counted

-- a valid choice has at most as many costs as there are rows
length-costs_of-le : (X : Problem) (f : List (Option ℕ)) → IsValid X f → length (costs_of X f) ≤ length X.rows
length-costs_of-le X f valid =
    omega (arith, length-costs_of X f valid, valid.counted, valid.over, count_by-le-length is_some f)

-- where entering keeps the order of values, it bridges
pub Bridges-from_KeepsOrder : {V : Type 0} (M : Monoid V) (enter : Cost → V) (objective : Objective) (reach : ℕ) → KeepsOrder M enter objective reach → Bridges M enter objective reach
Bridges-from_KeepsOrder M enter objective reach keeps X f g few near passes valid_f valid_g =
    keeps (costs_of X f) (costs_of X g)
    (length-costs_of X f valid_f ∙ sym (length-costs_of X g valid_g))
    (omega (arith, length-costs_of-le X f valid_f, few))
    (costs_may_enter objective reach X f near passes)
    (costs_may_enter objective reach X g near passes)
