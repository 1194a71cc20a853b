-- A child is its instance with cells removed, so that phases keep what they prove; and its valid
-- choices have the same products there.
use Rattle.std.proofs.Common.{◌≡◌, ℕ, Bool, true, false, cond, List, length, Option, Some, None, refl, sym, ap, subst}
use Rattle.std.specs.Prelude.{IfSome, filter_map, option_and_then, slice_get}
use Rattle.std.specs.List.{range_with_len}
use Rattle.asg_model.specs.declared.parts.Cost.{Cost}
use Rattle.asg_model.specs.Live.{live_at}
use Rattle.asg_model.specs.Problem.{Problem}
use Rattle.asg_model.specs.ValidChoice.{IsValid}
use Rattle.asg_model.specs.Values.{chosen_cost, costs_of}
use Rattle.asg_order.specs.Bridge.{costs_fold, choice_fold}
use Rattle.asg_order.specs.Monoid.{Monoid, IsValue, IsOrderedMonoid}
use Rattle.asg_order.specs.laws.Orders.{reflexive}
use Rattle.asg_proof.specs.PhaseProofs.{EntersValues, IsRaised}
use Rattle.asg_rankings.specs.Children.{is_kept, child}
use Rattle.asg_rankings.specs.laws.ChildCells.{live_at-child, live-from_child, live-to_child}
use Rattle.asg_rankings.specs.laws.ChosenRows.{chosen-from_chooses}
use Rattle.asg_rankings.specs.laws.Partition.{kept-from_child}

where_kept : {V : Type 0} (P : V → Type 0) (b : Bool) (o : Option V) → IfSome o P → IfSome (cond b o None) P
where_kept P true o holds = holds
where_kept P false o holds = tt

-- what holds of the live costs of an instance holds of those of its children
pub live-in_child : (P : Cost → Type 0) (X : Problem) (f : List (Option ℕ)) (branch : ℕ) → ((r c : ℕ) → IfSome (live_at X r c) P) → (r c : ℕ) → IfSome (live_at (child X f branch) r c) P
live-in_child P X f branch each r c =
    subst (λ o. IfSome o P) (sym (live_at-child X f branch r c)) (where_kept P (is_kept X f branch (r, c)) (live_at X r c) (each r c))

module _ {V : Type 0} (M : Monoid V) (laws : IsOrderedMonoid M) (enter : Cost → V) where
  -- a child is its instance with cells removed
  pub IsRaised-child : (X : Problem) (f : List (Option ℕ)) (branch : ℕ) → EntersValues M enter X → IsRaised M enter X (child X f branch)
  IsRaised-child X f branch live = record {
    rows = refl;
    columns = refl;
    place = refl;
    cells = λ r c high e.
        let was = (live-from_child X f branch r c high e).1 in
        (high, was, reflexive M laws (enter high) (subst (λ o. IfSome o (λ cost. IsValue M (enter cost))) was (live r c)));
  }

same_chosen : (X : Problem) (f g : List (Option ℕ)) (branch : ℕ) → IsValid (child X f branch) g → (r : ℕ) → chosen_cost (child X f branch) g r ≡ chosen_cost X g r
same_chosen X f g branch valid r = by (slice_get g r) refl
  where
    by_chosen : (q : Option ℕ) → slice_get g r ≡ Some q → option_and_then (live_at (child X f branch) r) q ≡ option_and_then (live_at X r) q
    by_chosen None e = refl
    by_chosen (Some c) e =
        let chosen = chosen-from_chooses (child X f branch) g valid r c e in
        live-to_child X f branch r c (kept-from_child X f branch g valid r c chosen)

    by : (o : Option (Option ℕ)) → slice_get g r ≡ o → option_and_then (λ chosen. option_and_then (live_at (child X f branch) r) chosen) (slice_get g r) ≡ option_and_then (λ chosen. option_and_then (live_at X r) chosen) (slice_get g r)
    by None e = rw e refl
    by (Some q) e = rw e (by_chosen q e)

-- a valid choice of a child has the same costs as in the instance
pub costs_of-child : (X : Problem) (f g : List (Option ℕ)) (branch : ℕ) → IsValid (child X f branch) g → costs_of (child X f branch) g ≡ costs_of X g
costs_of-child X f g branch valid = λ i. filter_map (λ r. same_chosen X f g branch valid r i) (range_with_len 0 (length g))

-- and so the same product
pub choice_fold-child : {V : Type 0} (M : Monoid V) (enter : Cost → V) (X : Problem) (f g : List (Option ℕ)) (branch : ℕ) → IsValid (child X f branch) g → choice_fold M enter (child X f branch) g ≡ choice_fold M enter X g
choice_fold-child M enter X f g branch valid = ap (costs_fold M enter) (costs_of-child X f g branch valid)
