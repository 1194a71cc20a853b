-- What stands in a row of costs: at a live cell the two parts of its cost, and nowhere a part out of
-- range.
use Rattle.std.proofs.Common.{◌≡◌, ℕ, ◌<◌, Bool, true, false, cond, ◌≢◌, List, length, get_or, ℤ, pos, IfSome, Some, None, All, Option, sym, refl, ap, ◌∙◌, subst, inl, inr, arith}
use Rattle.std.specs.Ordering.{int_eq}
use Rattle.std.proofs.lemmas.Bool.Decides.{Decides-int_eq}
use Rattle.std.proofs.lemmas.Bool.{false≢true}
use Rattle.std.proofs.lemmas.List.{get_or_default}
use Rattle.std.proofs.lemmas.Option.{same_Some}
use Rattle.asg_model.specs.Instances.{IsCostInRange}
use Rattle.asg_model.specs.Live.{cost_at, live_at}
use Rattle.asg_model.specs.Problem.{Problem}
use Rattle.asg_model.specs.Table.{absent, IsEntry, AreRowParts}
use Rattle.asg_model.specs.ValueRange.{IsPartInRange}
use Rattle.asg_model.specs.declared.parts.Cost.{Cost}
use Rattle.asg_model.specs.laws.Rows.{cost_at-All}
use Rattle.asg_values.specs.laws.LiveCells.{column_of_live, live_cell}
use Rattle.asg_values.specs.laws.Options.{there_unless}

module _ (X : Problem) (r : ℕ) (firsts seconds : List ℤ) (parts : AreRowParts X r firsts seconds) (c : ℕ) (x : Cost) (live : live_at X r c ≡ Some x) where
  abbrev stored : Cost
  stored = record { a = get_or firsts c absent; b = get_or seconds c (pos 0) }

  slot : (int_eq (get_or firsts c absent) absent ≡ false) × (stored ≡ x)
  slot =
      let is = there_unless (int_eq (get_or firsts c absent) absent) (Some stored) x (sym (parts.costs c (column_of_live X r c x live)) ∙ (live_cell X r c x live).2) in
      (is.0, same_Some stored x is.1)

  -- what stands in the place of a live cell: no absent part, and the two parts of its cost
  pub present-at_live : get_or firsts c absent ≢ absent
  present-at_live e = false≢true (sym slot.0 ∙ (Decides-int_eq (get_or firsts c absent) absent).1 e)

  pub first-at_live : get_or firsts c absent ≡ x.a
  first-at_live = ap (λ y. y.a) slot.1

  pub second-at_live : get_or seconds c (pos 0) ≡ x.b
  second-at_live = ap (λ y. y.b) slot.1

-- what stands in a row for a cell that has this cost, or none
abbrev pub IsSlotOf : Option Cost → ℤ → Type 0
IsSlotOf None a = a ≡ absent
IsSlotOf (Some cost) a = (a ≡ cost.a) × IsPartInRange a

slot_is : (a second : ℤ) (b : Bool) → int_eq a absent ≡ b → IfSome (cond b None (Some (record { a = a; b = second }))) IsCostInRange → IsSlotOf (cond b None (Some (record { a = a; b = second }))) a
slot_is a second true e near = (Decides-int_eq a absent).0 e
slot_is a second false e near = (refl, near.a_in_range)

entry : (o : Option Cost) (a : ℤ) → IsSlotOf o a → IsEntry a
entry None a is = inl is
entry (Some cost) a is = inr is.1

-- both parts of the costs of a row, whose costs are in range
module _ (X : Problem) (r : ℕ) (firsts seconds : List ℤ) (are : AreRowParts X r firsts seconds) (costs : All (λ cell. IsCostInRange cell.1) X.cells) where
  pub slots : (c : ℕ) → c < length X.columns → IsSlotOf (cost_at X.cells r c) (get_or firsts c absent)
  slots c within =
      let a = get_or firsts c absent in
      subst (λ (o : Option Cost). IsSlotOf o a) (sym (are.costs c within))
      (slot_is a (get_or seconds c (pos 0)) (int_eq a absent) refl
      (subst (λ (o : Option Cost). IfSome o IsCostInRange) (are.costs c within) (cost_at-All IsCostInRange X.cells r c costs)))

  -- the first parts are absent or in range
  pub entries : All IsEntry firsts
  entries k d within =
      subst IsEntry (get_or_default firsts k absent d within)
      (entry (cost_at X.cells r k) (get_or firsts k absent) (slots k (omega (arith, within, are.whole))))
