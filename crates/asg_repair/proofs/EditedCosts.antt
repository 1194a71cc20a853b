-- The live costs of an edited instance enter as values.
use Rattle.asg_repair.proofs.Common.{◌≡◌, ℕ, ◌≤◌, true, false, not, nat_le, unsigned_abs, Some, None, Option, subst, arith, leb-true, and_parts, not-false, option_map_or, edited_costs, given_passes, edited, given_cost, is_cost_in_range, refusal_of, IsInstance, most_cost, Problem, Edit, Objective, Cost, MayEnter, Monoid, IsValue, EntersValues}
use Rattle.asg_values.specs.laws.Passed.{none_applies}
use Rattle.asg_model.specs.declared.edits.EditRefusal.TheVariants.{NoMemory}

module _ (objective : Objective) (X : Problem) (edit : Edit) (passes : refusal_of objective X edit ≡ None) where
  in_range : (cost : Cost) → is_cost_in_range cost ≡ true → (unsigned_abs cost.a ≤ most_cost) × (unsigned_abs cost.b ≤ most_cost)
  in_range cost e =
      let parts = and_parts (nat_le (unsigned_abs cost.a) most_cost) (nat_le (unsigned_abs cost.b) most_cost) e in
      (leb-true (unsigned_abs cost.a) most_cost parts.0, leb-true (unsigned_abs cost.b) most_cost parts.1)

  -- a cost that an edit gives may enter, where it isn't refused
  given_may_enter : (reach : ℕ) → most_cost ≤ reach → (cost : Cost) → given_cost edit ≡ Some cost → MayEnter objective reach cost
  given_may_enter reach far cost given =
      let range = in_range cost (not-false (is_cost_in_range cost) (subst (λ o. option_map_or (λ cost. not (is_cost_in_range cost)) o false ≡ false) given (none_applies objective X edit passes 4 NoMemory (omega arith)))) in
      record {
        within = record { a_within = omega (arith, range.0, far); b_within = omega (arith, range.1, far) };
        passes = given_passes objective X edit passes cost given;
      }

  pub EntersValues-edited : {V : Type 0} (M : Monoid V) (enter : Cost → V) (reach : ℕ) → most_cost ≤ reach → ((cost : Cost) → MayEnter objective reach cost → IsValue M (enter cost)) → IsInstance X → EntersValues M enter X → EntersValues M enter (edited X edit)
  EntersValues-edited M enter reach far values is =
      edited_costs (λ cost. IsValue M (enter cost)) X edit is (λ x given. values x (given_may_enter reach far x given))
