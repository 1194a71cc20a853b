-- How many costs the value of a choice lists.
use Rattle.asg_promises.proofs.Common.{◌≡◌, ℕ, suc, ◌≤◌, Bool, true, false, cond, List, [], ◌∷◌, length, ℤ, is_some, int_lt, Option, sym, refl, ap, ◌∙◌, subst, arith, count_by-le-length, length-map, Problem, IsValid, choice_value, costs_of, first_parts, Objective, Sum, SumMax, SumPair, Capped, Bottleneck, BottleneckMax, TimeCost, Balanced, Lex, Value, Many}
use Rattle.asg_model.specs.Descending.{descending, with_descending}
use Rattle.asg_order.specs.laws.ChosenCosts.{length-costs_of}

-- how many costs a value lists
abbrev pub listed_costs : Value → ℕ
listed_costs (Many costs) = length costs
listed_costs _ = 0

-- a list in order is as long
length-with : (x : ℤ) (ys : List ℤ) → length (with_descending x ys) ≡ suc (length ys)
length-with x [] = refl
length-with x (y ∷ ys) = by (int_lt y x) (length-with x ys)
  where
    by : (b : Bool) → length (with_descending x ys) ≡ suc (length ys) → length (cond b (x ∷ (y ∷ ys)) (y ∷ with_descending x ys)) ≡ suc (suc (length ys))
    by true longer = refl
    by false longer = ap suc longer

length-descending : (xs : List ℤ) → length (descending xs) ≡ length xs
length-descending [] = refl
length-descending (x ∷ xs) = length-with x (descending xs) ∙ ap suc (length-descending xs)

-- the value of a choice lists no more costs than there are rows
pub few_listed : (objective : Objective) (X : Problem) (f : List (Option ℕ)) (value : Value) → IsValid X f → value ≡ choice_value objective X f → listed_costs value ≤ length X.rows
few_listed objective X f value valid is = subst (λ v. listed_costs v ≤ length X.rows) (sym is) (by objective)
  where
    by : (o : Objective) → listed_costs (choice_value o X f) ≤ length X.rows
    by Sum = omega arith
    by SumMax = omega arith
    by SumPair = omega arith
    by (Capped cap) = omega arith
    by Bottleneck = omega arith
    by BottleneckMax = omega arith
    by TimeCost = omega arith
    by Balanced = omega arith
    by Lex = omega (
      arith,
      length-descending (first_parts (costs_of X f)),
      length-map (costs_of X f) (λ cost. cost.a),
      length-costs_of X f valid,
      valid.counted,
      valid.over,
      count_by-le-length is_some f,
    )
