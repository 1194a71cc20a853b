-- Equal values and equal objectives are decided.
use Rattle.asg_check.proofs.Common.{◌≡◌, refl, ap, List-discrete, and, of_iff, ℕ_discrete, ℤ_discrete, Objective, Sum, SumMax, SumPair, Capped, Bottleneck, BottleneckMax, TimeCost, Balanced, Lex, Value, One, Two, Many}

pub same_objective : (x y : Objective) → Dec (x ≡ y)
same_objective (Capped cap) (Capped other) = of_iff (ap Capped, λ e. cc) (ℕ_discrete cap other)
same_objective Sum Sum = yes refl
same_objective SumMax SumMax = yes refl
same_objective SumPair SumPair = yes refl
same_objective Bottleneck Bottleneck = yes refl
same_objective BottleneckMax BottleneckMax = yes refl
same_objective TimeCost TimeCost = yes refl
same_objective Balanced Balanced = yes refl
same_objective Lex Lex = yes refl
same_objective x y = no (λ e. absurd (cc))

pub same_value : (x y : Value) → Dec (x ≡ y)
same_value (One x) (One y) = of_iff (ap One, λ e. cc) (ℤ_discrete x y)
same_value (Two x s) (Two y t) = of_iff (λ both. let first = both.0 in let second = both.1 in cc, λ e. (cc, cc)) (and (ℤ_discrete x y) (ℤ_discrete s t))
same_value (Many xs) (Many ys) = of_iff (ap Many, λ e. cc) (List-discrete ℤ_discrete xs ys)
same_value x y = no (λ e. absurd (cc))
