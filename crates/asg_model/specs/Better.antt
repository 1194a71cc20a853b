use Rattle.std.specs.Prelude.{◌≡◌, ◌⊎◌, ℤ, ◌<ℤ◌, List, [], ◌∷◌}
use Rattle.asg_model.specs.declared.objectives.Objective.{Objective}
use Rattle.asg_model.specs.declared.objectives.Objective.TheVariants.{SumMax, SumPair, BottleneckMax, TimeCost, Lex}
use Rattle.asg_model.specs.declared.objectives.Value.{Value}
use Rattle.asg_model.specs.declared.objectives.Value.TheVariants.{One, Two, Many}

-- the form of an objective's values: one number, two, or a list
abbrev pub HasForm : Objective → Value → Type 0
HasForm SumPair (Two x y) = Unit {0}
HasForm SumPair _ = ⊥
HasForm TimeCost (Two x y) = Unit {0}
HasForm TimeCost _ = ⊥
HasForm Lex (Many xs) = Unit {0}
HasForm Lex _ = ⊥
HasForm _ (One x) = Unit {0}
HasForm _ _ = ⊥

-- one number is better than another: greater for `sum-max` and `bottleneck-max`, else less
abbrev pub IsBetterNumber : Objective → ℤ → ℤ → Type 0
IsBetterNumber SumMax x y = y <ℤ x
IsBetterNumber BottleneckMax x y = y <ℤ x
IsBetterNumber _ x y = x <ℤ y

-- one list is less than another: at their first difference, or where it ends first
abbrev pub IsLessList : List ℤ → List ℤ → Type 0
IsLessList xs [] = ⊥
IsLessList [] (y ∷ ys) = Unit {0}
IsLessList (x ∷ xs) (y ∷ ys) = (x <ℤ y) ⊎ ((x ≡ y) × IsLessList xs ys)

-- one value is better than another; pairs and lists are compared at their first difference
abbrev pub IsBetter : Objective → Value → Value → Type 0
IsBetter objective (One x) (One y) = IsBetterNumber objective x y
IsBetter objective (Two x s) (Two y t) = (x <ℤ y) ⊎ ((x ≡ y) × (s <ℤ t))
IsBetter objective (Many xs) (Many ys) = IsLessList xs ys
IsBetter _ _ _ = ⊥
