use Rattle.std.specs.Prelude.{◌≡◌, ◌↔◌, ℕ, ◌≤◌, Option, List, length, map, All}
use Rattle.asg_model.specs.declared.parts.Cost.{Cost}
use Rattle.asg_model.specs.declared.objectives.Objective.{Objective}
use Rattle.asg_model.specs.Problem.{Problem}
use Rattle.asg_model.specs.ValidChoice.{IsValid}
use Rattle.asg_model.specs.Values.{costs_of, value_of, choice_value}
use Rattle.asg_model.specs.Better.{IsBetter}
use Rattle.asg_model.specs.Limits.{most_rows}
use Rattle.asg_model.specs.Refused.{PassesNegative}
use Rattle.asg_order.specs.Monoid.{Monoid, IsLess, fold_of}
use Rattle.asg_order.specs.Entering.{MayEnter, LiesWithin}

-- the product of the entered values of costs
abbrev pub costs_fold : {V : Type 0} → Monoid V → (Cost → V) → List Cost → V
costs_fold M enter costs = fold_of M (map enter costs)

-- the fold of a choice: the product of the entered values of its cells
abbrev pub choice_fold : {V : Type 0} → Monoid V → (Cost → V) → Problem → List (Option ℕ) → V
choice_fold M enter X f = costs_fold M enter (costs_of X f)

-- of two lists of costs, the one's value is better exactly where its product of entered values is
-- strictly less
abbrev pub KeepsOrderOf : {V : Type 0} → Monoid V → (Cost → V) → Objective
    → List Cost → List Cost → Type 0
KeepsOrderOf M enter objective u v =
    IsBetter objective (value_of objective u) (value_of objective v)
    ↔ IsLess M (costs_fold M enter u) (costs_fold M enter v)

-- entering keeps the order of values, of lists of equally many costs that may enter, no more than
-- an instance may have rows
abbrev pub KeepsOrder : {V : Type 0} → Monoid V → (Cost → V) → Objective → ℕ → Type 0
KeepsOrder M enter objective reach =
    (u v : List Cost) → length u ≡ length v → length u ≤ most_rows
    → All (MayEnter objective reach) u → All (MayEnter objective reach) v
    → KeepsOrderOf M enter objective u v

-- the bridge: over an instance of no more rows than there may be, whose live costs lie within the
-- reach and pass the objective, of two valid choices the one is better exactly where its fold is
-- strictly less
abbrev pub Bridges : {V : Type 0} → Monoid V → (Cost → V) → Objective → ℕ → Type 0
Bridges M enter objective reach =
    (X : Problem) (f g : List (Option ℕ)) → length X.rows ≤ most_rows
    → LiesWithin reach X → PassesNegative objective X → IsValid X f → IsValid X g
    → IsBetter objective (choice_value objective X f) (choice_value objective X g)
    ↔ IsLess M (choice_fold M enter X f) (choice_fold M enter X g)
