-- What the squares of instances show whose live costs enter as values.
use Rattle.asg_objectives.proofs.Common.{ℕ, ◌≤◌, IfSome, IfOk, Option, Result, IfOk-weaker, IfSome_then, IsInstance, most_cost, live_at, Problem, PassesNegative, Objective, Cost, MayEnter, Monoid, IsValue, EntersValues, costs_may_enter}

-- the live costs enter as values, where each cost that may enter does so
pub EntersValues-may : {V : Type 0} (M : Monoid V) (enter : Cost → V) (objective : Objective) (reach : ℕ) (X : Problem) → most_cost ≤ reach → IsInstance X → PassesNegative objective X → ((cost : Cost) → MayEnter objective reach cost → IsValue M (enter cost)) → EntersValues M enter X
EntersValues-may M enter objective reach X far instance passes values r c =
    IfSome_then (live_at X r c) (costs_may_enter objective reach X far instance passes r c) values

-- what follows of each value follows where there is one
pub IfOk-weaker_some : {A E : Type 0} (r : Result (Option A) E) (P Q : A → Type 0) → ((x : A) → P x → Q x) → IfOk r (λ found. IfSome found P) → IfOk r (λ found. IfSome found Q)
IfOk-weaker_some r P Q follows = IfOk-weaker r (λ found. IfSome found P) (λ found. IfSome found Q) (λ found has. IfSome_then found has follows)
