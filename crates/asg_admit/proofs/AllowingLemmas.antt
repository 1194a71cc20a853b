-- Values that allow all steps of a phase, as every greater value does then.
use Rattle.asg_admit.proofs.Common.{◌≡◌, ℕ, ◌<◌, ◌≤◌, min, Bool, true, false, List, length, IfSome, Some, None, All, Option, MatchOption, sym, refl, ap, ◌∙◌, subst, arith, step_of, between, cell_after, AllowsSteps, AllowsAll, IsTwice, between_is_value, cell_after-inside, HasDifferences, Monoid, IsValue, IsLe, IsOrderedMonoid, difference_monotone}

module _ {V : Type 0} (M : Monoid V) (laws : IsOrderedMonoid M) (difference : V → V → V) (has : HasDifferences M difference) (twice : IsTwice M difference) (steps : List V) (vs : All (IsValue M) steps) where
  abbrev step : ℕ → V
  step = step_of M steps

  step_value : (t : ℕ) → t < length steps → IsValue M (step t)
  step_value t h = vs t M.unit h

  -- a cell whose row has entered and whose column stays
  inside : (a b t : ℕ) (x : V) → IsValue M x → a ≤ t → t < b → t < length steps → cell_after M difference step a b x t ≡ difference x (between M step a t)
  inside a b t x vx h k below =
      let at : min b t ≡ t = omega (arith, k) in
      cell_after-inside M laws difference has twice step (length steps) step_value a b x vx (omega (arith, h, k)) t (omega (arith, below))
      ∙ ap (λ n. difference x (between M step a n)) at

  -- what allows the steps to the end allows them wherever the column leaves
  pub allows_all : (enter from : ℕ) → from ≡ min enter (length steps) → (x : V) → IsValue M x → AllowsSteps M difference steps from (length steps) x → AllowsAll M difference steps enter x
  allows_all enter from is x vx allows = λ leave t below entered stays.
      let at : from ≡ enter = omega (arith, is, below, entered) in
      subst (IsLe M (step t))
      (inside from (length steps) t x vx (omega (arith, at, entered)) below below
      ∙ ap (λ a. difference x (between M step a t)) at
      ∙ sym (inside enter leave t x vx entered stays below))
      (allows t below (omega (arith, at, entered)) below)

  -- so does every greater value
  pub greater_allows : (enter : ℕ) (y x : V) → IsValue M y → IsValue M x → IsLe M y x → AllowsAll M difference steps enter y → AllowsAll M difference steps enter x
  greater_allows enter y x vy vx le allows = λ leave t below entered stays.
      let p = between M step enter t in
      let vp : IsValue M p = between_is_value M laws difference has twice step (length steps) step_value enter t (omega (arith, below)) in
      subst (IsLe M (step t)) (sym (inside enter leave t x vx entered stays below))
      (laws.transitive (step t) (difference y p) (difference x p) (step_value t below) (has.difference_is_value y p vy vp) (has.difference_is_value x p vx vp)
      (subst (IsLe M (step t)) (inside enter leave t y vy entered stays below) (allows leave t below entered stays))
      (difference_monotone M laws difference has y x p vy vx vp le))

  -- so does each that is at least the value, where there is one
  pub least_allows : (enter : ℕ) (least : Option V) → IfSome least (IsValue M) → IfSome least (AllowsAll M difference steps enter) → (x : V) → IsValue M x → MatchOption least ⊥ (λ y. IsLe M y x) → AllowsAll M difference steps enter x
  least_allows enter None values allows x vx le = absurd le
  least_allows enter (Some y) values allows x vx le = greater_allows enter y x values vx le allows

-- what isn't false is true
pub not_false : (b : Bool) → (b ≡ false → ⊥) → b ≡ true
not_false true f = refl
not_false false f = absurd (f refl)
