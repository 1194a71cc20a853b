-- Cells through a phase: marks count only up to the number of steps.
use Rattle.std.proofs.Common.{◌≡◌, ℕ, ◌<◌, ◌≤◌, min, List, length, ◌∙◌, ap, subst, arith}
use Rattle.std.specs.Prelude.{Option, Some, None, IfSome}
use Rattle.asg_order.specs.Monoid.{Monoid, IsLe, IsLess, IsOrderedMonoid}
use Rattle.asg_order.specs.Differences.{HasDifferences}
use Rattle.asg_admit.specs.Settled.{step_of, cell_after, settled, AllowsSteps, RefusesStep}
use Rattle.asg_admit.specs.laws.SettledCells.{IsTwice, cell_after-cut}

pub if_some : {V : Type 0} {P Q : V → Type 0} (o : Option V) → ((y : V) → P y → Q y) → IfSome o P → IfSome o Q
if_some None f h = h
if_some (Some y) f h = f y h

module _ {V : Type 0} (M : Monoid V) (laws : IsOrderedMonoid M) (difference : V → V → V) (has : HasDifferences M difference) (twice : IsTwice M difference) (steps : List V) (enter leave e l : ℕ) (is_e : e ≡ min enter (length steps)) (is_l : l ≡ min leave (length steps)) (x : V) where
  pub cut_after : (t : ℕ) → t ≤ length steps → cell_after M difference (step_of M steps) e l x t ≡ cell_after M difference (step_of M steps) enter leave x t
  cut_after t h =
      ap (λ i. cell_after M difference (step_of M steps) i l x t) is_e
      ∙ ap (λ i. cell_after M difference (step_of M steps) (min enter (length steps)) i x t) is_l
      ∙ cell_after-cut M laws difference has twice (step_of M steps) enter leave (length steps) x t h

  pub cut_settled : settled M difference steps e l x ≡ settled M difference steps enter leave x
  cut_settled = cut_after (length steps) (omega arith)

  pub allows_cut : AllowsSteps M difference steps e l x → AllowsSteps M difference steps enter leave x
  allows_cut allows = λ t below h k.
      subst (IsLe M (step_of M steps t)) (cut_after t (omega (arith, below))) (allows t below (omega (arith, is_e, h)) (omega (arith, is_l, k, below)))

  pub refuses_cut : RefusesStep M difference steps e l x → RefusesStep M difference steps enter leave x
  refuses_cut one =
      let t = one.0 in
      let below = one.1 in
      let h = one.2 in
      let k = one.3 in
      let entered : enter ≤ t = omega (arith, is_e, h, below) in
      let stays : t < leave = omega (arith, is_l, k) in (
        t,
        below,
        entered,
        stays,
        subst (λ y. IsLess M y (step_of M steps t)) (cut_after t (omega (arith, below))) one.4,
      )
