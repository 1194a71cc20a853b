-- A step by 1 that meets no cell which is 0 is admitted.
use Rattle.asg_levels.proofs.Common.{◌≡◌, ℕ, zero, suc, ◌<◌, true, List, nat_le, Some, Option, refl, arith, nat_tests, BitTable, AreDuals, AreFree, CountsRight, unit_phase, entered_at, staying_at, AreAdmittedSteps, IsAdmittedPhase}
use Rattle.asg_monoids.specs.BoundedSums.{bounded_difference}
use Rattle.asg_proof.specs.Levels.{level_sums}
use Rattle.asg_levels.specs.laws.UnitSteps.{tight_where}

module _ (side count : ℕ) (zeros ones : BitTable) (ins outs : List ℕ) (square : ℕ → ℕ → Option ℕ) (duals : AreDuals side count zeros ones ins outs square)
    (enters leaves : List ℕ) (right : CountsRight side enters leaves) (free : AreFree zeros ones ins outs enters leaves side side)
  where
    positive : (r k x : ℕ) → r < side → k < side → entered_at enters 0 r ≡ true → staying_at leaves 0 k ≡ true → square r k ≡ Some x → nat_le 1 x ≡ true
    positive r k zero hr hk e s at = absurd (free r k hr hk e s (tight_where side count zeros ones ins outs square duals r k at))
    positive r k (suc x) hr hk e s at = one_le x
      where
        one_le : (x : ℕ) → nat_le 1 (suc x) ≡ true
        one_le x = grind (arith, nat_tests)

    pub unit_admitted : IsAdmittedPhase level_sums bounded_difference side (unit_phase enters leaves) square
    unit_admitted = record { rows = right.rows; columns = right.columns; admitted = steps }
      where
        steps : AreAdmittedSteps level_sums bounded_difference side (unit_phase enters leaves) square 1
        steps zero h = record { value = refl; count = right.count; least = positive }
        steps (suc t) h = absurd (omega (arith, h))
