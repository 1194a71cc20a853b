use Rattle.asg_kept.proofs.Common.{ℕ, subst, arith, false≢true, Reduced, HasRoom, numbered_grid}
use Rattle.asg_kept.proofs.DualPhases.{has_room_is}
use Rattle.asg_kept.proofs.dual_squares.DualSquare.has_room.Goals as goal

pub returns-then-not-is_below : goal.returns-then-not-is_below
returns-then-not-is_below g c = λ h. absurd (false≢true h)

pub plus-requires : goal.plus-requires
plus-requires g c =
    omega (arith, c.self.invariant.duals.few_index, c.self.invariant.duals.few_greatest, g.met.N.SumNumber.wide_law)

pub plus-requires-2 : goal.plus-requires-2
plus-requires-2 g c =
    omega (arith, c.plus.ensures, c.is_below.ensures.below c.if-not-is_below.false, c.requires, c.self.invariant.duals.few_index, c.self.invariant.duals.few_greatest, g.met.N.SumNumber.wide_law)

pub returns : goal.returns
returns g c = λ yes.
    subst (λ (R : Reduced ℕ). HasRoom (g.N.SumNumber.number c.args.top) R (g.N.SumNumber.number c.args.sum)) c.self.view_is
    (has_room_is c.self.invariant.duals (omega (arith, c.is_below-2.ensures.below yes, c.plus.ensures, c.plus-2.ensures)))
