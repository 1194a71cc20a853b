use Rattle.asg_kept.proofs.Common.{◌≡◌, subst, arith, false≢true, bounded_sums, fold_of, HasRoom, sum_at, fold_is}
use Rattle.asg_kept.proofs.dual_squares.DualSquare.takes.Goals as goal

pub returns-in-Some : goal.returns-in-Some
returns-in-Some g c = λ yes.
    let N = g.N.SumNumber in
    let steps = N.numbers c.args.steps.now in
    let top = N.number c.args.top in
    let all = sum_at g.met.N.SumNumber.numbers_law c.args.steps.now in
    let is : N.number c.in-Some.sum ≡ fold_of (bounded_sums top) steps = omega (arith, fold_is steps top, all, c.in-Some.ensures.within, c.in-Some.ensures.small) in
    subst (HasRoom top c.args.self.now) is (c.has_room.ensures yes)

pub returns-in-None : goal.returns-in-None
returns-in-None g c = λ no_room. absurd (false≢true no_room)
