use Rattle.asg_square.proofs.Common.{None, sym, ◌∙◌, subst, arith, fill_by_all, IsValid, grid_chosen}
use Rattle.asg_square.proofs.SquareAssignments.{valid_within}
use Rattle.asg_square.proofs.squares.Square.choice_into.Goals as goal

pub returns-clause-choice : goal.returns-clause-choice
returns-clause-choice g c =
    fill_by_all (grid_chosen c.args.self.now c.args.perm.now) c.loop-r.out c.args.self.now.rows None
    (c.loop-r.invariant.0 ∙ c.requires.out)
    (λ k h. c.loop-r.invariant.1 k (omega (arith, c.loop-r.invariant.0, c.requires.out, c.loop-r-test.false, c.len-r-end.ensures)))

pub returns-clause-valid : goal.returns-clause-valid
returns-clause-valid g c =
    λ X instance square.
    subst (IsValid X) (sym (returns-clause-choice g c))
    (valid_within X c.args.self.now square c.args.perm.now c.requires.perm instance.well_formed.place_in_range)
