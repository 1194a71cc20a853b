use Rattle.asg_sum_ranks.proofs.Common.{◌≡◌, ◌≤◌, length, sym, ap, ◌∙◌, subst, inr, arith, IsDualBound, sum_at, Branch, answer_at, branch_at, part_at}
use Rattle.asg_sum_ranks.proofs.shut_tests.are_children_shut.Goals as goal

pub returns-then-least-bound : goal.returns-then-least-bound
returns-then-least-bound c = λ true_one r from upto.
    inr (λ f answer within.
    let objective = c.args.ground.now.objective in
    let X = c.args.ground.now.inst.now in
    let branches = c.args.branches.now in
    let place = c.args.place in
    let sound = c.requires.sound in
    let same : length f ≡ length (answer_at branches place) = answer.over ∙ sym sound.answer.over in
    let rows : length (answer_at branches place) ≡ length X.rows = sound.answer.over in
    let inside = c.split_law.ensures.within (part_at branches place) (answer_at branches place) f r same sound.within from (omega arith) within in
    let dual = subst (λ duals. IsDualBound (length X.columns) (length X.rows) duals c.in-Some.bound) (c.amounts.ensures ∙ ap (λ (branch : Branch). branch.duals) c.at.ensures) c.in-Some.ensures in
    let bound : c.in-Some.bound ≤ sum_at objective X f = c.dual_bound_law.ensures objective X (part_at branches place) (branch_at branches place).duals c.in-Some.bound f sound.above dual answer inside in
    omega arith)
