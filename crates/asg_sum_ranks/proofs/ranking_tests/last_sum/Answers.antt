use Rattle.asg_sum_ranks.proofs.Common.{◌≡◌, length, ap, ◌∙◌, subst, arith, sum_at, columns_of, SumsTo}
use Rattle.asg_sum_ranks.proofs.Steps.{sums_one, sums_more}
use Rattle.asg_sum_ranks.proofs.ranking_tests.last_sum.Goals as goal

pub number_of-last-requires : goal.number_of-last-requires
number_of-last-requires c = ap length (c.columns.ensures ∙ ap columns_of c.at.ensures) ∙ c.requires.sides 0 c.requires.some

pub branches-init : goal.branches-init
branches-init c =
    let objective = c.args.ground.now.objective in
    let X = c.args.ground.now.inst.now in
    sums_one objective X c.args.branches.now c.number_of-last.result (c.number_of-last.ensures ∙ ap (sum_at objective X) (c.columns.ensures ∙ ap columns_of c.at.ensures))

pub number_of-sum-requires : goal.number_of-sum-requires
number_of-sum-requires c = ap length (c.columns-in-branches.ensures ∙ ap columns_of c.at-in-branches.ensures) ∙ c.requires.sides c.branches.place (omega arith)

pub branches-preserved : goal.branches-preserved
branches-preserved c =
    let objective = c.args.ground.now.objective in
    let X = c.args.ground.now.inst.now in
    sums_more objective X c.args.branches.now c.branches.place c.branches.last c.number_of-sum.result c.branches.invariant (c.number_of-sum.ensures ∙ ap (sum_at objective X) (c.columns-in-branches.ensures ∙ ap columns_of c.at-in-branches.ensures)) c.if-sum-last.false

pub returns : goal.returns
returns c =
    let same : c.branches.place ≡ length c.args.branches.now = omega arith in
    subst (λ n. SumsTo c.args.ground.now.objective c.args.ground.now.inst.now c.args.branches.now n c.branches.last) same c.branches.invariant
