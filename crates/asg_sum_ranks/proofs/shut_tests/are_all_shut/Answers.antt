use Rattle.asg_sum_ranks.proofs.Common.{subst, inl, inr, arith, cases_eq, AreShut}
use Rattle.asg_sum_ranks.proofs.shut_tests.are_all_shut.Goals as goal

pub branches-preserved : goal.branches-preserved
branches-preserved c a below =
    elim (cases_eq c.branches.place a) [
      | inl same ↦ subst (AreShut c.args.ground.now.objective c.args.ground.now.inst.now c.args.branches.now c.args.least) same (c.are_children_shut.ensures c.if-not-are_children_shut.false)
      | inr other ↦ c.branches.invariant a (omega arith)
    ]

pub returns : goal.returns
returns c = λ _ a below. c.branches.invariant a (omega arith)
