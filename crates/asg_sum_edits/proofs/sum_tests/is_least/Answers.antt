use Rattle.asg_sum_edits.proofs.Common.{length, pos, ◌+ℤ◌, ◌≤ℤ◌, sum, subst, to_z-of_z, w128, number_of}
use Rattle.asg_sum_edits.proofs.TestFacts.{balanced}
use Rattle.asg_sum_edits.proofs.sum_tests.is_least.Goals as goal

pub returns : goal.returns
returns c h = record {
  valid = c.requires.valid;
  balance =
      balanced c.args.objective c.args.inst.now c.args.choice.now c.args.amount c.args.falls.now c.args.rises.now c.requires.narrow c.rows-rows.ensures.instance c.requires.one_to_one c.requires.valid c.requires.value
      (subst (λ n. (number_of c.args.objective n c.args.amount +ℤ pos (sum c.args.rises.now)) ≤ℤ pos (sum c.args.falls.now)) c.requires.over_rows
      (subst (λ z. (number_of c.args.objective (length c.args.falls.now) z +ℤ pos (sum c.args.rises.now)) ≤ℤ pos (sum c.args.falls.now)) (to_z-of_z w128 c.args.amount c.ranges.amount) (c.is_balanced.ensures h)));
  value = c.requires.value;
}
