use Rattle.asg_edits.proofs.Common.{◌+◌, length, take, ap, ◌∙◌, arith, length-set}
use Rattle.asg_edits.proofs.CopySteps.{copied_more}
use Rattle.asg_edits.proofs.choice_copies.copied.Goals as goal

pub rows-preserved : goal.rows-preserved
rows-preserved c = record {
  size = ap length c.set.ensures ∙ length-set c.rows.copy c.rows.row c.get.result ∙ c.rows.invariant.size;
  same =
      ap (take (c.rows.row + 1)) c.set.ensures
      ∙ copied_more c.rows.copy c.args.choice.now c.rows.row c.get.result (omega (arith, c.rows-test.true, c.len-row-end.ensures)) c.rows.invariant.size c.rows.invariant.same c.get.ensures;
}
