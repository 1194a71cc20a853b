use Rattle.asg_cell_tables.proofs.Common.{Some, refl, ◌∙◌, arith, length-set}
use Rattle.asg_cell_tables.proofs.PieceLemmas.{values_more}
use Rattle.asg_cell_tables.proofs.pieces.fill_with.Goals as goal

pub loop-k-preserved : goal.loop-k-preserved
loop-k-preserved g c =
    let i = c.loop-k.invariant in
    record {
      count = length-set c.loop-k.values c.loop-k.k c.args.value ∙ i.count;
      values = values_more c.loop-k.values c.loop-k.k (λ _. Some c.args.value) c.args.value (omega (arith, c.loop-k-test.true, i.count)) refl i.values;
    }
