use Rattle.asg_replays.proofs.Common.{chosen_cost, fold_more}
use Rattle.asg_replays.proofs.starts.chosen_fold.Goals as goal

pub loop-row-preserved : goal.loop-row-preserved
loop-row-preserved g c =
    let kind = c.args.kind.now in
    record {
      product = fold_more (g.K.M.Ordered.monoid_of (g.K.Kind.monoid kind)) (g.K.Kind.entered kind) (chosen_cost c.args.inst.now c.args.choice.now) c.loop-row.row c.loop-row.product c.with_chosen-product.result
          c.loop-row.invariant.product c.with_chosen-product.ensures.product;
      value = c.with_chosen-product.ensures.is_value;
    }
