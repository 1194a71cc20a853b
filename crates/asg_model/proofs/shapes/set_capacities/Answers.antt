use Rattle.asg_model.proofs.Common.{◌∙◌, arith, length-set, with_capacity}
use Rattle.asg_model.proofs.ShapeLemmas.{capacities_more, capacities_done}
use Rattle.asg_model.proofs.shapes.set_capacities.Goals as goal

pub loop-place-preserved : goal.loop-place-preserved
loop-place-preserved c =
    let t = c.loop-place-test.true in
    let n = c.len-place-end.ensures in
    let size = c.loop-place.invariant.0 in
    let column = c.index-column.result.now in (
      length-set c.loop-place.columns.items c.loop-place.place (with_capacity c.args.each column) ∙ size,
      capacities_more c.args.columns.now.items c.loop-place.columns.items c.args.each c.loop-place.place column size (omega (arith, t, n, size)) c.index-column.ensures c.loop-place.invariant.1,
    )

pub returns : goal.returns
returns c =
    let t = c.loop-place-test.false in
    let n = c.len-place-end.ensures in
    capacities_done c.args.columns.now.items c.loop-place.columns.items c.args.each c.loop-place.place c.loop-place.invariant.0 (omega (arith, t, n)) c.loop-place.invariant.1
