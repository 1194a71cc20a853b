use Rattle.asg_doc.proofs.Common.{ap, to_z-of_z, signed_decimal, Wrote-append, Wrote-as, Wrote-nothing, w64}
use Rattle.asg_doc.proofs.ListTexts.{costs_more}
use Rattle.asg_doc.proofs.line_writer.emit_costs.Goals as goal

pub costs-init : goal.costs-init
costs-init g c = Wrote-nothing _ _ _ _

pub costs-preserved : goal.costs-preserved
costs-preserved g c =
    let fits = c.requires c.costs.cost-index _ c.costs-test.true in
    Wrote-as (costs_more c.args.costs.now c.costs.cost-index _ c.costs-test.true)
    (Wrote-append c.costs.invariant (Wrote-append c.emit.ensures
    (Wrote-as (ap signed_decimal (to_z-of_z w64 _ fits)) c.emit_bound.ensures)))
