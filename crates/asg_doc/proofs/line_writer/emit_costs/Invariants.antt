use Rattle.asg_doc.proofs.Common.{take, spaced_costs, Wrote}
use Rattle.asg_doc.proofs.line_writer.emit_costs.Given as goal

abbrev pub invariant-costs : goal.invariant-costs
invariant-costs g l =
    Wrote g.K.Sink.written g.K.Sink.faults l.fn.out l.out l.fn.page l.page
    (spaced_costs (take l.cost-index l.costs))
