use Rattle.asg_doc_reader.proofs.NodeParts.{front_cut}
use Rattle.asg_doc_reader.proofs.node_reader.front.Goals as goal

pub returns-in_err-rest : goal.returns-in_err-rest
returns-in_err-rest c = rw c.from_residual.ensures (λ n rest has.
    let parts = front_cut c.args.text.now c.cut.result.0.now c.cut.result.1.now n rest c.cut.ensures.whole c.cut.ensures.front c.cut.ensures.rest has in
    c.in_err-rest.ensures rest parts.1)

pub returns-in_err-number : goal.returns-in_err-number
returns-in_err-number c = rw c.from_residual-in_err-number.ensures (λ n rest has.
    let parts = front_cut c.args.text.now c.cut.result.0.now c.cut.result.1.now n rest c.cut.ensures.whole c.cut.ensures.front c.cut.ensures.rest has in
    c.in_err-number.ensures n has.fits parts.0)
