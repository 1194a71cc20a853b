use Rattle.asg_doc_reader.proofs.WindowParts.{lo_cut, hi_cut}
use Rattle.asg_doc_reader.proofs.window_reader.bounds_of.Goals as goal

pub returns-in_err-after : goal.returns-in_err-after
returns-in_err-after c = rw c.from_residual.ensures (λ lo hi rest has.
    let first = lo_cut c.args.text.now c.cut.result.0.now c.cut.result.1.now lo hi rest c.cut.ensures.whole c.cut.ensures.front c.cut.ensures.rest has in
    c.in_err-after.ensures _ first.1)

pub returns-in_err-hi : goal.returns-in_err-hi
returns-in_err-hi c = rw c.from_residual-in_err-hi.ensures (λ lo hi rest has.
    let first = lo_cut c.args.text.now c.cut.result.0.now c.cut.result.1.now lo hi rest c.cut.ensures.whole c.cut.ensures.front c.cut.ensures.rest has in
    let second = hi_cut c.cut.result.1.now c.in_ok-after.field-0.now c.cut-2.result.0.now c.cut-2.result.1.now hi rest c.in_ok-after.ensures c.cut-2.ensures.whole c.cut-2.ensures.front c.cut-2.ensures.rest has.hi_fits has.cut first.1 in
    c.in_err-hi.ensures hi has.hi_fits second.0)

pub returns-in_err-bound_of : goal.returns-in_err-bound_of
returns-in_err-bound_of c = rw c.from_residual-in_err-bound_of.ensures (λ lo hi rest has.
    let first = lo_cut c.args.text.now c.cut.result.0.now c.cut.result.1.now lo hi rest c.cut.ensures.whole c.cut.ensures.front c.cut.ensures.rest has in
    c.in_err-bound_of.ensures lo has.lo_fits first.0)
