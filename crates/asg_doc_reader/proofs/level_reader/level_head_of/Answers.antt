use Rattle.asg_doc_reader.proofs.Common.{after_cut}
use Rattle.asg_doc_reader.proofs.Leaves.{level_head_cut}
use Rattle.asg_doc_reader.proofs.level_reader.level_head_of.Goals as goal

pub returns-in_err-after : goal.returns-in_err-after
returns-in_err-after c = rw c.from_residual.ensures (λ head fits is.
    let parts = level_head_cut c.args.text.now c.cut.result.0.now c.cut.result.1.now head c.cut.ensures.whole c.cut.ensures.front c.cut.ensures.rest fits.0 is in
    c.in_err-after.ensures _ parts.1)

pub returns-in_err-counts : goal.returns-in_err-counts
returns-in_err-counts c = rw c.from_residual-in_err-counts.ensures (λ head fits is.
    let parts = level_head_cut c.args.text.now c.cut.result.0.now c.cut.result.1.now head c.cut.ensures.whole c.cut.ensures.front c.cut.ensures.rest fits.0 is in
    c.in_err-counts.ensures head.1 fits.1 (after_cut 32 c.cut.result.1.now c.in_ok-after.field-0.now _ c.in_ok-after.ensures parts.1))

pub returns-in_err-bound_of : goal.returns-in_err-bound_of
returns-in_err-bound_of c = rw c.from_residual-in_err-bound_of.ensures (λ head fits is.
    let parts = level_head_cut c.args.text.now c.cut.result.0.now c.cut.result.1.now head c.cut.ensures.whole c.cut.ensures.front c.cut.ensures.rest fits.0 is in
    c.in_err-bound_of.ensures head.0 fits.0 parts.0)
