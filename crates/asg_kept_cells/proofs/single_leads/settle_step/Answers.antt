use Rattle.asg_kept_cells.proofs.Common.{◌≡◌, slice_index_or, sym, ap, ◌∙◌, subst, arith, get_or_read, entered_at, staying_at, IsAdmittedStep, stepped, cell_at}
use Rattle.asg_kept_cells.proofs.SingleSteps.{one_step, one_applied}
use Rattle.asg_kept_cells.proofs.single_leads.settle_step.Goals as goal

pub step-requires-clause-enters : goal.step-requires-clause-enters
step-requires-clause-enters g c = c.requires.admitted.rows

pub step-requires-clause-leaves : goal.step-requires-clause-leaves
step-requires-clause-leaves g c = c.requires.admitted.columns

pub step-requires-clause-admitted : goal.step-requires-clause-admitted
step-requires-clause-admitted g c =
    let m = c.args.m.now in
    let M = g.M.Ordered.monoid_of m in
    let Q = c.args.reduced.now.now in
    let steps = c.args.steps.now in
    let enters = c.args.enters.now in
    let leaves = c.args.leaves.now in
    let first : slice_index_or steps 0 M.unit ≡ c.index-steps-0.result = sym (get_or_read steps 0 c.index-steps-0.result (omega (arith, c.requires.one)) c.index-steps-0.is M.unit) in
    subst (λ s. IsAdmittedStep M Q.side (entered_at enters 0) (staying_at leaves 0) s (cell_at Q)) first
    (one_step M (g.M.DMonoid.difference m) steps enters leaves Q c.requires.one c.requires.admitted)

pub returns : goal.returns
returns g c =
    let m = c.args.m.now in
    let M = g.M.Ordered.monoid_of m in
    let d = g.M.DMonoid.difference m in
    let Q = c.args.reduced.now.now in
    let steps = c.args.steps.now in
    let enters = c.args.enters.now in
    let leaves = c.args.leaves.now in
    let first : c.index-steps-0.result ≡ slice_index_or steps 0 M.unit = get_or_read steps 0 c.index-steps-0.result (omega (arith, c.requires.one)) c.index-steps-0.is M.unit in
    let admitted = one_step M d steps enters leaves Q c.requires.one c.requires.admitted in
    one_applied M (g.met.M.Ordered.laws m) d enters leaves c.args.reduced.now c.step.new.reduced steps c.requires.one admitted.value
    (λ r k. c.step.ensures.cells r k ∙ ap (λ s. stepped M d (entered_at enters 0) (staying_at leaves 0) s (cell_at Q) r k) first)
    (c.step.ensures.index ∙ ap (M.product c.args.reduced.now.index) first)
    c.step.ensures.labels c.step.ensures.reduced
