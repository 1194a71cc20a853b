use Rattle.asg_admit.proofs.Common.{◌≡◌, sym, ap, ◌∙◌, arith, step_of, cell_after, cell_after-before, cell_after-late}
use Rattle.asg_admit.proofs.replayed_cells.lessened.Goals as goal

pub loop-t-init : goal.loop-t-init
loop-t-init g c =
    let m = c.args.m.now in
    let M = g.M.Ordered.monoid_of m in
    record {
      is_value = c.requires.value;
      after = sym (cell_after-before M (g.M.DMonoid.difference m) (step_of M c.args.steps.now) c.args.enter c.args.leave c.args.x c.args.enter (omega arith) c.requires.order);
      allowed = λ t h k. absurd (omega (arith, h, k));
    }

pub returns-clause-settled : goal.returns-clause-settled
returns-clause-settled g c =
    let m = c.args.m.now in
    let M = g.M.Ordered.monoid_of m in
    let l = c.loop-t in
    let at : l.t ≡ c.args.leave = omega (arith, c.loop-t-test.false, l.auto.t-end) in
    l.invariant.after
    ∙ ap (cell_after M (g.M.DMonoid.difference m) (step_of M c.args.steps.now) c.args.enter c.args.leave c.args.x) at
    ∙ sym (cell_after-late M (g.M.DMonoid.difference m) (step_of M c.args.steps.now) c.args.enter c.args.leave c.args.x c.args.leave _ c.requires.order (omega arith) c.requires.end)
