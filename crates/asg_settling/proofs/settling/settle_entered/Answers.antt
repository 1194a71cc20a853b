use Rattle.asg_settling.proofs.Common.{◌+◌, length, sym, refl, ap, ◌∙◌, subst, arith, phase_of, Grid}
use Rattle.asg_settling.proofs.SettledRows.{SettlesEnteredTo, none_entered, one_entered, all_entered, row_settled, row_stays}
use Rattle.asg_settling.proofs.settling.settle_entered.Goals as goal
use Rattle.asg_settling.proofs.settling.settle_entered.Goals.{then-enter-steps, else-enter-steps}

pub loop-row-init : goal.loop-row-init
loop-row-init g c =
    let phase = phase_of c.args.steps.now c.args.enters.now c.args.leaves.now in
    record {
      room = refl;
      settled = none_entered (g.M.Ordered.monoid_of c.args.m.now) (g.M.DMonoid.difference c.args.m.now) phase c.args.square.now;
    }

pub settle_row-requires-clause-cells : goal.settle_row-requires-clause-cells
settle_row-requires-clause-cells g c k h x is =
    let l = c.loop-row in
    let side = l.invariant.settled.labels.side in
    c.requires.cells l.row k (omega arith) (omega (arith, h, side)) c.if-enter-steps.true x (sym (l.invariant.settled.rest l.row k (omega arith)) ∙ is)

pub loop-row-preserved : goal.loop-row-preserved
loop-row-preserved g c =
    let m = c.args.m.now in
    let M = g.M.Ordered.monoid_of m in
    let d = g.M.DMonoid.difference m in
    let phase = phase_of c.args.steps.now c.args.enters.now c.args.leaves.now in
    let old = c.args.square.now in
    let l = c.loop-row in
    elim c.if-enter-steps.branch [
      | then-enter-steps w ↦
          let now = w.settle_row.new.square in
          let row = row_settled M d phase l.square now l.row w.if-enter-steps.true w.settle_row.ensures.row in
          record {
            room = ap length w.room-is ∙ w.settle_row.ensures.room ∙ l.invariant.room;
            settled = subst (λ (A : Grid g.row.M-Value.Denot). SettlesEnteredTo M d phase old A (l.row + 1)) (sym w.square-is) (one_entered M d phase old l.square now l.row l.invariant.settled row);
          }
      | else-enter-steps w ↦
          let row = row_stays M d phase l.square l.row w.if-enter-steps.false in
          record {
            room = ap length w.room-is ∙ l.invariant.room;
            settled = subst (λ (A : Grid g.row.M-Value.Denot). SettlesEnteredTo M d phase old A (l.row + 1)) (sym w.square-is) (one_entered M d phase old l.square l.square l.row l.invariant.settled row);
          }
    ]

pub returns-clause-settled : goal.returns-clause-settled
returns-clause-settled g c =
    let m = c.args.m.now in
    let M = g.M.Ordered.monoid_of m in
    let d = g.M.DMonoid.difference m in
    let phase = phase_of c.args.steps.now c.args.enters.now c.args.leaves.now in
    let old = c.args.square.now in
    all_entered M d phase old c.loop-row.square c.loop-row.row (omega arith) c.loop-row.invariant.settled
