use Rattle.asg_admit.proofs.Common.{slice_index, ◌∙◌, arith, le-leb, lt-leb, entered_at, count_below-yes, count_below-no}
use Rattle.asg_admit.proofs.counting.entered.Goals as goal
use Rattle.asg_admit.proofs.counting.entered.Goals.{then-enters-r, else-enters-r}

pub loop-r-preserved : goal.loop-r-preserved
loop-r-preserved c =
    let p = entered_at c.args.enters.now c.args.t in
    let l = c.loop-r in
    elim c.if-enters-r.branch [
      | then-enters-r w ↦
          record {
            is = w.count-is ∙ count_below-yes p l.r l.count l.invariant.is (le-leb (slice_index c.args.enters.now l.r) c.args.t w.if-enters-r.true);
            few = omega (arith, w.count-is, l.invariant.few);
          }
      | else-enters-r w ↦
          record {
            is = w.count-is ∙ count_below-no p l.r l.count l.invariant.is (lt-leb (slice_index c.args.enters.now l.r) c.args.t (omega (arith, w.if-enters-r.false)));
            few = omega (arith, w.count-is, l.invariant.few);
          }
    ]
