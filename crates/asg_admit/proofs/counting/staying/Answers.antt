use Rattle.asg_admit.proofs.Common.{slice_index, ◌∙◌, arith, le-ltb, lt-ltb, staying_at, count_below-yes, count_below-no}
use Rattle.asg_admit.proofs.counting.staying.Goals as goal
use Rattle.asg_admit.proofs.counting.staying.Goals.{then-t-leaves, else-t-leaves}

pub loop-k-preserved : goal.loop-k-preserved
loop-k-preserved c =
    let p = staying_at c.args.leaves.now c.args.t in
    let l = c.loop-k in
    elim c.if-t-leaves.branch [
      | then-t-leaves w ↦
          record {
            is = w.count-is ∙ count_below-yes p l.k l.count l.invariant.is (lt-ltb c.args.t (slice_index c.args.leaves.now l.k) (omega (arith, w.if-t-leaves.true)));
            few = omega (arith, w.count-is, l.invariant.few);
          }
      | else-t-leaves w ↦
          record {
            is = w.count-is ∙ count_below-no p l.k l.count l.invariant.is (le-ltb c.args.t (slice_index c.args.leaves.now l.k) (omega (arith, w.if-t-leaves.false)));
            few = omega (arith, w.count-is, l.invariant.few);
          }
    ]
