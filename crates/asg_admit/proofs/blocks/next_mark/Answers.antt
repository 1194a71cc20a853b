use Rattle.asg_admit.proofs.Common.{ℕ, ◌≤◌, ◌⊎◌, slice_index, inl, inr, ⊎_elim, arith, below_more}
use Rattle.asg_admit.proofs.blocks.next_mark.Goals as goal

pub loop-i-preserved : goal.loop-i-preserved
loop-i-preserved c =
    let l = c.loop-i in
    let near = c.nearer_mark-least in
    record {
      after = near.ensures.after;
      within = omega (arith, near.ensures.within, l.invariant.within);
      apart = below_more (λ (i : ℕ). (slice_index c.args.marks.now i ≤ c.args.from) ⊎ (near.result ≤ slice_index c.args.marks.now i)) _
          (λ i h.
          ⊎_elim
          (λ by. inl by)
          (λ behind. inr (omega (arith, behind, near.ensures.within)))
          (l.invariant.apart i h))
          near.ensures.apart;
    }
