use Rattle.asg_bit_rows.proofs.Common.{◌≡◌, ◌∙◌, ⊎_elim, arith, cases_eq}
use Rattle.asg_bit_rows.proofs.RunLemmas.{put_in, put_beside}
use Rattle.asg_bit_rows.proofs.bit_rows.BitRows.set_all.Goals as goal

pub loop-r-preserved : goal.loop-r-preserved
loop-r-preserved c =
    let inv = c.loop-r.invariant in
    let puts = c.put_columns.ensures in
    let r = c.loop-r.r in
    record {
      end = inv.end;
      width = inv.width;
      rows = puts.rows ∙ inv.rows;
      columns = puts.columns ∙ inv.columns;
      all = λ s d h within.
          ⊎_elim
          (λ (row : s ≡ r). put_in puts s d row (omega arith) (omega (arith, within, inv.width)))
          (λ other. put_beside puts s d other ∙ inv.all s d (omega (arith, h, other)) within)
          (cases_eq s r);
    }
