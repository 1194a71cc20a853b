use Rattle.asg_live_cells.proofs.Common.{false, ◌∙◌, subst, arith, PutsBit, entry_at}
use Rattle.asg_live_cells.proofs.MarkLemmas.{fewer_next}
use Rattle.asg_live_cells.proofs.named.leave.Goals as goal

pub loop-place-preserved : goal.loop-place-preserved
loop-place-preserved c =
    let inv = c.loop-place.invariant in
    let entry = entry_at c.args.entries.now c.loop-place.place in
    let put =
    subst (λ r. PutsBit c.loop-place.bits c.put.new.self r entry.column false) c.from-row.ensures
    (subst (λ d. PutsBit c.loop-place.bits c.put.new.self c.from-row.result d false) c.from-column.ensures c.put.ensures) in
    record {
      from = omega (arith, inv.from);
      rows = c.put.ensures.rows ∙ inv.rows;
      columns = c.put.ensures.columns ∙ inv.columns;
      marks = fewer_next c.args.bits.now c.loop-place.bits c.put.new.self c.args.entries.now c.args.from c.loop-place.place inv.from inv.marks put;
    }
