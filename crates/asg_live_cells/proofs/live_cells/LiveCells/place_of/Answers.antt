use Rattle.asg_live_cells.proofs.Common.{ltb, arith, rules, ltb-false, ltb-true, IsPartitionPoint-from_clause, IsPartitionedBy-ltb, entry_of, Entry}
use Rattle.asg_live_cells.proofs.live_cells.LiveCells.place_of.Goals as goal

pub returns : goal.returns
returns c =
    let parted = IsPartitionedBy-ltb (λ (e : Entry). e.grade) _ c.args.bound c.requires in
    let point = IsPartitionPoint-from_clause (λ (e : Entry). ltb e.grade c.args.bound) _ _ c.partition_point.ensures.partitioned parted (λ a r q k. search rules) in
    record {
      within = c.partition_point.ensures.bound;
      below = λ k h. ltb-true _ _ (point.0 k (entry_of 0 0 0) (omega arith) h);
      from = λ k h within. ltb-false _ _ (point.1 k (entry_of 0 0 0) h within);
    }
