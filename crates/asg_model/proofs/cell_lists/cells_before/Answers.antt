use Rattle.asg_model.proofs.Common.{rules, ltb}
use Rattle.std.proofs.lemmas.List.Sorted.{IsPartitionPoint-from_clause, IsPartitionedBy-ltb}
use Rattle.asg_model.proofs.cell_lists.cells_before.Goals as goal

pub returns-clause-point : goal.returns-clause-point
returns-clause-point c =
    IsPartitionPoint-from_clause (λ cell. ltb cell.0.0 c.args.row) c.args.cells.now c.partition_point.result c.partition_point.ensures.partitioned
    (IsPartitionedBy-ltb (λ cell. cell.0.0) c.args.cells.now c.args.row c.requires) (λ a r f k. search rules)
