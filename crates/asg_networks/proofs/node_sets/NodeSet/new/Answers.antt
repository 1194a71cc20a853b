use Rattle.asg_networks.proofs.Common.{◌+◌, arith, common_steps, most_rows, most_columns}
use Rattle.asg_networks.proofs.NodeSetLemmas.{has_none}
use Rattle.asg_networks.proofs.node_sets.NodeSet.new.Goals as goal

pub returns : goal.returns
returns c = λ id.
    has_none (record { low = c.in_ok-vec.field-0; high = c.new.result }) (most_rows + most_columns + 1) id
    (c.in_ok-vec.ensures.items_if_clones_equal (λ y same. grind (arith, common_steps))) c.new.ensures.empty
