use Rattle.asg_rankings.proofs.Common.{arith, instances_are, node_trail-child}
use Rattle.asg_rankings.proofs.laws.node_law.Goals as goal

pub returns-clause-instances : goal.returns-clause-instances
returns-clause-instances c X answers nodes part placed root below n from within =
    instances_are X answers nodes (λ m h k. (placed m h k).before) (λ m h k. (placed m h k).there) part root below n n (omega arith) from within

pub returns-clause-trails : goal.returns-clause-trails
returns-clause-trails c k nodes placed n below within =
    node_trail-child nodes (λ m h w. (placed m h w).before) (λ m h w. (placed m h w).there) n below within
