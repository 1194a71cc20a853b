use Rattle.asg_verdicts.proofs.LevelCommon.{◌≡◌, IfOk-weaker, IsCostSquare, free_cost, Cost, IsSquareBy}
use Rattle.asg_verdicts.proofs.level_walks.cost_square.Goals as goal

pub returns-clause-square : goal.returns-clause-square
returns-clause-square c =
    let X = c.args.inst.now in
    IfOk-weaker c.of.result
    (IsSquareBy X free_cost (λ cost v. Cost × (v ≡ cost.a)))
    (IsCostSquare X)
    (λ Q by. by (λ cost. cost.a) (λ r d cost v at entered. entered.1))
    c.of.ensures.square
