use Rattle.asg_promises.proofs.HeldInstances.{InstanceLaws, IsTaken-held, holds_instances}
use Rattle.asg_promises.proofs.laws.instance_law.Goals as goal

pub returns-clause-instance : goal.returns-clause-instance
returns-clause-instance c = λ words bytes job X is holds.
    let laws : InstanceLaws = record {
      requests = c.request_law.ensures;
      spelled = c.instance_law.ensures;
      stays = c.shape_law.ensures.shaped;
      in_range = c.shape_law.ensures.in_range;
    } in
    holds_instances laws words job is bytes X holds

pub returns-clause-passes : goal.returns-clause-passes
returns-clause-passes c = λ bytes job X holds. (IsTaken-held job bytes X holds).passes

pub returns-clause-side : goal.returns-clause-side
returns-clause-side c = λ bytes job X holds. (IsTaken-held job bytes X holds).within

pub returns-clause-place : goal.returns-clause-place
returns-clause-place c = λ bytes job X holds. (IsTaken-held job bytes X holds).placed
