use Rattle.asg_objectives.proofs.Common.{sym, subst, IsPresent, cell_at}
use Rattle.asg_match.specs.HallSets.{GivesHallSets}
use Rattle.asg_objectives.proofs.solved_squares.nothing.Goals as goal

pub returns : goal.returns
returns g c =
    subst (GivesHallSets c.args.inst.now (IsPresent (cell_at c.args.square.now))) (sym c.from_vec.ensures) c.in_ok-ids.ensures.hall
