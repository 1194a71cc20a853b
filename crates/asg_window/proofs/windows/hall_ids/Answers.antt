use Rattle.asg_window.proofs.Common.{sym, subst}
use Rattle.asg_model.specs.HallSet.{IsHall}
use Rattle.asg_window.proofs.windows.hall_ids.Goals as goal

pub returns : goal.returns
returns c Y band rows columns place allowed =
    subst (IsHall Y band) (sym c.from_vec.ensures) (c.in_ok-ids.ensures.hall Y band rows columns place allowed)
