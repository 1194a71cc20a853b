use Rattle.asg_thresh.proofs.Common.{sym, subst, AllowsCells, IsHall, IsUnder}
use Rattle.asg_thresh.proofs.outcomes.hall_ids.Goals as goal

pub returns : goal.returns
returns c Y band rows columns place allowed =
    let cells = subst (λ n. AllowsCells (IsUnder c.args.grades.now n c.args.found.now.limit) Y band) (sym c.side.ensures.side) allowed in
    subst (IsHall Y band) (sym c.from_vec.ensures) (c.in_ok-ids.ensures.hall Y band rows columns place cells)
