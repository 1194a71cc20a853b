use Rattle.asg_model.proofs.Common.{Option, option_map_or, eqb, false, sym, ap, Row}
use Rattle.asg_model.proofs.ReadItems.{read_at}
use Rattle.asg_model.proofs.places.is_row_at.Goals as goal

pub returns-in-Some : goal.returns-in-Some
returns-in-Some c =
    let at = c.in-Some.ensures.lookup in
    sym (ap (λ (o : Option Row). option_map_or (λ (x : Row). eqb x.id c.args.id) o false)
    (read_at c.args.rows.now c.args.place c.in-Some.row.now at.0 at.1))
