use Rattle.asg_model.proofs.Common.{Option, option_map_or, sym, ap, Row}
use Rattle.asg_model.proofs.ReadItems.{read_at}
use Rattle.asg_model.proofs.places.first_row_id.Goals as goal

pub returns-in-Some : goal.returns-in-Some
returns-in-Some c =
    let at = c.in-Some.ensures.lookup in
    sym (ap (λ (o : Option Row). option_map_or (λ (x : Row). x.id) o 0)
    (read_at c.args.rows.now 0 c.in-Some.row.now at.0 at.1))
