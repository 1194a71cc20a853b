use Rattle.asg_model.proofs.Common.{Option, option_map_or, sym, ap, Column}
use Rattle.asg_model.proofs.ReadItems.{read_at}
use Rattle.asg_model.proofs.places.first_column_id.Goals as goal

pub returns-in-Some : goal.returns-in-Some
returns-in-Some c =
    let at = c.in-Some.ensures.lookup in
    sym (ap (λ (o : Option Column). option_map_or (λ (x : Column). x.id) o 0)
    (read_at c.args.columns.now 0 c.in-Some.column.now at.0 at.1))
