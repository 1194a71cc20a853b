use Rattle.asg_model.proofs.Common.{Option, option_map_or, eqb, false, sym, ap, Column}
use Rattle.asg_model.proofs.ReadItems.{read_at}
use Rattle.asg_model.proofs.places.is_column_at.Goals as goal

pub returns-in-Some : goal.returns-in-Some
returns-in-Some c =
    let at = c.in-Some.ensures.lookup in
    sym (ap (λ (o : Option Column). option_map_or (λ (x : Column). eqb x.id c.args.id) o false)
    (read_at c.args.columns.now c.args.place c.in-Some.column.now at.0 at.1))
