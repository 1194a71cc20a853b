use Rattle.asg_tokens.proofs.Common.{drop, refl, take_rest, IsBehindSpace, short_absent_cell}
use Rattle.asg_tokens.proofs.cells.short_absent_cell.Goals as goal

pub returns-in_ok-rest : goal.returns-in_ok-rest
returns-in_ok-rest c =
    let behind : IsBehindSpace (drop 1 c.args.text.now) c.in_ok-rest.rest.now = rw take_rest at c.in_ok-rest.ensures in
    λ place. short_absent_cell place c.args.text.now (drop 1 c.args.text.now) c.in_ok-rest.rest.now behind (c.if-is_negative.ensures.behind refl)
