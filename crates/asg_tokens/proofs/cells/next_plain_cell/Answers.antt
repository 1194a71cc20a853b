use Rattle.asg_tokens.proofs.Common.{IsFaultyCell, faulty_cell, handed_on}
use Rattle.asg_tokens.proofs.cells.next_plain_cell.Goals as goal

pub returns-in_err-cost-in-Some-clause-refused : goal.returns-in_err-cost-in-Some-clause-refused
returns-in_err-cost-in-Some-clause-refused c =
    handed_on c.from_residual.result c.in_err-cost-in-Some.field-0.0 (IsFaultyCell c.args.place c.args.text.now) c.from_residual.ensures.1
    (faulty_cell c.args.place c.args.text.now c.in-Some.token.bytes.now _ _ c.in-Some.ensures.first c.in_err-cost-in-Some.ensures.refused)
