use Rattle.asg_tokens.proofs.Common.{Some, sym, ap, ◌∙◌, absent_faults, absent_cell, right_faults, right_cell, range_faults, bad_faults}
use Rattle.asg_tokens.proofs.cells.cell_cost.Goals as goal

pub returns-then-is_absent-clause-cost : goal.returns-then-is_absent-clause-cost
returns-then-is_absent-clause-cost c = sym (absent_cell c.args.place _ (sym c.if-is_absent.ensures))

pub returns-then-is_absent-clause-right : goal.returns-then-is_absent-clause-right
returns-then-is_absent-clause-right c = absent_faults _ _ (sym c.if-is_absent.ensures)

pub returns-in-Some-Some-clause-cost : goal.returns-in-Some-Some-clause-cost
returns-in-Some-Some-clause-cost c =
    right_cell c.args.place _ _ (sym c.if-is_absent.ensures) (ap Some (sym c.in-Some-Some.field-0-is) ∙ c.in-Some-Some.ensures)

pub returns-in-Some-Some-clause-right : goal.returns-in-Some-Some-clause-right
returns-in-Some-Some-clause-right c =
    right_faults _ _ _ (sym c.if-is_absent.ensures) (ap Some (sym c.in-Some-Some.field-0-is) ∙ c.in-Some-Some.ensures)

pub returns-in-Some-None-clause-refused : goal.returns-in-Some-None-clause-refused
returns-in-Some-None-clause-refused c =
    range_faults _ _ (sym c.if-is_absent.ensures) (ap Some (sym c.in-Some-None.field-0-is) ∙ c.in-Some-None.ensures)

pub returns-in-None-clause-refused : goal.returns-in-None-clause-refused
returns-in-None-clause-refused c = bad_faults _ _ (sym c.if-is_absent.ensures) c.in-None.ensures
