use Rattle.asg_text.proofs.FormulaCommon.{◌∙◌}
use Rattle.asg_text.proofs.FormulaTables.{are_parts, made_table, made_problem}
use Rattle.asg_text.proofs.formulas.generated.Goals as goal

pub of_table-requires-clause-parts : goal.of_table-requires-clause-parts
of_table-requires-clause-parts c =
    rw (c.in_ok-rows.ensures, c.in_ok-columns.ensures) (are_parts c.args.side c.requires.some c.requires.few)

pub of_table-requires-clause-table : goal.of_table-requires-clause-table
of_table-requires-clause-table c =
    made_table c.args.seed c.args.side _ _ _ _ c.in_ok-rows.ensures c.in_ok-columns.ensures c.in_ok-costs.ensures c.new.ensures.items

pub returns : goal.returns
returns c =
    c.of_table.ensures ∙ made_problem c.args.seed c.args.side _ _ _ _ c.in_ok-rows.ensures c.in_ok-columns.ensures c.in_ok-costs.ensures c.new.ensures.items
