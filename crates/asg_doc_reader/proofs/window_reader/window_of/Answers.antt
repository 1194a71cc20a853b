use Rattle.asg_doc_reader.proofs.WindowParts.{no_rows}
use Rattle.asg_doc_reader.proofs.window_reader.window_of.Goals as goal

pub returns-in_err-rows : goal.returns-in_err-rows
returns-in_err-rows c =
    no_rows c.args.text.now c.in-Some.lo c.in-Some.hi c.in-Some.rows.now c.in_err-rows.field-0.0 c.from_residual.result c.from_residual.ensures.1 c.in-Some.ensures c.in_err-rows.ensures
