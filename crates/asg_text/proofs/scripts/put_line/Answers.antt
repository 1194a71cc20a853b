use Rattle.asg_text.proofs.Common.{length, sym, fields}
use Rattle.asg_text.proofs.ScriptLemmas.{blank_right, blank_adds}
use Rattle.asg_text.proofs.scripts.put_line.Goals as goal

pub returns-then-is_at_end-clause-right : goal.returns-then-is_at_end-clause-right
returns-then-is_at_end-clause-right c =
    blank_right (length c.args.script.now.items) c.args.number (fields c.args.text.now) (sym c.if-is_at_end.ensures)

pub returns-then-is_at_end-clause-put : goal.returns-then-is_at_end-clause-put
returns-then-is_at_end-clause-put c =
    blank_adds c.args.number (fields c.args.text.now) c.args.script.now.items (sym c.if-is_at_end.ensures)
