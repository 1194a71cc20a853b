use Rattle.asg_text.proofs.Common.{Some, sym, ap, ◌∙◌, script_line_of, fields}
use Rattle.asg_text.proofs.ScriptLineLemmas.{kept_line, kept_faults, past_faults, formless}
use Rattle.asg_text.proofs.scripts.line_at.Goals as goal

pub returns-in-Some-Some-clause-says : goal.returns-in-Some-Some-clause-says
returns-in-Some-Some-clause-says c =
    kept_line (script_line_of (fields c.args.text.now)) _ (ap Some (sym c.in-Some-Some.field-0-is) ∙ c.in-Some-Some.ensures)

pub returns-in-Some-Some-clause-right : goal.returns-in-Some-Some-clause-right
returns-in-Some-Some-clause-right c =
    kept_faults c.args.number (script_line_of (fields c.args.text.now)) _ (ap Some (sym c.in-Some-Some.field-0-is) ∙ c.in-Some-Some.ensures)

pub returns-in-Some-None-clause-refused : goal.returns-in-Some-None-clause-refused
returns-in-Some-None-clause-refused c =
    past_faults c.args.number (script_line_of (fields c.args.text.now)) (ap Some (sym c.in-Some-None.field-0-is) ∙ c.in-Some-None.ensures)

pub returns-in-None-clause-refused : goal.returns-in-None-clause-refused
returns-in-None-clause-refused c =
    formless c.args.number (script_line_of (fields c.args.text.now)) c.in-None.ensures
