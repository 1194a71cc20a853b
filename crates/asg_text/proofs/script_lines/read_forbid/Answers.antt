use Rattle.asg_text.proofs.Common.{◌∷◌, option_map, sym, ap, ◌∙◌, forbid_line_of, line_in_range, fields}
use Rattle.asg_text.proofs.ScriptLineLemmas.{no_third}
use Rattle.asg_text.proofs.script_lines.read_forbid.Goals as goal

pub returns-then-not-is_at_end : goal.returns-then-not-is_at_end
returns-then-not-is_at_end c =
    let row = c.in_ok-row.row.bytes.now in
    let col = c.in_ok-col.col.bytes.now in
    let all = c.in_ok-row.ensures.first ∙ ap (λ more. row ∷ more) c.in_ok-col.ensures.first in
    sym (ap (λ fields. option_map line_in_range (forbid_line_of fields)) all ∙ ap (option_map line_in_range) (no_third row col (fields c.in_ok-col.col.rest.now) (sym c.if-not-is_at_end.ensures)))
