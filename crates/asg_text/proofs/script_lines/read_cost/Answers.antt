use Rattle.asg_text.proofs.Common.{◌∷◌, Some, option_map, sym, ap, ◌∙◌, cost_line_of, line_in_range, fields}
use Rattle.asg_text.proofs.ScriptLineLemmas.{no_fourth, ended, cost_said}
use Rattle.asg_text.proofs.script_lines.read_cost.Goals as goal

pub returns-then-not-is_at_end : goal.returns-then-not-is_at_end
returns-then-not-is_at_end c =
    let row = c.in_ok-row.row.bytes.now in
    let col = c.in_ok-col.col.bytes.now in
    let cost = c.in_ok-cost.cost.bytes.now in
    let last = ap (λ more. col ∷ more) c.in_ok-cost.ensures.first in
    let all = c.in_ok-row.ensures.first ∙ ap (λ more. row ∷ more) (c.in_ok-col.ensures.first ∙ last) in
    sym (ap (λ fields. option_map line_in_range (cost_line_of fields)) all ∙ ap (option_map line_in_range) (no_fourth row col cost (fields c.in_ok-cost.cost.rest.now) (sym c.if-not-is_at_end.ensures)))

pub returns : goal.returns
returns c =
    let row = c.in_ok-row.row.bytes.now in
    let col = c.in_ok-col.col.bytes.now in
    let cost = c.in_ok-cost.cost.bytes.now in
    let last = ap (λ more. col ∷ more) c.in_ok-cost.ensures.first in
    let all = c.in_ok-row.ensures.first ∙ ap (λ more. row ∷ more) (c.in_ok-col.ensures.first ∙ last) in
    ap Some c.cost_line.ensures
    ∙ sym (cost_said (fields c.args.text.now) row col cost (fields c.in_ok-cost.cost.rest.now) c.in_ok-row-2.row c.in_ok-col-2.col c.in_ok-cost-2.cost all (ended (fields c.in_ok-cost.cost.rest.now) (sym c.if-not-is_at_end.ensures)) c.in_ok-row-2.ensures c.in_ok-col-2.ensures c.in_ok-cost-2.ensures)
