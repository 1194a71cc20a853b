use Rattle.asg_rankings.proofs.Common.{true, sym, ◌∙◌, cond-false, cond-true, row_number, is_chosen, is_kept_at}
use Rattle.asg_rankings.proofs.ChildRows.{kept_by_place}
use Rattle.asg_rankings.proofs.children.keeps.Goals as goal

pub returns-then-is_active : goal.returns-then-is_active
returns-then-is_active c = λ branch at.
    let X = c.args.inst.now in
    let f = c.args.choice.now in
    let r = c.args.row in
    let active = sym c.if-is_active.ensures in
    let chosen = is_chosen f (r, c.args.column) in
    c.keeps_active.ensures
    ∙ kept_by_place X branch c.args.split r chosen at active
    ∙ sym (cond-true _ (is_kept_at branch (row_number X r) chosen) true active)

pub returns-else-is_active : goal.returns-else-is_active
returns-else-is_active c = λ branch at.
    let X = c.args.inst.now in
    let r = c.args.row in
    let idle = sym c.if-is_active.ensures in
    sym (cond-false _ (is_kept_at branch (row_number X r) (is_chosen c.args.choice.now (r, c.args.column))) true idle)
