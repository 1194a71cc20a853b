use Rattle.asg_thresh.proofs.Common.{◌≡◌, ℕ, ◌+◌, ◌*◌, cond, get_or, is_some, None, sym, ap, ◌∙◌, subst, arith, lt-ltb, mul-add-lt, Grid, cell_at, Grades}
use Rattle.asg_thresh.proofs.GradeLemmas.{grades_full, grades_one}
use Rattle.asg_thresh.proofs.grades.grade_cell.Goals as goal

pub returns-in-Some : goal.returns-in-Some
returns-in-Some c =
    let Q = c.args.square.now in
    let place = c.args.row * Q.side + c.args.column in
    let cell : get_or Q.cells place None ≡ cell_at Q c.args.row c.args.column = sym (ap (λ b. cond b (get_or Q.cells place None) None) (lt-ltb c.args.column Q.side c.requires.column_below)) in
    grades_full Q place (place + 1)
    (λ k from below.
    ap (λ i. is_some (get_or Q.cells i None)) (omega (arith, from, below)) ∙ ap is_some (cell ∙ sym c.at.ensures ∙ c.in-Some.is))

pub returns-in-None : goal.returns-in-None
returns-in-None c =
    let Q = c.args.square.now in
    let place = c.args.row * Q.side + c.args.column in
    let cell : get_or Q.cells place None ≡ cell_at Q c.args.row c.args.column = sym (ap (λ b. cond b (get_or Q.cells place None) None) (lt-ltb c.args.column Q.side c.requires.column_below)) in
    let below = mul-add-lt c.args.row Q.side c.args.column Q.side c.requires.row_below c.requires.column_below in
    subst (λ (g : Grid ℕ). Grades Q g place (place + 1)) (sym c.set.ensures)
    (grades_one Q place (omega (arith, below, c.requires.grid.table.count)) (cell ∙ sym c.at.ensures ∙ c.in-None.is))
