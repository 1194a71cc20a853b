use Rattle.asg_grade_lists.proofs.Common.{◌≤◌, drop, sym, ◌∙◌, subst, AreOfGrade, LeadTo, RowsEndWell, narrow_top}
use Rattle.asg_grade_lists.proofs.ListLemmas.{list_leads}
use Rattle.asg_grade_lists.proofs.lists.index_in_room.Goals as goal

pub put_others-requires-clause-some : goal.put_others-requires-clause-some
put_others-requires-clause-some h c = let risen = rw c.in-Some.is at c.in_ok-first.ensures.rises in risen.some

pub returns : goal.returns
returns h c = λ top high.
    let side = h.C.GradedCells.side_of c.args.cells.now in
    let cells = h.C.GradedCells.cells_of c.args.cells.now in
    let words = c.args.phases.now in
    let g = c.in-Some.grade in
    let totals = c.put_others.new.totals in
    let risen = rw c.in-Some.is at c.in_ok-first.ensures.rises in
    let small = rw c.in-Some.is at c.in_ok-first.ensures.small in
    let all = subst (λ n. AreOfGrade g n (drop 1 words) totals) c.requires.side (c.in_ok-are_put.ensures.put c.if-not-are_put.false) in
    let count = c.in_ok-are_put.ensures.side ∙ c.requires.side in
    let few = subst (λ n. n ≤ narrow_top) c.sum-sum.ensures (c.is_short.ensures c.if-not-is_short.false) in
    let ends =
    subst (λ xs. RowsEndWell g side side xs totals.columns cells) c.rows.ensures.rows
    (subst (λ xs. RowsEndWell g side side c.rows.result.now xs cells) c.columns.ensures.columns
    (c.rows_end_well.ensures c.if-not-rows_end_well.false)) in
    subst (λ n. LeadTo top side cells words (g, n)) (sym c.sum-sum.ensures ∙ sym c.from.ensures)
    (list_leads top g side cells words totals c.side-side.ensures.within count few high all ends risen small)
