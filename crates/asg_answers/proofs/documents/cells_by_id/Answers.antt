use Rattle.asg_answers.proofs.Common.{◌≡◌, ◌+◌, sym, subst, append-nil, arith, common_steps, cell_at, AreCellIds, cells_by_id}
use Rattle.asg_answers.proofs.CellIds.{cell_ids}
use Rattle.asg_answers.proofs.ChosenCells.{cells_from, cells_from-step, cells_from-moved}
use Rattle.asg_answers.proofs.DocumentLemmas.{AreCells-by_id}
use Rattle.asg_answers.proofs.documents.cells_by_id.Goals as goal
use Rattle.asg_answers.proofs.documents.cells_by_id.Goals.{in-Some+in_ok-push, in_default}

pub loop-place-preserved : goal.loop-place-preserved
loop-place-preserved c =
    let X = c.args.inst.now in
    let f = c.args.choice.now in
    let r = c.loop-place.place in
    let rest = cells_from X f (r + 1) in
    let step = cells_from-step X f r (omega arith) (omega arith) in
    let moved = cells_from-moved c.loop-place.cells.items rest (cells_by_id X f) (cells_from X f r) (cell_at X f r) c.loop-place.invariant step in
    elim c.match-chosen_cell.branch [
      | in-Some+in_ok-push w ↦ let moved' = rw (← w.in-Some.ensures) at moved in rw (w.cells-is, w.in_ok-push.ensures.items) moved'
      | in_default w ↦ let moved' = rw (← w.in_default.ensures, append-nil) at moved in rw w.cells-is moved'
    ]

pub from_vec-requires : goal.from_vec-requires
from_vec-requires c =
    let is : c.loop-place.cells.items ≡ cells_by_id c.args.inst.now c.args.choice.now = grind (arith, common_steps) in
    subst AreCellIds (sym is) (cell_ids c.args.inst.now c.args.choice.now c.rows.ensures.instance)

pub returns-clause-text : goal.returns-clause-text
returns-clause-text c =
    let is : c.loop-place.cells.items ≡ cells_by_id c.args.inst.now c.args.choice.now = grind (arith, common_steps) in
    rw c.from_vec.ensures (AreCells-by_id _ _ _ c.rows.ensures.instance c.requires is)
