use Rattle.asg_model.proofs.Common.{ℕ, ℤ, ◌*◌, List, [], get_or, pos, sym, ap, ◌∙◌, subst, absent, insert_entry, by_places, Cost}
use Rattle.std.proofs.Common.{replicate}
use Rattle.asg_model.specs.CellLists.{IsTableOf}
use Rattle.std.proofs.lemmas.List.{take_more}
use Rattle.asg_model.proofs.CellLists.{Cells, insert_next}
use Rattle.asg_model.proofs.EmptyTables.{empty_table}
use Rattle.asg_model.proofs.cell_lists.table_of.Goals as goal

-- what stands past the last cell
abbrev past : (ℕ × ℕ) × Cost
past = ((0, 0), record { a = pos 0; b = pos 0 })

pub put_in_whole-requires-clause-row : goal.put_in_whole-requires-clause-row
put_in_whole-requires-clause-row c =
    (c.requires.cells c.loop-cell.cell-index past c.loop-cell-test.true).0.0

pub put_in_whole-requires-clause-col : goal.put_in_whole-requires-clause-col
put_in_whole-requires-clause-col c =
    (c.requires.cells c.loop-cell.cell-index past c.loop-cell-test.true).0.1

pub put_in_whole-requires-clause-range : goal.put_in_whole-requires-clause-range
put_in_whole-requires-clause-range c =
    (c.requires.cells c.loop-cell.cell-index past c.loop-cell-test.true).1

pub put_in_whole-requires-clause-table : goal.put_in_whole-requires-clause-table
put_in_whole-requires-clause-table c = c.loop-cell.invariant.table

pub loop-cell-init : goal.loop-cell-init
loop-cell-init c =
    subst (λ (firsts : List ℤ). IsTableOf c.args.rows c.args.columns [] firsts c.new-seconds.result.items) (sym (c.in_ok-firsts.ensures.items_if_clones_equal (λ y same. same)))
    (subst (λ (seconds : List ℤ). IsTableOf c.args.rows c.args.columns [] (replicate (c.args.rows * c.args.columns) absent) seconds) (sym c.new-seconds.ensures.items)
    (empty_table c.args.rows c.args.columns))

pub loop-cell-preserved : goal.loop-cell-preserved
loop-cell-preserved c =
    let cells = c.args.cells.now in
    let i = c.loop-cell.cell-index in
    record {
      table = c.put_in_whole.ensures.table;
      cells_are =
          c.in_ok-put_in_whole.ensures.put
          ∙ ap (λ (list : Cells). insert_entry by_places list (get_or cells i past).0 (get_or cells i past).1) c.loop-cell.invariant.cells_are
          ∙ insert_next cells i past c.requires.ascend c.loop-cell-test.true
          ∙ sym (take_more cells i past c.loop-cell-test.true);
    }
