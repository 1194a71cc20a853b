use Rattle.asg_model.proofs.Common.{◌≡◌, ℕ, ◌+◌, ◌-◌, length, drop, get_or, pos, sym, ap, ◌∙◌, subst, arith, absent, cost_at, table_cost, Cost}
use Rattle.asg_model.proofs.CellLists.{read_one}
use Rattle.asg_model.proofs.row_rooms.RowRoom.read.Goals as goal

pub put-requires-clause-in_range : goal.put-requires-clause-in_range
put-requires-clause-in_range c =
    c.requires.in_range (length c.args.cells.now - 1 - c.loop-done.done) _ (omega (arith, c.loop-done-test.true))

pub loop-done-preserved : goal.loop-done-preserved
loop-done-preserved c = λ r k of_row.
    let cells = c.args.cells.now in
    let i = length cells - 1 - c.loop-done.done in
    let none : (ℕ × ℕ) × Cost = ((0, 0), record { a = pos 0; b = pos 0 }) in
    let before : i + 1 ≡ length cells - c.loop-done.done = omega (arith, c.loop-done-test.true) in
    let after : i ≡ length cells - (c.loop-done.done + 1) = omega (arith, c.loop-done-test.true) in
    subst (λ n. table_cost c.put.new.self.seconds k (get_or c.put.new.self.firsts k absent) ≡ cost_at (drop n cells) r k) after
    (read_one cells i r k none
    (λ c'. table_cost c.loop-done.self.seconds c' (get_or c.loop-done.self.firsts c' absent))
    (λ c'. table_cost c.put.new.self.seconds c' (get_or c.put.new.self.firsts c' absent))
    (omega (arith, c.loop-done-test.true)) of_row c.put.ensures.cost c.put.ensures.others
    (c.loop-done.invariant r k of_row ∙ ap (λ n. cost_at (drop n cells) r k) (sym before)))

pub returns : goal.returns
returns c = λ r k of_row.
    let none_left : length c.args.cells.now - c.loop-done.done ≡ 0 = omega (arith, c.loop-done-test.false) in
    c.loop-done.invariant r k of_row ∙ ap (λ n. cost_at (drop n c.args.cells.now) r k) none_left
