use Rattle.asg_verdicts.proofs.LevelCommon.{◌≡◌, ◌<◌, ◌≤◌, sym, ap, ◌∙◌, subst, ⊎_elim, arith, to_z-of_z, w64, to_z, of_z, cases_lt, has_bit, level_value, Grid, cell_at}
use Rattle.asg_verdicts.proofs.LevelStarts.{set_here, set_elsewhere}
use Rattle.asg_verdicts.proofs.level_walks.set_row.Goals as goal

pub loop-column-preserved : goal.loop-column-preserved
loop-column-preserved c =
    let inv = c.loop-column.invariant in
    let now = c.loop-column.now in
    let after = c.set.new.self in
    let Q = c.args.square.now in
    let row = c.args.row in
    let column = c.loop-column.column in
    let x = c.level_cell.result in
    let cost = to_z w64 (of_z w64 c.args.cost) in
    let grid = c.side-grid.ensures.grid in
    let side : now.side ≡ Q.side = ap (λ (q : Grid _). q.side) inv.same ∙ c.requires.side in
    let hr = subst (λ n. row < n) (sym side) c.requires.row_below in
    let hc : column < now.side = omega (arith, c.loop-column-test.true, inv.end, side) in
    let holds : x ≡ level_value (has_bit c.args.left.now row column) cost (cell_at Q row column) =
    c.level_cell.ensures
    ∙ ap (λ b. level_value b cost c.at.result) c.has-is_left.ensures
    ∙ ap (λ o. level_value (has_bit c.args.left.now row column) cost o) c.at.ensures in
    record {
      end = inv.end;
      same = ap (λ (q : Grid _). record q { cells = c.args.now.now.cells }) c.set.ensures ∙ inv.same;
      done = λ d h.
          ⊎_elim
          (λ (before : d < column). set_elsewhere now after row column x grid hr hc c.set.ensures row d (λ same e. omega (arith, before, e)) ∙ inv.done d before)
          (λ (from : column ≤ d).
          let here : column ≡ d = omega (arith, h, from) in
          subst (λ k. cell_at after row k ≡ level_value (has_bit c.args.left.now row k) cost (cell_at Q row k)) here
          (set_here now after row column x grid hr hc c.set.ensures ∙ holds))
          (cases_lt d column);
      others = λ r d other. set_elsewhere now after row column x grid hr hc c.set.ensures r d (λ same e. other same) ∙ inv.others r d other;
    }

pub returns-clause-row : goal.returns-clause-row
returns-clause-row c d h =
    let inv = c.loop-column.invariant in
    inv.done d (omega (arith, h, c.loop-column-test.false, inv.end))
    ∙ ap (λ z. level_value (has_bit c.args.left.now c.args.row d) z (cell_at c.args.square.now c.args.row d)) (to_z-of_z w64 c.args.cost c.ranges.cost)
