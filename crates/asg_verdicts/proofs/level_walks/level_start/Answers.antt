use Rattle.asg_verdicts.proofs.LevelCommon.{◌≡◌, ◌<◌, ◌≤◌, ◌⊎◌, sym, ap, ◌∙◌, subst, inl, inr, ⊎_elim, arith, to_z-of_z, w64, to_z, of_z, cases_lt, has_bit, level_value, square_side, level_square, Grid, cell_at}
use Rattle.asg_verdicts.proofs.LevelCells.{level_cell_is}
use Rattle.asg_verdicts.proofs.LevelStarts.{outside_none, outside_level, level_value_is, unit_is_value}
use Rattle.asg_verdicts.proofs.level_walks.level_start.Goals as goal

-- what its cells hold are values
pub returns-clause-reduced : goal.returns-clause-reduced
returns-clause-reduced c =
    let Q = c.args.square.now in
    let inv = c.loop-row.invariant in
    let all : c.loop-row.row ≡ Q.side = omega (arith, c.loop-row-test.false, inv.end, c.loop-row.auto.row-end) in
    record {
      cells = λ r k x hr hk is. level_value_is _ _ _ x (sym (inv.done r k (subst (λ n. r < n) (inv.side ∙ sym all) hr) (subst (λ n. k < n) inv.side hk)) ∙ is);
      index = unit_is_value;
    }

-- each cell of the square within its side, and none beyond it
pub returns-clause-cells : goal.returns-clause-cells
returns-clause-cells c left is r d =
    let X = c.args.inst.now in
    let Q = c.args.square.now in
    let inv = c.loop-row.invariant in
    let side : Q.side ≡ square_side X = c.requires.square.labels.side in
    let all : c.loop-row.row ≡ Q.side = omega (arith, c.loop-row-test.false, inv.end, c.loop-row.auto.row-end) in
    let now = c.loop-row.now in
    let within : r < square_side X → d < square_side X → cell_at now r d ≡ level_square X left c.args.cost r d =
    λ hr hd.
    inv.done r d (subst (λ n. r < n) (sym side ∙ sym all) hr) (subst (λ n. d < n) (sym side) hd)
    ∙ ap (λ z. level_value (has_bit c.args.walk.now.left r d) z (cell_at Q r d)) (to_z-of_z w64 c.args.cost c.ranges.cost)
    ∙ level_cell_is X c.rows-rows.ensures.instance c.args.cost Q c.requires.square left r d _ (is.each r d hr hd) in
    let beyond : (square_side X ≤ r) ⊎ (square_side X ≤ d) → cell_at now r d ≡ level_square X left c.args.cost r d =
    λ out. outside_none now (square_side X) (inv.side ∙ side) c.side-grid.ensures.grid r d out ∙ sym (outside_level X left c.args.cost r d out) in
    ⊎_elim
    (λ (hr : r < square_side X). ⊎_elim (λ (hd : d < square_side X). within hr hd) (λ (pd : square_side X ≤ d). beyond (inr pd)) (cases_lt d (square_side X)))
    (λ (pr : square_side X ≤ r). beyond (inl pr))
    (cases_lt r (square_side X))

pub loop-row-preserved : goal.loop-row-preserved
loop-row-preserved c =
    let Q = c.args.square.now in
    let inv = c.loop-row.invariant in
    let row = c.loop-row.row in
    let one = c.set_row.ensures in
    let left = c.args.walk.now.left in
    record {
      end = inv.end;
      side = ap (λ (q : Grid _). q.side) one.same ∙ inv.side;
      done = λ r d h hd.
          ⊎_elim
          (λ (early : r < row). one.others r d (λ e. omega (arith, early, e)) ∙ inv.done r d early hd)
          (λ (late : row ≤ r).
          let at : row ≡ r = omega (arith, h, late) in
          subst (λ k. cell_at c.set_row.new.now k d ≡ level_value (has_bit left k d) (to_z w64 (of_z w64 c.args.cost)) (cell_at Q k d)) at (one.row d hd))
          (cases_lt r row);
    }
