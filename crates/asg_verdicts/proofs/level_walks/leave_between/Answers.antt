use Rattle.asg_verdicts.proofs.LevelCommon.{◌≡◌, ◌<◌, ◌≤◌, not, ◌&&◌, sym, ap, ◌∙◌, subst, ⊎_elim, arith, to_z-of_z, w64, to_z, of_z, cases_lt, has_bit, passes_cost, square_side, is_between, cell_at}
use Rattle.asg_verdicts.proofs.LevelCells.{left_without}
use Rattle.asg_verdicts.proofs.level_walks.leave_between.Goals as goal

pub loop-row-preserved : goal.loop-row-preserved
loop-row-preserved c =
    let Q = c.args.square.now in
    let inv = c.loop-row.invariant in
    let row = c.loop-row.row in
    let one = c.leave_row.ensures in
    let next = to_z w64 (of_z w64 c.args.next) in
    record {
      end = inv.end;
      before = inv.before;
      rows = one.rows;
      columns = one.columns;
      done = λ r d h hd.
          ⊎_elim
          (λ (early : r < row). one.others r d (λ e. omega (arith, early, e)) ∙ inv.done r d early hd)
          (λ (late : row ≤ r).
          let at : row ≡ r = omega (arith, h, late) in
          subst (λ k. has_bit c.leave_row.new.left k d ≡ (has_bit c.args.walk.now.left k d && not (passes_cost (is_between c.args.walk.now.before next) (cell_at Q k d)))) at
          (one.row d hd
          ∙ ap (λ b. b && not (passes_cost (is_between c.loop-row.walk.before next) (cell_at Q row d))) (inv.ahead row d (omega arith))
          ∙ ap (λ z. has_bit c.args.walk.now.left row d && not (passes_cost (is_between z next) (cell_at Q row d))) inv.before))
          (cases_lt r row);
      ahead = λ r d h. one.others r d (λ e. omega (arith, h, e)) ∙ inv.ahead r d (omega (arith, h));
    }

pub returns-clause-left : goal.returns-clause-left
returns-clause-left c left is =
    let X = c.args.inst.now in
    let Q = c.args.square.now in
    let inv = c.loop-row.invariant in
    let side : Q.side ≡ square_side X = c.requires.square.labels.side in
    let all : c.loop-row.row ≡ Q.side = omega (arith, c.loop-row-test.false, inv.end, c.loop-row.auto.row-end) in
    left_without X c.requires.instance (is_between c.args.walk.now.before c.args.next) Q c.requires.square left c.args.walk.now.left c.loop-row.walk.left
    (inv.rows ∙ side) (inv.columns ∙ side)
    (λ r d hr hd.
    inv.done r d (subst (λ n. r < n) (sym side ∙ sym all) hr) (subst (λ n. d < n) (sym side) hd)
    ∙ ap (λ z. has_bit c.args.walk.now.left r d && not (passes_cost (is_between c.args.walk.now.before z) (cell_at Q r d))) (to_z-of_z w64 c.args.next c.ranges.next))
    is
