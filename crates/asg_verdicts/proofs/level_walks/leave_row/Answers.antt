use Rattle.asg_verdicts.proofs.LevelCommon.{◌≡◌, ◌<◌, ◌≤◌, not, ◌&&◌, refl, ap, ◌∙◌, subst, ⊎_elim, arith, to_z-of_z, w64, to_z, of_z, cases_lt, has_bit, place_hit, place_missed, passes_cost, is_between, cell_at}
use Rattle.asg_verdicts.proofs.level_walks.leave_row.Goals as goal

pub loop-column-preserved : goal.loop-column-preserved
loop-column-preserved c =
    let inv = c.loop-column.invariant in
    let Q = c.args.square.now in
    let row = c.args.row in
    let column = c.loop-column.column in
    let left = c.loop-column.left in
    let first = c.args.left.now in
    let next = to_z w64 (of_z w64 c.args.next) in
    let x = c.stays-is_left.result in
    let holds : x ≡ (has_bit first row column && not (passes_cost (is_between c.args.before next) (cell_at Q row column))) =
    c.stays-is_left.ensures
    ∙ ap (λ b. b && not (passes_cost (is_between c.args.before next) c.at.result)) (c.has.ensures ∙ inv.ahead column (omega arith))
    ∙ ap (λ o. has_bit first row column && not (passes_cost (is_between c.args.before next) o)) c.at.ensures in
    record {
      end = inv.end;
      rows = c.put.ensures.rows ∙ inv.rows;
      columns = c.put.ensures.columns ∙ inv.columns;
      done = λ d h.
          ⊎_elim
          (λ (early : d < column).
          c.put.ensures.bits row d ∙ place_missed row row d column x (has_bit left row d) (λ _ e. omega (arith, early, e)) ∙ inv.done d early)
          (λ (late : column ≤ d).
          let here : column ≡ d = omega (arith, h, late) in
          subst (λ k. has_bit c.put.new.self row k ≡ (has_bit first row k && not (passes_cost (is_between c.args.before next) (cell_at Q row k)))) here
          (c.put.ensures.bits row column ∙ place_hit row row column column x (has_bit left row column) refl refl ∙ holds))
          (cases_lt d column);
      ahead = λ d h. c.put.ensures.bits row d ∙ place_missed row row d column x (has_bit left row d) (λ _ e. omega (arith, h, e)) ∙ inv.ahead d (omega (arith, h));
      others = λ r d apart. c.put.ensures.bits r d ∙ place_missed r row d column x (has_bit left r d) (λ e _. apart e) ∙ inv.others r d apart;
    }

pub returns-clause-row : goal.returns-clause-row
returns-clause-row c d h =
    let inv = c.loop-column.invariant in
    inv.done d (omega (arith, h, c.loop-column-test.false, inv.end))
    ∙ ap (λ z. has_bit c.args.left.now c.args.row d && not (passes_cost (is_between c.args.before z) (cell_at c.args.square.now c.args.row d))) (to_z-of_z w64 c.args.next c.ranges.next)
