use Rattle.asg_verdicts.proofs.LevelCommon.{◌≡◌, ◌<◌, ◌≤◌, map, length, get_or, slice_set, None, sym, ap, ◌∙◌, subst, ⊎_elim, arith, length-set, get_or-set_other, get_or-set_same, cases_lt, get_or-map-range_with_len, get_or_default, length-map-range_with_len, range_with_len, same_lists, chosen_by}
use Rattle.asg_verdicts.proofs.level_choices.chosen_by.Goals as goal

-- the row is one of the square
pub column_by-requires-clause-row : goal.column_by-requires-clause-row
column_by-requires-clause-row c =
    let labels = c.requires.square.labels in
    omega (arith, c.loop-row-test.true, c.loop-row.invariant.end, labels.rows, labels.side, c.rows.ensures.grid.rows_within)

pub loop-row-preserved : goal.loop-row-preserved
loop-row-preserved c =
    let X = c.args.inst.now in
    let perm = c.args.perm.now in
    let inv = c.loop-row.invariant in
    let row = c.loop-row.row in
    let f = c.loop-row.chosen in
    let column = c.column_by.result in
    let within : row < length f = omega (arith, c.loop-row-test.true, inv.end, inv.count) in
    record {
      end = inv.end;
      count = ap length c.set.ensures ∙ length-set f row column ∙ inv.count;
      done = λ r h.
          ap (λ xs. get_or xs r None) c.set.ensures
          ∙ ⊎_elim
          (λ (before : r < row). get_or-set_other f row r column None (λ at. omega (arith, at, before)) ∙ inv.done r before)
          (λ (from : row ≤ r).
          let at : row ≡ r = omega (arith, h, from) in
          subst (λ k. get_or (slice_set f row column) k None ≡ chosen_by X perm k) at (get_or-set_same f row column None within ∙ c.column_by.ensures))
          (cases_lt r row);
    }

-- all rows have chosen
pub returns : goal.returns
returns c =
    let X = c.args.inst.now in
    let perm = c.args.perm.now in
    let inv = c.loop-row.invariant in
    let f = c.loop-row.chosen in
    let rows = length X.rows in
    same_lists f (map (chosen_by X perm) (range_with_len 0 rows)) (inv.count ∙ sym (length-map-range_with_len (chosen_by X perm) 0 rows))
    (λ k d h.
    let below : k < rows = omega (arith, h, inv.count) in
    get_or_default f k d None h
    ∙ inv.done k (omega (arith, below, c.loop-row-test.false, inv.end))
    ∙ sym (get_or-map-range_with_len (chosen_by X perm) 0 rows k k d below (omega arith)))
