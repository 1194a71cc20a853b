use Rattle.asg_thresh.proofs.Common.{ℕ, ◌*◌, sym, ap, ◌∙◌, arith, count_by-le-length, rows_within}
use Rattle.asg_thresh.proofs.outcomes.graded_outcome.Goals as goal

pub least_threshold-requires-clause-some : goal.least_threshold-requires-clause-some
least_threshold-requires-clause-some c =
    let X = c.args.inst.now in
    let i = c.rows-rows.ensures.instance.well_formed in
    omega (arith, rows_within X i.place_in_range, i.some_active, count_by-le-length (λ row. row.active) X.rows, c.side-side.ensures.side, c.requires.square.square.labels.side)

pub least_threshold-requires-clause-few : goal.least_threshold-requires-clause-few
least_threshold-requires-clause-few c =
    omega (arith, c.side-side.ensures.side, c.requires.square.square.labels.side, c.requires.side)

pub least_threshold-requires-clause-square : goal.least_threshold-requires-clause-square
least_threshold-requires-clause-square c =
    c.values-grades.ensures.count ∙ c.side-side.ensures.grid.table.count ∙ sym (ap (λ (n : ℕ). n * n) c.side-side.ensures.side)

pub outcome-requires-clause-few : goal.outcome-requires-clause-few
outcome-requires-clause-few c = omega (arith, c.requires.square.square.labels.side, c.requires.side)

pub outcome-requires-clause-count : goal.outcome-requires-clause-count
outcome-requires-clause-count c = c.values-grades.ensures.count ∙ c.side-side.ensures.grid.table.count

pub outcome-requires-clause-square : goal.outcome-requires-clause-square
outcome-requires-clause-square c = c.requires.square
