use Rattle.asg_kept_phases.proofs.Common.{◌≡◌, ◌<◌, ◌≤◌, IfSome, Some, sym, subst, arith, IsAtRow, phases_along, square_side, square_cell, column_label}
use Rattle.asg_kept_phases.proofs.MendLemmas.{MendsCells-same}
use Rattle.asg_kept_phases.proofs.led_squares.mend_named.Goals as goal

pub rows_at-seen-requires : goal.rows_at-seen-requires
rows_at-seen-requires g c = subst (λ n. IfSome c.args.row (λ p. p < n)) (sym c.side-side.ensures.side) c.requires.row

pub returns : goal.returns
returns g c =
    let m = g.K.Kind.monoid c.args.kind.now in
    let M = g.K.M.Ordered.monoid_of m in
    let X = c.args.inst.now in
    let end = c.side-side.ensures.side in
    let seen = c.rows_at-seen.result in
    let rows = c.rows_at-seen.ensures in
    MendsCells-same M (g.K.M.DMonoid.difference m) (phases_along c.args.region.now c.args.trails.now) (square_cell X M.unit (g.K.Kind.entered c.args.kind.now))
    (λ s j. ((seen.0 ≤ s) × (s < seen.1)) × (column_label X j ≡ Some c.args.q))
    (λ s j. (s < square_side X) × (IsAtRow c.args.row s × (column_label X j ≡ Some c.args.q)))
    c.args.square.now c.mend_rows.new.square
    (λ s j hs hj named. ((rows.rows s (subst (λ n. s < n) (sym end) named.0)).1 named.1.0, named.1.1))
    (λ s j within.
    let last = within.0.1 in
    let upto = rows.within in
    let low : s < c.side-side.result = omega (arith, last, upto) in
    (subst (λ n. s < n) end low, ((rows.rows s low).0 within.0, within.1)))
    c.mend_rows.ensures
