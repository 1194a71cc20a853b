use Rattle.asg_kept_phases.proofs.Common.{◌≡◌, ℕ, ◌+◌, ◌<◌, ◌≤◌, ◌⊎◌, Some, inl, inr, ⊎_elim, arith, cases_lt, phases_along, HasColumnsOf-kept, square_cell, column_label}
use Rattle.asg_kept_phases.proofs.MendLemmas.{MendsCells-both, MendsCells-none, MendsCells-same}
use Rattle.asg_kept_phases.proofs.mended_cells.mend_rows.Goals as goal

pub loop-r-init : goal.loop-r-init
loop-r-init g c =
    let m = g.K.Kind.monoid c.args.kind.now in
    let M = g.K.M.Ordered.monoid_of m in
    let X = c.args.inst.now in
    MendsCells-none M (g.K.M.DMonoid.difference m) (phases_along c.args.region.now c.args.trails.now) (square_cell X M.unit (g.K.Kind.entered c.args.kind.now))
    (λ s j. ((c.args.from ≤ s) × (s < c.args.from)) × (column_label X j ≡ Some c.args.q)) c.args.square.now
    (λ s j hs hj seen. let low = seen.0.0 in let high = seen.0.1 in omega (arith, low, high))

next_row : (from r s : ℕ) (Labelled : Type 0) → ((from ≤ s) × (s < r + 1)) × Labelled → (((from ≤ s) × (s < r)) × Labelled) ⊎ ((s ≡ r) × Labelled)
next_row from r s Labelled seen =
    ⊎_elim
    (λ (h : s < r). inl ((seen.0.0, h), seen.1))
    (λ (h : r ≤ s). let upto = seen.0.1 in inr (omega (arith, h, upto), seen.1))
    (cases_lt s r)

pub mend_row-requires-clause-columns : goal.mend_row-requires-clause-columns
mend_row-requires-clause-columns g c = HasColumnsOf-kept c.args.inst.now c.args.square.now c.loop-r.square c.loop-r.invariant.labels c.requires.columns

pub loop-r-preserved : goal.loop-r-preserved
loop-r-preserved g c =
    let m = g.K.Kind.monoid c.args.kind.now in
    let M = g.K.M.Ordered.monoid_of m in
    let X = c.args.inst.now in
    let l = c.loop-r in
    let start = l.auto.r in
    MendsCells-both M (g.K.M.DMonoid.difference m) (phases_along c.args.region.now c.args.trails.now) (square_cell X M.unit (g.K.Kind.entered c.args.kind.now))
    (λ s j. ((c.args.from ≤ s) × (s < l.r)) × (column_label X j ≡ Some c.args.q))
    (λ s j. (s ≡ l.r) × (column_label X j ≡ Some c.args.q))
    (λ s j. ((c.args.from ≤ s) × (s < l.r + 1)) × (column_label X j ≡ Some c.args.q))
    c.args.square.now l.square c.mend_row.new.square
    (λ s j seen. next_row c.args.from l.r s (column_label X j ≡ Some c.args.q) seen)
    (λ s j seen. let low = seen.0.1 in ((seen.0.0, omega (arith, low)), seen.1))
    (λ s j seen. let at = seen.0 in ((omega (arith, at, start), omega (arith, at)), seen.1))
    (λ s j one two. let low = one.0.1 in let at = two.0 in omega (arith, low, at))
    l.invariant c.mend_row.ensures

pub returns : goal.returns
returns g c =
    let m = g.K.Kind.monoid c.args.kind.now in
    let M = g.K.M.Ordered.monoid_of m in
    let X = c.args.inst.now in
    let l = c.loop-r in
    let end = l.auto.r-end c.requires.order in
    MendsCells-same M (g.K.M.DMonoid.difference m) (phases_along c.args.region.now c.args.trails.now) (square_cell X M.unit (g.K.Kind.entered c.args.kind.now))
    (λ s j. ((c.args.from ≤ s) × (s < l.r)) × (column_label X j ≡ Some c.args.q)) (λ s j. ((c.args.from ≤ s) × (s < c.args.to)) × (column_label X j ≡ Some c.args.q))
    c.args.square.now l.square
    (λ s j hs hj seen. let high = seen.0.1 in ((seen.0.0, omega (arith, high, c.loop-r-test.false)), seen.1))
    (λ s j seen. let high = seen.0.1 in ((seen.0.0, omega (arith, high, end)), seen.1))
    l.invariant
