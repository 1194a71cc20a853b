use Rattle.asg_kept_phases.proofs.Common.{◌≡◌, ℕ, ◌+◌, ◌<◌, ◌≤◌, ◌⊎◌, Some, inl, inr, ⊎_elim, arith, cases_lt, phases_along, HasColumnsOf-kept, square_cell, column_label}
use Rattle.asg_kept_phases.proofs.MendLemmas.{MendsCells-both, MendsCells-none, MendsCells-same}
use Rattle.asg_kept_phases.proofs.mended_cells.mend_row.Goals as goal

pub loop-k-init : goal.loop-k-init
loop-k-init g c =
    let m = g.K.Kind.monoid c.args.kind.now in
    let M = g.K.M.Ordered.monoid_of m in
    let X = c.args.inst.now in
    MendsCells-none M (g.K.M.DMonoid.difference m) (phases_along c.args.region.now c.args.trails.now) (square_cell X M.unit (g.K.Kind.entered c.args.kind.now))
    (λ s j. ((s ≡ c.args.r) × (j < 0)) × (column_label X j ≡ Some c.args.q)) c.args.square.now
    (λ s j hs hj seen. let none = seen.0.1 in omega (arith, none))

next_column : (r k s j : ℕ) (Labelled : Type 0) → ((s ≡ r) × (j < k + 1)) × Labelled → (((s ≡ r) × (j < k)) × Labelled) ⊎ (((s ≡ r) × (j ≡ k)) × Labelled)
next_column r k s j Labelled seen =
    ⊎_elim
    (λ (h : j < k). inl ((seen.0.0, h), seen.1))
    (λ (h : k ≤ j). let upto = seen.0.1 in inr ((seen.0.0, omega (arith, h, upto)), seen.1))
    (cases_lt j k)

pub mend_at-requires-clause-columns : goal.mend_at-requires-clause-columns
mend_at-requires-clause-columns g c = HasColumnsOf-kept c.args.inst.now c.args.square.now c.loop-k.square c.loop-k.invariant.labels c.requires.columns

pub loop-k-preserved : goal.loop-k-preserved
loop-k-preserved g c =
    let m = g.K.Kind.monoid c.args.kind.now in
    let M = g.K.M.Ordered.monoid_of m in
    let X = c.args.inst.now in
    let l = c.loop-k in
    MendsCells-both M (g.K.M.DMonoid.difference m) (phases_along c.args.region.now c.args.trails.now) (square_cell X M.unit (g.K.Kind.entered c.args.kind.now))
    (λ s j. ((s ≡ c.args.r) × (j < l.k)) × (column_label X j ≡ Some c.args.q))
    (λ s j. ((s ≡ c.args.r) × (j ≡ l.k)) × (column_label X j ≡ Some c.args.q))
    (λ s j. ((s ≡ c.args.r) × (j < l.k + 1)) × (column_label X j ≡ Some c.args.q))
    c.args.square.now l.square c.mend_at.new.square
    (λ s j seen. next_column c.args.r l.k s j (column_label X j ≡ Some c.args.q) seen)
    (λ s j seen. let low = seen.0.1 in ((seen.0.0, omega (arith, low)), seen.1))
    (λ s j seen. let at = seen.0.1 in ((seen.0.0, omega (arith, at)), seen.1))
    (λ s j one two. let low = one.0.1 in let at = two.0.1 in omega (arith, low, at))
    l.invariant c.mend_at.ensures

pub returns : goal.returns
returns g c =
    let m = g.K.Kind.monoid c.args.kind.now in
    let M = g.K.M.Ordered.monoid_of m in
    let X = c.args.inst.now in
    let l = c.loop-k in
    let end = c.loop-k-test.false in
    let side = c.side-k-end.ensures.side in
    MendsCells-same M (g.K.M.DMonoid.difference m) (phases_along c.args.region.now c.args.trails.now) (square_cell X M.unit (g.K.Kind.entered c.args.kind.now))
    (λ s j. ((s ≡ c.args.r) × (j < l.k)) × (column_label X j ≡ Some c.args.q))
    (λ s j. (s ≡ c.args.r) × (column_label X j ≡ Some c.args.q))
    c.args.square.now l.square
    (λ s j hs hj seen. ((seen.0, omega (arith, hj, end, side)), seen.1))
    (λ s j seen. (seen.0.0, seen.1))
    l.invariant
