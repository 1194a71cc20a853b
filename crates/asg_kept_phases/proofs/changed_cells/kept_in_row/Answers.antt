use Rattle.asg_kept_phases.proofs.Common.{◌≡◌, ℕ, ◌+◌, ◌<◌, ◌⊎◌, inl, inr, ⊎_elim, arith, cases_lt, phases_along}
use Rattle.asg_kept_phases.proofs.LeftLemmas.{AreLeft-none, AreLeft-one, AreLeft-more}
use Rattle.asg_kept_phases.proofs.changed_cells.kept_in_row.Goals as goal

pub loop-k-init : goal.loop-k-init
loop-k-init g c =
    let m = c.args.m.now in
    AreLeft-none (g.M.Ordered.monoid_of m) (g.M.DMonoid.difference m) (phases_along c.args.region.now c.args.trails.now) (g.C.ChangedCells.before c.args.cells.now) (g.C.ChangedCells.after c.args.cells.now) c.args.side
    (λ s j. (s ≡ c.args.r) × (j < 0)) c.args.count (λ s j seen. omega (arith, seen.1))

next_column : (r k s j : ℕ) → (s ≡ r) × (j < k + 1) → ((s ≡ r) × (j < k)) ⊎ ((s ≡ r) × (j ≡ k))
next_column r k s j seen =
    ⊎_elim
    (λ (h : j < k). inl (seen.0, h))
    (λ h. inr (seen.0, omega (arith, h, seen.1)))
    (cases_lt j k)

pub loop-k-preserved : goal.loop-k-preserved
loop-k-preserved g c =
    let m = c.args.m.now in
    let M = g.M.Ordered.monoid_of m in
    let d = g.M.DMonoid.difference m in
    let phases = phases_along c.args.region.now c.args.trails.now in
    let before = g.C.ChangedCells.before c.args.cells.now in
    let after = g.C.ChangedCells.after c.args.cells.now in
    let l = c.loop-k in
    AreLeft-more M d phases before after c.args.side
    (λ s j. (s ≡ c.args.r) × (j < l.k)) (λ s j. (s ≡ c.args.r) × (j ≡ l.k)) (λ s j. (s ≡ c.args.r) × (j < l.k + 1))
    c.args.count l.left c.kept_at-left.result
    (λ s j hs hj seen. next_column c.args.r l.k s j seen)
    l.invariant
    (AreLeft-one M d phases before after c.args.side c.args.r l.k l.left c.kept_at-left.result (omega (arith, c.requires.row, c.requires.side)) c.loop-k-test.true c.kept_at-left.ensures)

pub returns : goal.returns
returns g c =
    let l = c.loop-k in
    record {
      fewer = l.invariant.fewer;
      allows = λ s j hs hj seen. l.invariant.allows s j hs hj (seen, omega (arith, hj, c.loop-k-test.false));
      no_more = l.invariant.no_more;
    }
