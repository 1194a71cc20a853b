use Rattle.asg_kept_phases.proofs.Common.{◌≡◌, ℕ, ◌+◌, ◌<◌, ◌≤◌, ◌⊎◌, length, inl, inr, ⊎_elim, arith, cases_lt, phases_along}
use Rattle.asg_kept_phases.proofs.LeftLemmas.{AreLeft-none, AreLeft-more}
use Rattle.asg_kept_phases.proofs.changed_cells.kept_count.Goals as goal

pub loop-r-init : goal.loop-r-init
loop-r-init g c =
    let m = c.args.m.now in
    AreLeft-none (g.M.Ordered.monoid_of m) (g.M.DMonoid.difference m) (phases_along c.args.region.now c.args.trails.now) (g.C.ChangedCells.before c.args.cells.now) (g.C.ChangedCells.after c.args.cells.now) c.args.side
    (λ s j. (c.args.from ≤ s) × (s < c.args.from)) (length c.args.trails.now) (λ s j seen. omega (arith, seen.0, seen.1))

next_row : (from r s : ℕ) → (from ≤ s) × (s < r + 1) → ((from ≤ s) × (s < r)) ⊎ (s ≡ r)
next_row from r s seen =
    ⊎_elim
    (λ (h : s < r). inl (seen.0, h))
    (λ h. inr (omega (arith, h, seen.1)))
    (cases_lt s r)

pub loop-r-preserved : goal.loop-r-preserved
loop-r-preserved g c =
    let m = c.args.m.now in
    let M = g.M.Ordered.monoid_of m in
    let d = g.M.DMonoid.difference m in
    let l = c.loop-r in
    AreLeft-more M d (phases_along c.args.region.now c.args.trails.now) (g.C.ChangedCells.before c.args.cells.now) (g.C.ChangedCells.after c.args.cells.now) c.args.side
    (λ s j. (c.args.from ≤ s) × (s < l.r)) (λ s j. s ≡ l.r) (λ s j. (c.args.from ≤ s) × (s < l.r + 1))
    (length c.args.trails.now) l.left c.kept_in_row-left.result
    (λ s j hs hj seen. next_row c.args.from l.r s seen)
    l.invariant c.kept_in_row-left.ensures
