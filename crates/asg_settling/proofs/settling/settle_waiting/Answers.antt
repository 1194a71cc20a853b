use Rattle.asg_settling.proofs.Common.{◌≡◌, ℕ, ◌<◌, ◌≤◌, length, slice_index, option_map, sym, ap, ◌∙◌, subst, arith, below_more, KeepsLabels, phase_of, settled, settled_at, chained_labels, late_marks, Grid, cell_at}
use Rattle.asg_settling.proofs.settling.settle_waiting.Goals as goal
use Rattle.asg_settling.proofs.settling.settle_waiting.Goals.{then-enters-row, else-enters-row}

pub loop-row-preserved : goal.loop-row-preserved
loop-row-preserved g c =
    let m = c.args.m.now in
    let M = g.M.Ordered.monoid_of m in
    let d = g.M.DMonoid.difference m in
    let steps = c.args.steps.now in
    let enters = c.args.enters.now in
    let leaves = c.args.leaves.now in
    let phase = phase_of steps enters leaves in
    let old = c.args.square.now in
    let l = c.loop-row in
    let inv = l.invariant in
    let now = c.if-enters-row.square in
    let Done = λ (r : ℕ). ((k : ℕ) → k < old.side → length steps ≤ slice_index enters r → cell_at now r k ≡ settled_at M d phase (cell_at old) r k) in
    elim c.if-enters-row.branch [
      | then-enters-row w ↦
          let e = w.settle_waiting_row.ensures in
          let same = λ (r k : ℕ). ap (λ (A : Grid g.row.M-Value.Denot). cell_at A r k) w.square-is in
          let done = below_more Done _
          (λ r h k hk late. same r k ∙ e.others r k (λ i. omega (arith, i, h)) ∙ inv.done r k h hk late)
          (λ k hk late.
          same l.row k
          ∙ e.cells k (subst (λ n. k < n) (sym inv.labels.side) hk)
          ∙ late_marks M (g.met.M.Ordered.laws m) d (g.met.M.DMonoid.difference_laws m) c.differences.ensures.twice steps c.requires.values
          (slice_index enters l.row) (slice_index leaves k) late (cell_at l.square l.row k)
          ∙ ap (option_map (settled M d steps (slice_index enters l.row) (slice_index leaves k))) (inv.rest l.row k (omega arith))) in
          record {
            labels = subst (KeepsLabels old) (sym w.square-is) (chained_labels old l.square w.settle_waiting_row.new.square inv.labels e.labels);
            done = λ r k h hk late. done r h k hk late;
            entered = λ r k h. same r k ∙ e.others r k (λ (i : r ≡ l.row). let at : slice_index enters l.row < length steps = subst (λ j. slice_index enters j < length steps) i h in omega (arith, at, w.if-enters-row.true)) ∙ inv.entered r k h;
            rest = λ r k h. same r k ∙ e.others r k (λ i. omega (arith, i, h)) ∙ inv.rest r k (omega (arith, h));
          }
      | else-enters-row w ↦
          let same = λ (r k : ℕ). ap (λ (A : Grid g.row.M-Value.Denot). cell_at A r k) w.square-is in
          let done = below_more Done _
          (λ r h k hk late. same r k ∙ inv.done r k h hk late)
          (λ k hk late. absurd (omega (arith, late, w.if-enters-row.false))) in
          record {
            labels = subst (KeepsLabels old) (sym w.square-is) inv.labels;
            done = λ r k h hk late. done r h k hk late;
            entered = λ r k h. same r k ∙ inv.entered r k h;
            rest = λ r k h. same r k ∙ inv.rest r k (omega (arith, h));
          }
    ]
