use Rattle.asg_kept_cells.proofs.Common.{◌≡◌, ◌+◌, length, slice_index_or, sym, subst, arith, false≢true, get_or_read, AllowsColumns, entered_at, staying_at, masked_grid}
use Rattle.asg_proof.specs.Steps.{count_below}
use Rattle.asg_kept_cells.proofs.SingleSteps.{one_admitted, one_counted, one_allows}
use Rattle.asg_kept_cells.proofs.single_steps.admits_step.Goals as goal

pub returns-then-entered-staying : goal.returns-then-entered-staying
returns-then-entered-staying g c =
    let m = c.args.m.now in
    let Q = masked_grid c.args.square.now c.args.kept.now.words in (
      λ no. absurd (false≢true no),
      λ is.
          let count = one_counted (g.M.Ordered.monoid_of m) (g.M.DMonoid.difference m) c.args.steps.now c.args.enters.now c.args.leaves.now Q c.requires.one is in
          absurd (c.if-entered-staying.true (omega (arith, count, c.entered.ensures.count, c.staying.ensures.count, c.side-side.ensures.side))),
    )

pub returns : goal.returns
returns g c =
    let m = c.args.m.now in
    let M = g.M.Ordered.monoid_of m in
    let d = g.M.DMonoid.difference m in
    let steps = c.args.steps.now in
    let enters = c.args.enters.now in
    let leaves = c.args.leaves.now in
    let Q = masked_grid c.args.square.now c.args.kept.now.words in
    let rows : length enters ≡ Q.side = omega (arith, c.if-enters-side.false, c.side-side.ensures.side) in
    let columns : length leaves ≡ Q.side = omega (arith, c.if-leaves-side.false, c.side-side.ensures.side) in
    let count : count_below (entered_at enters 0) (length enters) + count_below (staying_at leaves 0) (length leaves) ≡ Q.side + 1 = omega (arith, c.if-entered-staying.false, c.entered.ensures.count, c.staying.ensures.count, c.side-side.ensures.side) in
    let first : slice_index_or steps 0 M.unit ≡ c.index-steps-0.result = sym (get_or_read steps 0 c.index-steps-0.result (omega (arith, c.requires.one)) c.index-steps-0.is M.unit) in (
      λ ok. one_admitted M d steps enters leaves Q c.requires.one rows columns c.requires.steps count
          (subst (λ s. AllowsColumns M s enters leaves Q) (sym first) (c.columns_allow.ensures.0 ok)),
      λ is. c.columns_allow.ensures.1 (subst (λ s. AllowsColumns M s enters leaves Q) first (one_allows M d steps enters leaves Q c.requires.one is)),
    )
