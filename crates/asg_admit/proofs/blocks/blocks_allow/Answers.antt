use Rattle.asg_admit.proofs.Common.{false, length, refl, ap, ◌∙◌, arith, length-replicate, held_at, place_of, phase_of, never}
use Rattle.asg_model.specs.Limits.{most_side}
use Rattle.asg_admit.proofs.BlockLemmas.{holds_none, holds_all}
use Rattle.asg_admit.proofs.LeastLemmas.{none_held}
use Rattle.asg_admit.proofs.blocks.blocks_allow.Goals as goal

pub runs-init : goal.runs-init
runs-init g c =
    let m = c.args.m.now in
    let M = g.M.Ordered.monoid_of m in
    let held = c.no_marks-held in
    let count = ap length held.ensures ∙ length-replicate most_side false in
    record {
      room = refl;
      held = omega (arith, count, c.side.ensures.grid.table.few, c.requires.leaves);
      holds = holds_none M (g.met.M.Ordered.laws m) (g.M.DMonoid.difference m) (g.met.M.DMonoid.difference_laws m) c.differences.ensures.twice (phase_of c.args.steps.now c.args.enters.now c.args.leaves.now) c.requires.values c.args.square.now c.requires.cells (place_of (length c.args.steps.now) c.args.leaves.now)
          (held_at M c.args.room.now held.result) (none_held M c.args.room.now held.result most_side held.ensures);
    }

pub returns-then-not-block_allows-clause-allowed : goal.returns-then-not-block_allows-clause-allowed
returns-then-not-block_allows-clause-allowed g c = never (c.block_allows.ensures.refused c.if-not-block_allows.true)

pub returns-clause-allowed : goal.returns-clause-allowed
returns-clause-allowed g c =
    let m = c.args.m.now in
    let M = g.M.Ordered.monoid_of m in
    let phase = phase_of c.args.steps.now c.args.enters.now c.args.leaves.now in
    let l = c.runs in (
      λ _. holds_all M (g.met.M.Ordered.laws m) (g.M.DMonoid.difference m) (g.met.M.DMonoid.difference_laws m) c.differences.ensures.twice phase c.requires.values c.args.square.now c.requires.cells (place_of (length c.args.steps.now) c.args.leaves.now)
          l.from l.from (held_at M l.room l.held) c.runs-test.false l.invariant.holds,
      λ _. refl,
    )
