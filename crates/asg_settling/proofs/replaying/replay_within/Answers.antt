use Rattle.asg_settling.proofs.Common.{refl, ◌∙◌, true≢false, arith, false≢true, phase_of, same_labels, unchanged}
use Rattle.asg_admit.specs.laws.AdmissionLemmas.{not_both, never, over_from, over_admitted, allows_from}
use Rattle.asg_settling.proofs.replaying.replay_within.Goals as goal

pub returns-then-not-is_over-clause-admitted : goal.returns-then-not-is_over-clause-admitted
returns-then-not-is_over-clause-admitted g c =
    let m = c.args.m.now in
    never (λ one. not_both c.is_over.result
    (c.is_over.ensures.1 (over_from (g.M.Ordered.monoid_of m) (g.M.DMonoid.difference m) (phase_of c.args.steps.now c.args.enters.now c.args.leaves.now) c.args.reduced.now.now one))
    c.if-not-is_over.true)

pub returns-then-not-blocks_allow-clause-admitted : goal.returns-then-not-blocks_allow-clause-admitted
returns-then-not-blocks_allow-clause-admitted g c =
    let m = c.args.m.now in
    never (λ one. not_both c.blocks_allow.result
    (c.blocks_allow.ensures.allowed.1 (allows_from (g.M.Ordered.monoid_of m) (g.M.DMonoid.difference m) (phase_of c.args.steps.now c.args.enters.now c.args.leaves.now) c.args.reduced.now.now one))
    c.if-not-blocks_allow.true)

pub settle-requires-clause-admitted : goal.settle-requires-clause-admitted
settle-requires-clause-admitted g c =
    let m = c.args.m.now in
    over_admitted (g.M.Ordered.monoid_of m) (g.M.DMonoid.difference m) (phase_of c.args.steps.now c.args.enters.now c.args.leaves.now) c.args.reduced.now.now
    (c.is_over.ensures.0 c.if-not-is_over.false) (c.blocks_allow.ensures.allowed.0 c.if-not-blocks_allow.false)

pub returns-clause-admitted : goal.returns-clause-admitted
returns-clause-admitted g c =
    let m = c.args.m.now in (
      λ _. over_admitted (g.M.Ordered.monoid_of m) (g.M.DMonoid.difference m) (phase_of c.args.steps.now c.args.enters.now c.args.leaves.now) c.args.reduced.now.now
          (c.is_over.ensures.0 c.if-not-is_over.false) (c.blocks_allow.ensures.allowed.0 c.if-not-blocks_allow.false),
      λ _. refl,
    )

pub returns-then-not-is_over-clause-refused : goal.returns-then-not-is_over-clause-refused
returns-then-not-is_over-clause-refused g c = λ _.
    let m = c.args.m.now in
    let phase = phase_of c.args.steps.now c.args.enters.now c.args.leaves.now in
    unchanged (g.M.Ordered.monoid_of m) (g.M.DMonoid.difference m) phase c.args.reduced.now c.requires.reduced

pub returns-then-not-is_over-clause-labels : goal.returns-then-not-is_over-clause-labels
returns-then-not-is_over-clause-labels g c = same_labels c.args.reduced.now.now

pub returns-then-not-blocks_allow-clause-refused : goal.returns-then-not-blocks_allow-clause-refused
returns-then-not-blocks_allow-clause-refused g c = λ _.
    let m = c.args.m.now in
    let phase = phase_of c.args.steps.now c.args.enters.now c.args.leaves.now in
    unchanged (g.M.Ordered.monoid_of m) (g.M.DMonoid.difference m) phase c.args.reduced.now c.requires.reduced

pub returns-then-not-blocks_allow-clause-labels : goal.returns-then-not-blocks_allow-clause-labels
returns-then-not-blocks_allow-clause-labels g c = same_labels c.args.reduced.now.now

pub returns-clause-labels : goal.returns-clause-labels
returns-clause-labels g c = c.settle.ensures.phase.labels

pub returns-clause-reduced : goal.returns-clause-reduced
returns-clause-reduced g c = c.settle.ensures.phase.reduced

pub blocks_allow-requires-clause-room : goal.blocks_allow-requires-clause-room
blocks_allow-requires-clause-room g c = c.requires.room

pub blocks_allow-requires-clause-values : goal.blocks_allow-requires-clause-values
blocks_allow-requires-clause-values g c = let over = c.is_over.ensures.0 c.if-not-is_over.false in over.values

pub blocks_allow-requires-clause-enters : goal.blocks_allow-requires-clause-enters
blocks_allow-requires-clause-enters g c = let over = c.is_over.ensures.0 c.if-not-is_over.false in over.rows

pub blocks_allow-requires-clause-leaves : goal.blocks_allow-requires-clause-leaves
blocks_allow-requires-clause-leaves g c = let over = c.is_over.ensures.0 c.if-not-is_over.false in over.columns

pub blocks_allow-requires-clause-cells : goal.blocks_allow-requires-clause-cells
blocks_allow-requires-clause-cells g c = c.requires.reduced.cells

pub settle-requires-clause-reduced : goal.settle-requires-clause-reduced
settle-requires-clause-reduced g c = c.requires.reduced

pub settle-requires-clause-room : goal.settle-requires-clause-room
settle-requires-clause-room g c = omega (arith, c.requires.room, c.blocks_allow.ensures.room)

pub returns-then-not-is_over-clause-applied : goal.returns-then-not-is_over-clause-applied
returns-then-not-is_over-clause-applied g c = λ h. absurd (false≢true h)

pub returns-then-not-is_over-clause-reduced : goal.returns-then-not-is_over-clause-reduced
returns-then-not-is_over-clause-reduced g c = c.requires.reduced

pub returns-then-not-blocks_allow-clause-applied : goal.returns-then-not-blocks_allow-clause-applied
returns-then-not-blocks_allow-clause-applied g c = λ h. absurd (false≢true h)

pub returns-then-not-blocks_allow-clause-reduced : goal.returns-then-not-blocks_allow-clause-reduced
returns-then-not-blocks_allow-clause-reduced g c = c.requires.reduced

pub returns-clause-applied : goal.returns-clause-applied
returns-clause-applied g c = λ _. c.settle.ensures.phase

pub returns-clause-refused : goal.returns-clause-refused
returns-clause-refused g c = λ h. absurd (true≢false h)

pub returns-clause-room : goal.returns-clause-room
returns-clause-room g c = c.settle.ensures.room ∙ c.blocks_allow.ensures.room
