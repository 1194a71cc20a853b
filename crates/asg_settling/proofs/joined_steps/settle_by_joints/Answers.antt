use Rattle.asg_settling.proofs.Common.{◌≡◌, ℕ, ◌<◌, get_or, ap, ◌∙◌, get_or-take, step_of}
use Rattle.asg_settling.proofs.JoinedLemmas.{joints_are_values, joined_phase}
use Rattle.asg_settling.proofs.joined_steps.settle_by_joints.Goals as goal

pub settle_rows-requires-2-clause-values : goal.settle_rows-requires-2-clause-values
settle_rows-requires-2-clause-values g c =
    let m = c.args.m.now in
    let M = g.M.Ordered.monoid_of m in
    let now = c.join_steps-count.new in
    let count = c.join_steps-count.result in
    let joints = c.split_at_mut-joints.result.0.now in
    let same : (i : ℕ) → i < count → step_of M joints i ≡ get_or now.room i M.unit =
    λ i h. ap (λ xs. get_or xs i M.unit) c.split_at_mut-joints.ensures.front ∙ get_or-take count now.room i M.unit h in
    joints_are_values M (g.met.M.Ordered.laws m) (g.M.DMonoid.difference m) (g.met.M.DMonoid.difference_laws m) c.differences.ensures.twice
    c.args.steps.now c.requires.values c.args.enters.now c.args.leaves.now now.room count now.rows now.columns c.join_steps-count.ensures.joined joints c.split_at_mut-joints.ensures.front_len same

pub returns-clause-settled : goal.returns-clause-settled
returns-clause-settled g c =
    let m = c.args.m.now in
    let M = g.M.Ordered.monoid_of m in
    let now = c.join_steps-count.new in
    let count = c.join_steps-count.result in
    let joints = c.split_at_mut-joints.result.0.now in
    let same : (i : ℕ) → i < count → step_of M joints i ≡ get_or now.room i M.unit =
    λ i h. ap (λ xs. get_or xs i M.unit) c.split_at_mut-joints.ensures.front ∙ get_or-take count now.room i M.unit h in
    joined_phase M (g.met.M.Ordered.laws m) (g.M.DMonoid.difference m) (g.met.M.DMonoid.difference_laws m) c.differences.ensures.twice
    c.args.steps.now c.requires.values c.args.enters.now c.args.leaves.now now.room count now.rows now.columns c.join_steps-count.ensures.joined joints c.split_at_mut-joints.ensures.front_len same
    c.args.square.now c.settle_rows-2.new.square c.requires.enters c.requires.leaves c.requires.cells c.settle_rows-2.ensures.settled
