use Rattle.asg_admit.proofs.Common.{length, slice_index, option_map, ap, ◌∙◌, arith, held_at, place_of, phase_of, not_both}
use Rattle.asg_admit.proofs.LeastLemmas.{same_leave}
use Rattle.asg_admit.proofs.BlockLemmas.{holds_merged, block_awaits, holds_lessened, lessened_values}
use Rattle.asg_admit.proofs.blocks.block_allows.Goals as goal

pub merge_entering-requires-clause-values : goal.merge_entering-requires-clause-values
merge_entering-requires-clause-values g c = c.requires.holds.values

pub least_staying-least-requires-clause-values : goal.least_staying-least-requires-clause-values
least_staying-least-requires-clause-values g c =
    let m = c.args.m.now in
    let M = g.M.Ordered.monoid_of m in
    let phase = phase_of c.args.steps.now c.args.enters.now c.args.leaves.now in
    let end = length c.args.steps.now in
    let now = c.merge_entering.new in
    let holds = holds_merged M (g.met.M.Ordered.laws m) (g.M.DMonoid.difference m) (g.met.M.DMonoid.difference_laws m) c.differences.ensures.twice phase c.requires.values c.args.square.now c.requires.cells (place_of end c.args.leaves.now)
    c.args.from (held_at M c.args.room.now c.args.held.now) (held_at M now.room now.held) (omega (arith, c.requires.order, c.requires.end)) (λ i k t. same_leave end c.args.leaves.now i k t) c.requires.holds c.merge_entering.ensures.merged in
    holds.values

pub run_allowed-requires-clause-cell : goal.run_allowed-requires-clause-cell
run_allowed-requires-clause-cell g c =
    let m = c.args.m.now in
    let M = g.M.Ordered.monoid_of m in
    let phase = phase_of c.args.steps.now c.args.enters.now c.args.leaves.now in
    let end = length c.args.steps.now in
    let now = c.merge_entering.new in
    let place = place_of end c.args.leaves.now in
    let held = held_at M now.room now.held in
    let holds = holds_merged M (g.met.M.Ordered.laws m) (g.M.DMonoid.difference m) (g.met.M.DMonoid.difference_laws m) c.differences.ensures.twice phase c.requires.values c.args.square.now c.requires.cells place
    c.args.from (held_at M c.args.room.now c.args.held.now) held (omega (arith, c.requires.order, c.requires.end)) (λ i k t. same_leave end c.args.leaves.now i k t) c.requires.holds c.merge_entering.ensures.merged in
    λ y e.
    let found = c.least_staying-least.ensures.reached y e in
    holds.values (place found.0) y found.3

pub returns-then-not-run_allowed-clause-refused : goal.returns-then-not-run_allowed-clause-refused
returns-then-not-run_allowed-clause-refused g c = λ _ all.
    let m = c.args.m.now in
    let M = g.M.Ordered.monoid_of m in
    let laws = g.met.M.Ordered.laws m in
    let d = g.M.DMonoid.difference m in
    let has = g.met.M.DMonoid.difference_laws m in
    let r = c.requires in
    let phase = phase_of c.args.steps.now c.args.enters.now c.args.leaves.now in
    let end = length c.args.steps.now in
    let now = c.merge_entering.new in
    let place = place_of end c.args.leaves.now in
    let held = held_at M now.room now.held in
    let holds = holds_merged M laws d has c.differences.ensures.twice phase r.values c.args.square.now r.cells place
    c.args.from (held_at M c.args.room.now c.args.held.now) held (omega (arith, r.order, r.end)) (λ i k t. same_leave end c.args.leaves.now i k t) r.holds c.merge_entering.ensures.merged in
    not_both c.run_allowed.result
    (c.run_allowed.ensures.1
    (block_awaits M laws d has c.differences.ensures.twice phase r.values c.args.square.now r.cells place c.args.from c.args.to r.order r.end r.enters r.leaves r.entering r.leaving held holds
    c.least_staying-least.result c.least_staying-least.ensures all))
    c.if-not-run_allowed.true

pub lessen-requires-clause-values : goal.lessen-requires-clause-values
lessen-requires-clause-values g c =
    let m = c.args.m.now in
    let M = g.M.Ordered.monoid_of m in
    let phase = phase_of c.args.steps.now c.args.enters.now c.args.leaves.now in
    let end = length c.args.steps.now in
    let now = c.merge_entering.new in
    let holds = holds_merged M (g.met.M.Ordered.laws m) (g.M.DMonoid.difference m) (g.met.M.DMonoid.difference_laws m) c.differences.ensures.twice phase c.requires.values c.args.square.now c.requires.cells (place_of end c.args.leaves.now)
    c.args.from (held_at M c.args.room.now c.args.held.now) (held_at M now.room now.held) (omega (arith, c.requires.order, c.requires.end)) (λ i k t. same_leave end c.args.leaves.now i k t) c.requires.holds c.merge_entering.ensures.merged in
    holds.values

pub returns-clause-allowed : goal.returns-clause-allowed
returns-clause-allowed g c = λ _.
    let m = c.args.m.now in
    let M = g.M.Ordered.monoid_of m in
    let laws = g.met.M.Ordered.laws m in
    let d = g.M.DMonoid.difference m in
    let has = g.met.M.DMonoid.difference_laws m in
    let r = c.requires in
    let phase = phase_of c.args.steps.now c.args.enters.now c.args.leaves.now in
    let leaves = c.args.leaves.now in
    let end = length c.args.steps.now in
    let now = c.merge_entering.new in
    let place = place_of end leaves in
    let held = held_at M now.room now.held in
    let after = held_at M c.lessen.new.room now.held in
    let product = c.product_of-product in
    let f = λ (y : g.row.M-Value.Denot). d y product.result in
    let holds = holds_merged M laws d has c.differences.ensures.twice phase r.values c.args.square.now r.cells place
    c.args.from (held_at M c.args.room.now c.args.held.now) held (omega (arith, r.order, r.end)) (λ i k t. same_leave end leaves i k t) r.holds c.merge_entering.ensures.merged in
    holds_lessened M laws d has c.differences.ensures.twice phase r.values c.args.square.now r.cells place c.args.from c.args.to r.order r.end r.enters r.leaves r.entering r.leaving held holds
    c.least_staying-least.result c.least_staying-least.ensures after
    (lessened_values M f c.count_places.result held after holds.values (λ y vy. has.difference_is_value y product.result vy product.ensures.is_value) c.lessen.ensures.lessened c.lessen.ensures.others)
    (λ k hk.
    c.lessen.ensures.lessened (place k) (c.count_places.ensures.all (slice_index leaves k) k (omega (arith, hk, r.leaves)))
    ∙ ap (λ p. option_map (λ y. d y p) (held (place k))) product.ensures.product)
    (c.run_allowed.ensures.0 c.if-not-run_allowed.false)
