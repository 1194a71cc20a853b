use Rattle.asg_admit.proofs.Common.{◌≡◌, ℕ, ◌<◌, ◌≤◌, length, slice_index, Some, sym, ap, ◌∙◌, subst, ⊎_elim, arith, cases_lt, IsLeastStaying, held_at, lesser_of, place_of}
use Rattle.asg_admit.proofs.LeastLemmas.{place_few, staying_none, staying_value, staying_more, staying_skip}
use Rattle.asg_admit.proofs.blocks.least_staying.Goals as goal

pub loop-column-init : goal.loop-column-init
loop-column-init g c =
    let m = c.args.m.now in
    let M = g.M.Ordered.monoid_of m in
    let place = place_of c.args.end c.args.leaves.now in
    staying_none M (g.met.M.Ordered.laws m) (λ (k : ℕ). held_at M c.args.room.now c.args.held.now (place k)) c.args.leaves.now c.args.from (λ k y e. c.requires.values (place k) y e)

pub held_value-requires-clause-room : goal.held_value-requires-clause-room
held_value-requires-clause-room g c =
    let l = c.loop-column in
    let few = place_few (length c.args.leaves.now) c.args.end (slice_index c.args.leaves.now l.column) l.column c.loop-column-test.true in
    omega (arith, few.1, c.column_place-place.ensures, c.requires.room)

pub held_value-requires-clause-held : goal.held_value-requires-clause-held
held_value-requires-clause-held g c =
    let l = c.loop-column in
    let few = place_few (length c.args.leaves.now) c.args.end (slice_index c.args.leaves.now l.column) l.column c.loop-column-test.true in
    omega (arith, few.0, c.column_place-place.ensures, c.requires.held)

pub lesser_staying-least-requires-clause-one : goal.lesser_staying-least-requires-clause-one
lesser_staying-least-requires-clause-one g c =
    let m = c.args.m.now in
    let M = g.M.Ordered.monoid_of m in
    let place = place_of c.args.end c.args.leaves.now in
    let l = c.loop-column in
    staying_value M (g.met.M.Ordered.laws m) (λ (k : ℕ). held_at M c.args.room.now c.args.held.now (place k)) c.args.leaves.now c.args.from (λ k y e. c.requires.values (place k) y e)
    l.column l.least l.invariant

pub lesser_staying-least-requires-clause-other : goal.lesser_staying-least-requires-clause-other
lesser_staying-least-requires-clause-other g c = λ x e.
    c.requires.values c.column_place-place.result x (sym c.held_value.ensures ∙ e)

pub loop-column-preserved : goal.loop-column-preserved
loop-column-preserved g c =
    let m = c.args.m.now in
    let M = g.M.Ordered.monoid_of m in
    let leaves = c.args.leaves.now in
    let place = place_of c.args.end leaves in
    let l = c.loop-column in
    let next = c.lesser_staying-least in
    let cells = λ (k : ℕ). held_at M c.args.room.now c.args.held.now (place k) in
    let laws = g.met.M.Ordered.laws m in
    let values = λ (k : ℕ) (y : g.row.M-Value.Denot) (e : cells k ≡ Some y). c.requires.values (place k) y e in
    let cell : c.held_value.result ≡ cells l.column = c.held_value.ensures ∙ ap (held_at M c.args.room.now c.args.held.now) c.column_place-place.ensures in
    ⊎_elim
    (λ (stays : c.args.from < slice_index leaves l.column).
    staying_more M laws cells leaves c.args.from values l.column l.least l.invariant next.result stays (next.ensures.stays stays ∙ ap (lesser_of M l.least) cell))
    (λ (left : slice_index leaves l.column ≤ c.args.from).
    staying_skip M laws cells leaves c.args.from values l.column l.least l.invariant next.result left (next.ensures.leaves left))
    (cases_lt c.args.from (slice_index leaves l.column))

pub returns : goal.returns
returns g c =
    let M = g.M.Ordered.monoid_of c.args.m.now in
    let leaves = c.args.leaves.now in
    let l = c.loop-column in
    let all : l.column ≡ length leaves = omega (arith, c.loop-column-test.false, l.auto.column-end) in
    subst (λ n. IsLeastStaying M (λ (k : ℕ). held_at M c.args.room.now c.args.held.now (place_of c.args.end leaves k)) leaves c.args.from n l.least) all l.invariant
