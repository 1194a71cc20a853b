use Rattle.asg_kept_phases.proofs.Common.{◌≡◌, ◌<◌, Some, sym, refl, ◌∙◌, subst, AllowTrails, MendsCells, IsAtRow, phases_in, phases_along, HasColumnsOf-kept, square_side, square_cell, column_label}
use Rattle.asg_kept_phases.proofs.LedSquares.{AllowTrails-led, IsLed-mended}
use Rattle.asg_kept_phases.proofs.led_squares.mend_led.Goals as goal

pub mend_named-requires-clause-may : goal.mend_named-requires-clause-may
mend_named-requires-clause-may g c =
    let kind = c.args.kind.now in
    let m = g.K.Kind.monoid kind in
    let M = g.K.M.Ordered.monoid_of m in
    let d = g.K.M.DMonoid.difference m in
    let e = g.K.Kind.entered kind in
    let o = g.K.Kind.objective kind in
    let far = g.K.Kind.reach kind in
    let X = c.args.inst.now in
    let F = c.args.phases.now in
    subst (AllowTrails M d e o far X F.region) (sym c.deref.ensures.value)
    (AllowTrails-led M (g.met.K.M.Ordered.laws m) d e o far X F c.args.row c.args.q c.args.reduced.now c.requires.may_solve (c.requires.chain.told c.requires.told) c.requires.region_side c.requires.led)

pub mend_named-requires-clause-row : goal.mend_named-requires-clause-row
mend_named-requires-clause-row g c = c.requires.led.row_below

pub returns-clause-columns : goal.returns-clause-columns
returns-clause-columns g c = HasColumnsOf-kept c.args.inst.now c.args.reduced.now.now c.mend_named.new.square c.mend_named.ensures.labels c.requires.columns

pub returns-clause-led : goal.returns-clause-led
returns-clause-led g c =
    let kind = c.args.kind.now in
    let m = g.K.Kind.monoid kind in
    let M = g.K.M.Ordered.monoid_of m in
    let d = g.K.M.DMonoid.difference m in
    let e = g.K.Kind.entered kind in
    let X = c.args.inst.now in
    let F = c.args.phases.now in
    let old = c.args.reduced.now in
    let new = record old { now = c.mend_named.new.square } in
    let along : phases_along F.region c.deref.result.now ≡ phases_in F = (λ i. phases_along F.region (c.deref.ensures.value i)) ∙ (c.requires.chain.told c.requires.told).along in
    IsLed-mended M (g.met.K.M.Ordered.laws m) d (g.met.K.M.DMonoid.difference_laws m) e X c.requires.may_solve.live (phases_in F) c.args.row c.args.q old new c.requires.led
    (subst
    (λ list. MendsCells M d list (square_cell X M.unit e) (λ r k. (r < square_side X) × (IsAtRow c.args.row r × (column_label X k ≡ Some c.args.q))) old.now new.now)
    along c.mend_named.ensures)
    refl c.side-side.ensures.grid
