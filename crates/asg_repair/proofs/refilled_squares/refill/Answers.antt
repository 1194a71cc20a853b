use Rattle.asg_repair.proofs.Common.{ℕ, [], sym, subst, IfSome_then, IsLed, live_at, IsValue, IsSquareOf}
use Rattle.asg_proof.specs.laws.LiveCosts.{costs_may_enter}
use Rattle.asg_repair.proofs.SessionLemmas.{IsLed-filled}
use Rattle.asg_repair.proofs.refilled_squares.refill.Goals as goal

pub fill-requires-clause-enters : goal.fill-requires-clause-enters
fill-requires-clause-enters g c r d =
    let kind = c.args.kind.now in
    costs_may_enter (g.K.Kind.objective kind) (g.K.Kind.reach kind) c.args.inst.now c.requires.reach c.rows-rows.ensures.instance c.requires.passes r d

pub returns : goal.returns
returns g c =
    let kind = c.args.kind.now in
    let X = c.args.inst.now in
    let m = c.monoid-m.result.now in
    let enter = g.K.Kind.entered kind in
    let live = λ (r d : ℕ).
    IfSome_then (live_at X r d) (costs_may_enter (g.K.Kind.objective kind) (g.K.Kind.reach kind) X c.requires.reach c.rows-rows.ensures.instance c.requires.passes r d)
    (λ cost may. subst (λ n. IsValue (g.K.M.Ordered.monoid_of n) (enter cost)) (sym c.monoid-m.ensures) (g.met.K.Kind.enters_value kind cost may)) in
    subst (λ n. IsLed (g.K.M.Ordered.monoid_of n) (g.K.M.DMonoid.difference n) enter X [] (record { now = c.fill.new.self; index = c.unit-reduced.result })) c.monoid-m.ensures
    (IsLed-filled (g.K.M.Ordered.monoid_of m) (g.met.K.M.Ordered.laws m) (g.K.M.DMonoid.difference m) enter X c.fill.new.self c.unit-reduced.result c.unit-reduced.ensures.unit
    (subst (λ u. IsSquareOf X u enter c.fill.new.self) c.unit.ensures.unit (c.fill.ensures.square enter (λ r d cost v at entered. entered.1)))
    live)
