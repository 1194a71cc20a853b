use Rattle.asg_replays.proofs.Common.{sym, subst, IsStart, live_values, IsSquareOf}
use Rattle.asg_proof.specs.PhaseProofs.{EntersValues}
use Rattle.asg_replays.specs.laws.Starts.{start_of}
use Rattle.asg_replays.proofs.starts.start.Goals as goal

pub returns : goal.returns
returns g c =
    let kind = c.args.kind.now in
    let X = c.args.inst.now in
    let m = c.monoid-m.result.now in
    let M = g.K.M.Ordered.monoid_of m in
    let enter = g.K.Kind.entered kind in
    let live = live_values (g.K.M.Ordered.monoid_of (g.K.Kind.monoid kind)) enter (g.K.Kind.objective kind) (g.K.Kind.reach kind) X (g.met.K.Kind.enters_value kind) c.requires.near c.requires.passes in
    let square : IsSquareOf X M.unit enter c.in_ok-now.now =
    subst (λ free. IsSquareOf X free enter c.in_ok-now.now) c.unit.ensures.unit (c.in_ok-now.ensures.square enter (λ r k cost v at entered. entered.1)) in
    subst (λ n. IsStart (g.K.M.Ordered.monoid_of n) enter X (record { now = c.in_ok-now.now; index = c.unit-index.result })) c.monoid-m.ensures
    (start_of M (g.met.K.M.Ordered.laws m) enter X (record { now = c.in_ok-now.now; index = c.unit-index.result })
    (subst (λ n. EntersValues (g.K.M.Ordered.monoid_of n) enter X) (sym c.monoid-m.ensures) live) square c.unit-index.ensures.unit)
