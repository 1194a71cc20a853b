use Rattle.asg_repair.proofs.Common.{enters_values}
use Rattle.asg_repair.proofs.OpenedSessions.{IsSession-opened}
use Rattle.asg_repair.proofs.sessions.Session.open.Goals as goal

pub invariant_of-result : goal.invariant_of-result
invariant_of-result g c =
    let kind = c.args.kind in
    let m = g.K.Kind.monoid kind in
    let M = g.K.M.Ordered.monoid_of m in
    let enter = g.K.Kind.entered kind in
    let X = c.args.inst in
    IsSession-opened M (g.K.M.DMonoid.difference m) enter (g.K.Kind.objective kind) (g.K.Kind.reach kind) X c.in_ok-opened.opened c.in_ok-room.room
    (record {
      instance = c.rows-rows.ensures.instance;
      small = c.requires.side;
      passes = c.requires.passes;
      far = c.requires.reach;
      live = enters_values M enter (g.K.Kind.objective kind) (g.K.Kind.reach kind) X c.requires.reach c.rows-rows.ensures.instance c.requires.passes (g.met.K.Kind.enters_value kind);
    })
    c.in_ok-opened.ensures c.in_ok-room.ensures.room c.in_ok-room.ensures.given

pub returns-clause-admitted : goal.returns-clause-admitted
returns-clause-admitted g c = c.in_ok-opened.ensures.led.admitted
