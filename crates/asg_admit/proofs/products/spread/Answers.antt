use Rattle.asg_admit.proofs.Common.{◌+◌, ◌-◌, sym, ◌∙◌, subst, arith, length-set, get_or-set_other, get_or_read, range_value, products_start, products_ahead, products_behind, IsValue}
use Rattle.asg_admit.proofs.products.spread.Goals as goal

pub loop-ahead-init : goal.loop-ahead-init
loop-ahead-init g c =
    let m = c.args.m.now in
    let room = c.args.room.now in
    let r = c.requires in
    record {
      room = length-set room c.args.from c.unit.result;
      ahead = products_start (g.M.Ordered.monoid_of m) (g.met.M.Ordered.laws m) (g.M.DMonoid.difference m) (g.met.M.DMonoid.difference_laws m) c.differences.ensures.twice
          c.args.steps.now r.values room c.args.from (omega (arith, r.from, r.room)) c.unit.result c.unit.ensures.unit;
    }

pub op-requires-clause-left : goal.op-requires-clause-left
op-requires-clause-left g c =
    let m = c.args.m.now in
    let M = g.M.Ordered.monoid_of m in
    let l = c.loop-ahead in
    let i = c.index-room-ahead in
    subst (IsValue M)
    (sym (get_or_read l.room l.ahead i.result (omega (arith, c.loop-ahead-test.true, c.requires.room, l.invariant.room)) i.is M.unit
    ∙ l.invariant.ahead l.ahead l.auto.ahead (omega arith)))
    (range_value M (g.met.M.Ordered.laws m) (g.M.DMonoid.difference m) (g.met.M.DMonoid.difference_laws m) c.differences.ensures.twice
    c.args.steps.now c.requires.values c.args.from l.ahead (omega (arith, c.loop-ahead-test.true)))

pub loop-ahead-preserved : goal.loop-ahead-preserved
loop-ahead-preserved g c =
    let m = c.args.m.now in
    let l = c.loop-ahead in
    let r = c.requires in
    record {
      room = length-set l.room (l.ahead + 1) c.op.result ∙ l.invariant.room;
      ahead = products_ahead (g.M.Ordered.monoid_of m) (g.met.M.Ordered.laws m) (g.M.DMonoid.difference m) (g.met.M.DMonoid.difference_laws m) c.differences.ensures.twice
          c.args.steps.now r.values l.room c.args.from l.ahead l.auto.ahead c.loop-ahead-test.true (omega (arith, c.loop-ahead-test.true, r.room, l.invariant.room))
          c.index-room-ahead.result c.index-steps-ahead.result c.op.result c.index-room-ahead.is c.index-steps-ahead.is c.op.ensures.product l.invariant.ahead;
    }

pub op-requires-in-loop-back-clause-right : goal.op-requires-in-loop-back-clause-right
op-requires-in-loop-back-clause-right g c =
    let m = c.args.m.now in
    let M = g.M.Ordered.monoid_of m in
    let l = c.loop-back in
    let i = c.index-room-place in
    let r = c.requires in
    let test = c.loop-back-test.true in
    let next = c.args.from - 1 - l.back + 1 in
    subst (IsValue M)
    (sym (get_or_read l.room next i.result (omega (arith, test, r.from, r.room, l.invariant.room)) i.is M.unit
    ∙ l.invariant.behind next (omega (arith, test)) (omega (arith, test))))
    (range_value M (g.met.M.Ordered.laws m) (g.M.DMonoid.difference m) (g.met.M.DMonoid.difference_laws m) c.differences.ensures.twice
    c.args.steps.now r.values next c.args.from r.from)

pub loop-back-preserved : goal.loop-back-preserved
loop-back-preserved g c =
    let m = c.args.m.now in
    let M = g.M.Ordered.monoid_of m in
    let l = c.loop-back in
    let r = c.requires in
    let test = c.loop-back-test.true in
    let place = c.args.from - 1 - l.back in
    let op = c.op-in-loop-back in
    record {
      room = length-set l.room place op.result ∙ l.invariant.room;
      ahead = λ j low high. get_or-set_other l.room place j op.result M.unit (λ e. omega (arith, e, low, test)) ∙ l.invariant.ahead j low high;
      behind = λ j low high.
          products_behind M (g.met.M.Ordered.laws m) (g.M.DMonoid.difference m) (g.met.M.DMonoid.difference_laws m) c.differences.ensures.twice
          c.args.steps.now r.values l.room c.args.from place (omega (arith, test)) r.from (omega (arith, r.room, l.invariant.room))
          c.index-room-place.result c.index-steps-place.result op.result c.index-steps-place.is c.index-room-place.is op.ensures.product
          (λ i near far. l.invariant.behind i (omega arith) far) j (omega arith) high;
    }

pub returns-clause-products : goal.returns-clause-products
returns-clause-products g c = λ j h. record {
  ahead = λ above. c.loop-back.invariant.ahead j above h;
  behind = λ below. c.loop-back.invariant.behind j (omega (arith, c.loop-back-test.false)) below;
}
