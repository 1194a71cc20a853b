use Rattle.asg_nodes.proofs.Common.{◌+◌, ◌-◌, ◌/◌, ◌<◌, [], length, sym, refl, subst, arith, slot_of, IsValue, IsLe, IsLess}
use Rattle.asg_nodes.proofs.PlaceLemmas.{upto_slot, above_slot}
use Rattle.asg_nodes.proofs.slots.place_for.Goals as goal

pub is_above-requires-clause-left : goal.is_above-requires-clause-left
is_above-requires-clause-left g c =
    let M = g.M.Ordered.monoid_of c.args.m.now in
    let i = c.places.invariant in
    let within = i.within in
    let test = c.places-test.true in
    subst (IsValue M) (sym (c.index.ensures M.unit)) (c.requires.values (c.places.low + (c.places.high - c.places.low) / 2) (slot_of 0 M.unit []) (omega (arith, within, test)))

pub places-preserved-then-is_above : goal.places-preserved-then-is_above
places-preserved-then-is_above g c =
    let M = g.M.Ordered.monoid_of c.args.m.now in
    let used = c.args.slots.now.used in
    let i = c.places.invariant in
    let within = i.within in
    let test = c.places-test.true in
    let middle = c.places.low + (c.places.high - c.places.low) / 2 in
    let inside : middle < length used = omega (arith, within, test) in
    record {
      order = omega (arith, test);
      within = omega (arith, inside);
      upto = i.upto;
      above = above_slot M (g.met.M.Ordered.laws c.args.m.now) used c.requires.values c.requires.ascends c.args.index c.requires.index middle inside (subst (λ z. IsLess M c.args.index z) (c.index.ensures M.unit) (c.if-is_above.ensures.above refl));
    }

pub places-preserved : goal.places-preserved
places-preserved g c =
    let M = g.M.Ordered.monoid_of c.args.m.now in
    let used = c.args.slots.now.used in
    let i = c.places.invariant in
    let within = i.within in
    let test = c.places-test.true in
    let middle = c.places.low + (c.places.high - c.places.low) / 2 in
    let inside : middle < length used = omega (arith, within, test) in
    record {
      order = omega (arith, test);
      within = within;
      upto = upto_slot M (g.met.M.Ordered.laws c.args.m.now) used c.requires.values c.requires.ascends c.args.index c.requires.index middle inside (subst (λ z. IsLe M z c.args.index) (c.index.ensures M.unit) (c.if-is_above.ensures.upto refl));
      above = i.above;
    }
