use Rattle.asg_nodes.proofs.Common.{◌≡◌, ◌-◌, [], length, sym, refl, ap, ◌∙◌, subst, inl, inr, arith, SlotList, slot_of, slot_at, Ascends, IsValue, IsLe, IsLess}
use Rattle.asg_nodes.proofs.OfferLemmas.{ascends_before_last, replaced, refused}
use Rattle.asg_nodes.proofs.slots.offer.Goals as goal

pub is_above-requires-clause-left : goal.is_above-requires-clause-left
is_above-requires-clause-left g c =
    let M = g.M.Ordered.monoid_of c.args.m.now in
    let count = c.len-count.ensures.count in
    let room = c.room.ensures.room in
    let full = c.if-count-room.false in
    let some = c.requires.room in
    subst (IsValue M) (sym (c.index.ensures M.unit)) (c.requires.values (c.len-count.result - 1) (slot_of 0 M.unit []) (omega (arith, count, room, full, some)))

pub enter-requires-then-is_above-clause-ascends : goal.enter-requires-then-is_above-clause-ascends
enter-requires-then-is_above-clause-ascends g c =
    let M = g.M.Ordered.monoid_of c.args.m.now in
    let count = c.len-count.ensures.count in
    let room = c.room.ensures.room in
    let full = c.if-count-room.false in
    let some = c.requires.room in
    subst (Ascends M) (sym (ap (λ (s : SlotList _). s.used) c.free_last.ensures)) (ascends_before_last M c.args.slots.now.used (omega (arith, count, room, full, some)) c.requires.ascends)

pub returns-then-is_above-clause-offers : goal.returns-then-is_above-clause-offers
returns-then-is_above-clause-offers g c =
    let M = g.M.Ordered.monoid_of c.args.m.now in
    let used = c.args.slots.now.used in
    let count = c.len-count.ensures.count in
    let most = c.len-count.ensures.most in
    let room = c.room.ensures.room in
    let full = c.if-count-room.false in
    let some = c.requires.room in
    let above = c.if-is_above.ensures.above refl in
    let here : c.index.result ≡ (slot_at M.unit used (length used - 1)).index = c.index.ensures M.unit ∙ ap (λ n. (slot_at M.unit used (n - 1)).index) count in
    inr (
      omega (arith, count, most, room, full),
      inl (replaced M used (omega (arith, count, room, full, some)) (slot_of c.args.node c.args.index c.args.matching.now) c.free_last.new.self.used c.enter-then-is_above.new.slots.used (ap (λ (s : SlotList _). s.used) c.free_last.ensures) (subst (λ z. IsLess M c.args.index z) here above) c.enter-then-is_above.ensures.inserts),
    )

pub returns-else-is_above-clause-offers : goal.returns-else-is_above-clause-offers
returns-else-is_above-clause-offers g c =
    let M = g.M.Ordered.monoid_of c.args.m.now in
    let used = c.args.slots.now.used in
    let count = c.len-count.ensures.count in
    let most = c.len-count.ensures.most in
    let room = c.room.ensures.room in
    let full = c.if-count-room.false in
    let some = c.requires.room in
    let upto = c.if-is_above.ensures.upto refl in
    let here : c.index.result ≡ (slot_at M.unit used (length used - 1)).index = c.index.ensures M.unit ∙ ap (λ n. (slot_at M.unit used (n - 1)).index) count in
    inr (
      omega (arith, count, most, room, full),
      inr (refused M used (omega (arith, count, room, full, some)) (slot_of c.args.node c.args.index c.args.matching.now) (g.met.M.Ordered.laws c.args.m.now) c.requires.values c.requires.ascends c.requires.index (subst (λ z. IsLe M z c.args.index) here upto)),
    )
