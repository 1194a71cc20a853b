use Rattle.asg_nodes.proofs.Common.{◌≡◌, ◌-◌, ◌≤◌, [], length, sym, ap, ◌∙◌, subst, arith, slot_of, slot_at, AreUpTo, last_greatest, IsValue}
use Rattle.asg_nodes.proofs.slots.limit.Goals as goal

pub returns : goal.returns
returns g c =
    let m = c.args.m.now in
    let M = g.M.Ordered.monoid_of m in
    let used = c.args.slots.now.used in
    let count = c.len-count.ensures.count in
    let most = c.len-count.ensures.most in
    let room = c.room.ensures.room in
    let full = c.if-count-room.false in
    let some = c.if-count-eq0.false in
    let d = slot_of 0 M.unit [] in
    let here : c.index.result ≡ (slot_at M.unit used (length used - 1)).index = c.index.ensures M.unit ∙ ap (λ n. (slot_at M.unit used (n - 1)).index) count in
    let positive : 1 ≤ length used = omega (arith, count, some) in (
      omega (arith, count, most, room, full),
      subst (λ z. AreUpTo M z used) (sym here) (last_greatest M (g.met.M.Ordered.laws m) used positive c.requires.values c.requires.ascends),
      subst (IsValue M) (sym here) (c.requires.values (length used - 1) d (omega (arith, positive))),
    )
