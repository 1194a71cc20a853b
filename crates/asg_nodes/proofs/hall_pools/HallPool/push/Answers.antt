use Rattle.asg_nodes.proofs.Common.{◌≡◌, ◌<◌, cond, [], ◌∷◌, ◌++◌, length, sym, ap, ◌∙◌, arith, length-map, HallSets, piece, pieces}
use Rattle.asg_nodes.proofs.PoolLemmas.{pieces_more, room_for, IsPool-more}
use Rattle.asg_nodes.proofs.hall_pools.HallPool.push.Goals as goal

pub invariant_of-self : goal.invariant_of-self
invariant_of-self c =
    let inside = c.self.inside in
    let pool = c.self.invariant in
    let new = c.args.ids.now in
    let v = sym c.self.view_is in
    let sets : length c.args.self.now.sets ≡ length inside.spans.items = ap (λ (h : HallSets). length h.sets) v ∙ length-map inside.spans.items (piece inside.ids.items) in
    let most : c.args.self.now.most ≡ inside.most = ap (λ (h : HallSets). h.most) v in
    let width : c.args.self.now.width ≡ inside.width = ap (λ (h : HallSets). h.width) v in
    let room = c.requires.room in
    let small = c.requires.width in
    let less : length inside.spans.items < inside.most = omega (arith, room, sets, most) in
    let fits = room_for inside.most inside.width (length inside.ids.items) (length inside.spans.items) less pool.used in
    let fit = pool.ids_fit in
    let is_ok = c.extend_from_slice.ensures.succeeds (omega (arith, fits, fit, small, width)) in
    let ids_are : c.extend_from_slice.new.self.items ≡ inside.ids.items ++ new = c.extend_from_slice.ensures.items ∙ ap (λ b. cond b (inside.ids.items ++ new) inside.ids.items) is_ok in
    IsPool-more inside.most inside.width inside.ids.items new c.extend_from_slice.new.self.items inside.spans.items c.push_reserved.new.self.items _ _ _ _ pool less (omega (arith, small, width)) ids_are (c.push_reserved.ensures.items ∙ ap (λ n. inside.spans.items ++ (n, length new) ∷ []) (c.len.ensures ∙ inside.ids.ok.0)) c.extend_from_slice.ensures.capacity (let e = c.push_reserved.ensures.capacity in omega (arith, e))

pub returns-clause-sets : goal.returns-clause-sets
returns-clause-sets c =
    let inside = c.self.inside in
    let pool = c.self.invariant in
    let new = c.args.ids.now in
    let v = sym c.self.view_is in
    let sets : length c.args.self.now.sets ≡ length inside.spans.items = ap (λ (h : HallSets). length h.sets) v ∙ length-map inside.spans.items (piece inside.ids.items) in
    let most : c.args.self.now.most ≡ inside.most = ap (λ (h : HallSets). h.most) v in
    let width : c.args.self.now.width ≡ inside.width = ap (λ (h : HallSets). h.width) v in
    let room = c.requires.room in
    let small = c.requires.width in
    let less : length inside.spans.items < inside.most = omega (arith, room, sets, most) in
    let fits = room_for inside.most inside.width (length inside.ids.items) (length inside.spans.items) less pool.used in
    let fit = pool.ids_fit in
    let is_ok = c.extend_from_slice.ensures.succeeds (omega (arith, fits, fit, small, width)) in
    let ids_are : c.extend_from_slice.new.self.items ≡ inside.ids.items ++ new = c.extend_from_slice.ensures.items ∙ ap (λ b. cond b (inside.ids.items ++ new) inside.ids.items) is_ok in
    let pieces_now : pieces c.extend_from_slice.new.self.items c.push_reserved.new.self.items ≡ pieces inside.ids.items inside.spans.items ++ new ∷ [] =
    (λ i. pieces (ids_are i) ((c.push_reserved.ensures.items ∙ ap (λ n. inside.spans.items ++ (n, length new) ∷ []) (c.len.ensures ∙ inside.ids.ok.0)) i)) ∙ pieces_more inside.ids.items new inside.spans.items pool.within in
    (λ i. record { most = sym most i; width = sym width i; sets = (pieces_now ∙ ap (λ (h : HallSets). h.sets ++ new ∷ []) (sym v)) i })
