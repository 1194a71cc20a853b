use Rattle.asg_square.proofs.Common.{[], ◌∷◌, ◌++◌, map, sym, ap, ◌∙◌, arith, map-range_with_len_more, range_with_len, own_copy}
use Rattle.asg_square.proofs.assignments.own_copies.Goals as goal

pub loop-r-preserved : goal.loop-r-preserved
loop-r-preserved c =
    let f = own_copy c.args.inst.now c.args.choice.now in
    c.in_ok-push.ensures.items
    ∙ ap (λ xs. xs ++ c.own_copy.result ∷ []) c.loop-r.invariant
    ∙ ap (λ x. map f (range_with_len 0 c.loop-r.r) ++ x ∷ []) c.own_copy.ensures
    ∙ sym (map-range_with_len_more f 0 c.loop-r.r c.loop-r.r (omega arith))
