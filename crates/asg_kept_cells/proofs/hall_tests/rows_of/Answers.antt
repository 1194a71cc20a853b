use Rattle.asg_kept_cells.proofs.Common.{◌+◌, get_or, take, IsTrue, sym, ◌∙◌, subst, All-get_or, false≢true, AreRowsOf, is_counted_id, row_place_of}
use Rattle.asg_kept_cells.proofs.HallLemmas.{rows_more, uncounted_id}
use Rattle.asg_kept_cells.proofs.hall_tests.rows_of.Goals as goal

pub returns-in_default-clause-none : goal.returns-in_default-clause-none
returns-in_default-clause-none c = λ none pairs all.
    let X = c.args.inst.now in
    let ids = c.args.ids.now in
    let place = c.loop-place.place in
    let off = uncounted_id X (row_place_of X (get_or ids place 0)) (sym c.active_place.ensures.exact ∙ c.in_default.is) in
    false≢true (sym off ∙ All-get_or (λ id. IsTrue (is_counted_id X id)) ids place 0 c.loop-place-test.true all)

pub loop-place-preserved : goal.loop-place-preserved
loop-place-preserved c =
    let X = c.args.inst.now in
    let ids = c.args.ids.now in
    let place = c.loop-place.place in
    let there = rw c.in-Some.is at c.active_place.ensures.there in
    subst (AreRowsOf X (take (place + 1) ids)) (sym c.in_ok-push.ensures.items)
    (rows_more X ids place c.in-Some.row c.loop-place.rows.items c.loop-place-test.true c.loop-place.invariant (c.is_fresh.ensures.0 c.if-not-is_fresh.false)
    (sym c.active_place.ensures.exact ∙ c.in-Some.is) there)
