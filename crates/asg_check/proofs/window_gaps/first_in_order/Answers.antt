use Rattle.asg_check.proofs.Common.{map, pos, sym, ap, ◌∙◌, subst, to_z-of_z, false≢true, slice_get-get_or, w128, IsFirstOutside, span_of}
use Rattle.asg_check.proofs.WindowGaps.{at_end, gap_found, passed_more}
use Rattle.asg_check.proofs.WindowOrder.{span_at, span_within, spans_past, spans_up_of_windows}
use Rattle.asg_check.proofs.window_gaps.first_in_order.Goals as goal

pub windows-preserved : goal.windows-preserved
windows-preserved c =
    let windows = c.args.windows.now in
    let k = c.windows.window-index in
    let span = c.span_of-span.result in
    passed_more c.args.costs.now _ c.requires.costs (spans_up_of_windows _ windows c.requires.windows) c.windows.place k c.past-place.result span c.windows.invariant
    (span_within _ windows k c.windows-test.true)
    (span_at _ windows k c.window-item.result span c.windows-test.true ∙ sym (c.span_of-span.ensures ∙ ap (span_of _) c.window-item.is))
    (λ d there low. false≢true (sym c.if-is_below.false ∙ (c.is_below.ensures d).1 (there, low)))
    c.past-place.ensures.from c.past-place.ensures.within c.past-place.ensures.before c.past-place.ensures.there

pub returns-then-is_below : goal.returns-then-is_below
returns-then-is_below c =
    let costs = c.args.costs.now in
    let windows = c.args.windows.now in
    let k = c.windows.window-index in
    let span = c.span_of-span.result in
    let both = (c.is_below.ensures (pos 0)).0 c.if-is_below.true in
    subst (λ d. IsFirstOutside costs (map (span_of d) windows) c.cost_at.result) (to_z-of_z w128 c.args.spread c.ranges.spread)
    (subst (IsFirstOutside costs _) (sym (c.cost_at.ensures ∙ slice_get-get_or costs c.windows.place (pos 0) both.0))
    (gap_found costs _ c.requires.costs (spans_up_of_windows _ windows c.requires.windows) c.windows.place k (pos 0) span c.windows.invariant
    (span_within _ windows k c.windows-test.true)
    (span_at _ windows k c.window-item.result span c.windows-test.true ∙ sym (c.span_of-span.ensures ∙ ap (span_of _) c.window-item.is))
    both.0 both.1))

pub returns : goal.returns
returns c =
    let costs = c.args.costs.now in
    let windows = c.args.windows.now in
    subst (λ d. IsFirstOutside costs (map (span_of d) windows) c.cost_at-2.result) (to_z-of_z w128 c.args.spread c.ranges.spread)
    (subst (IsFirstOutside costs _) (sym c.cost_at-2.ensures)
    (at_end costs _ c.requires.costs (spans_up_of_windows _ windows c.requires.windows) c.windows.place c.windows.window-index c.windows.invariant
    (spans_past _ windows c.windows.window-index c.windows-test.false)))
