use Rattle.asg_check.proofs.Common.{◌≡◌, [], ◌∷◌, ◌++◌, map, ap, ◌∙◌, subst, take_all, to_z-of_z, w128, span_of}
use Rattle.asg_check.proofs.WindowGaps.{spans_more}
use Rattle.asg_check.proofs.window_gaps.spans_of.Goals as goal

pub windows-preserved : goal.windows-preserved
windows-preserved c =
    let spans = c.windows.spans.items in
    spans_more _ c.args.windows.now spans c.push.new.self.items c.windows.window-index c.window-item.result c.windows-test.true c.windows.invariant
    (c.in_ok-push.ensures.items ∙ ap (λ span. spans ++ span ∷ []) (c.span_of.ensures ∙ ap (span_of _) c.window-item.is))

pub returns : goal.returns
returns c =
    let windows = c.args.windows.now in
    subst (λ d. c.windows.spans.items ≡ map (span_of d) windows) (to_z-of_z w128 c.args.spread c.ranges.spread)
    (c.windows.invariant ∙ ap (map (span_of _)) (take_all c.windows.window-index windows c.windows-test.false))
