use Rattle.asg_check.proofs.Common.{get_or, pos, sym, ◌∙◌, subst, arith, false≢true, get_or_default, slice_get-get_or, IsFirstOutside, Span}
use Rattle.asg_check.proofs.WindowGaps.{passed_more, gap_found, at_end}
use Rattle.asg_check.proofs.window_gaps.first_outside.Goals as goal

abbrev none : Span
none = record { lo = pos 0; last = pos 0 }

pub spans-preserved : goal.spans-preserved
spans-preserved c =
    let span : Span = get_or c.args.spans.now c.spans.span-index none in
    passed_more c.args.costs.now c.args.spans.now c.requires.costs c.requires.spans c.spans.place c.spans.span-index c.past-place.result span c.spans.invariant c.spans-test.true (get_or_default c.args.spans.now c.spans.span-index span none c.spans-test.true)
    (λ d there low. false≢true (sym c.if-is_below.false ∙ (c.is_below.ensures d).1 (there, low)))
    c.past-place.ensures.from c.past-place.ensures.within c.past-place.ensures.before c.past-place.ensures.there

pub returns-then-is_below : goal.returns-then-is_below
returns-then-is_below c =
    let costs = c.args.costs.now in
    let span : Span = get_or c.args.spans.now c.spans.span-index none in
    let both = (c.is_below.ensures (pos 0)).0 c.if-is_below.true in
    subst (IsFirstOutside costs c.args.spans.now) (sym (c.cost_at.ensures ∙ slice_get-get_or costs c.spans.place (pos 0) both.0))
    (gap_found costs c.args.spans.now c.requires.costs c.requires.spans c.spans.place c.spans.span-index (pos 0) span c.spans.invariant c.spans-test.true (get_or_default c.args.spans.now c.spans.span-index span none c.spans-test.true) both.0 both.1)

pub returns : goal.returns
returns c =
    subst (IsFirstOutside c.args.costs.now c.args.spans.now) (sym c.cost_at-2.ensures)
    (at_end c.args.costs.now c.args.spans.now c.requires.costs c.requires.spans c.spans.place c.spans.span-index c.spans.invariant (omega (arith, c.spans-test.false)))
