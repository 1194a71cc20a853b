use Rattle.asg_dual_bounds.proofs.Common.{◌≡◌, ◌+◌, [], slice_index, sym, refl, ◌∙◌, subst, arith, length-set, get_or-set_other, IsColumnGapIn, IsGapIn, duals_of}
use Rattle.asg_dual_bounds.proofs.GapLemmas.{gap_in, gaps_more, open_more, open_once, wider}
use Rattle.asg_dual_bounds.proofs.gaps.later_gaps.Goals as goal

pub rows-init : goal.rows-init
rows-init c = record {
  room = c.bar_all.ensures.count ∙ c.clip.ensures.count ∙ c.requires.room;
  below = λ j h. c.bar_all.ensures.below j (c.clip.ensures.low j (omega (arith, h, c.requires.rises))).1;
  unbarred = λ j h. open_once c.args.answer.now (c.args.row + 1) c.args.duals.rises.now c.clip.new.low c.bar_all.new.low c.clip.ensures.low c.bar_all.ensures.bars j (omega (arith, h, c.requires.rises));
  count = refl;
  before = λ j h. refl;
  later = λ j h. refl;
  gaps = λ j h k. absurd (omega (arith, h, k));
}

pub gap_at-requires-clause-below : goal.gap_at-requires-clause-below
gap_at-requires-clause-below c = λ j h. c.bar.ensures.below j (c.rows.invariant.below j h)

pub gap_at-requires-clause-few : goal.gap_at-requires-clause-few
gap_at-requires-clause-few c =
    let same = c.rows.invariant.later c.rows.k (omega arith) in
    let few = (c.requires.gaps c.rows.k (omega (arith, c.rows-test.true, c.rows-k-end.ensures.rows)) (omega (arith, c.rows.auto.k))).0 in
    omega (arith, same, few)

pub rows-preserved : goal.rows-preserved
rows-preserved c =
    let duals = duals_of c.args.duals.falls.now c.args.duals.rises.now c.args.duals.floor in
    let kept : slice_index c.rows.gaps c.rows.k ≡ slice_index c.args.gaps.now c.rows.k = c.rows.invariant.later c.rows.k (omega arith) in
    let column = subst (λ gap. IsColumnGapIn c.args.table.now c.rows.k (slice_index c.args.answer.now c.rows.k) duals.falls (slice_index duals.rises (slice_index c.args.answer.now c.rows.k)) duals.floor gap) (sym kept)
    ((c.requires.gaps c.rows.k (omega (arith, c.rows-test.true, c.rows-k-end.ensures.rows)) (omega (arith, c.rows.auto.k))).1) in
    let unbarred = open_more c.args.answer.now c.rows.k c.args.duals.rises.now c.rows.room c.bar.new.low c.args.table.now.columns (slice_index c.args.answer.now c.rows.k) refl c.rows.invariant.unbarred c.bar.ensures.each in
    record {
      room = c.bar.ensures.count ∙ c.rows.invariant.room;
      below = λ j h. c.bar.ensures.below j (c.rows.invariant.below j h);
      unbarred = unbarred;
      count = length-set c.rows.gaps c.rows.k c.gap_at.result ∙ c.rows.invariant.count;
      before = λ j h. get_or-set_other c.rows.gaps c.rows.k j c.gap_at.result 0 (λ same. omega (arith, same, h, c.rows.auto.k)) ∙ c.rows.invariant.before j h;
      later = λ j h. get_or-set_other c.rows.gaps c.rows.k j c.gap_at.result 0 (λ same. omega (arith, same, h)) ∙ c.rows.invariant.later j (omega (arith, h));
      gaps = gaps_more (λ i x. IsGapIn c.args.table.now c.args.answer.now i [] duals x) c.args.row c.rows.k c.gap_at.result c.rows.gaps (omega (arith, c.rows-test.true, c.rows-k-end.ensures.rows, c.rows.invariant.count, c.requires.count)) c.rows.invariant.gaps (gap_in c.args.table.now c.args.answer.now c.rows.k [] duals c.bar.new.low (slice_index c.rows.gaps c.rows.k) c.gap_at.result c.gap_at.ensures.table (λ j h. wider (unbarred j h)) column c.gap_at.ensures.gap);
    }

pub returns-clause-before : goal.returns-clause-before
returns-clause-before c = c.rows.invariant.before

pub returns-clause-gaps : goal.returns-clause-gaps
returns-clause-gaps c = λ j h k. c.rows.invariant.gaps j (omega (arith, h, c.rows-test.false, c.rows-k-end.ensures.rows)) k
