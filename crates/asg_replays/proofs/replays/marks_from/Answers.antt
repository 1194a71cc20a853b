use Rattle.asg_replays.proofs.Common.{◌-◌, ◌<◌, [], ◌∷◌, ◌++◌, length, take, sym, ap, ◌∙◌, arith, take_all, map_more, counted_from}
use Rattle.asg_replays.proofs.replays.marks_from.Goals as goal

pub loop-place-preserved : goal.loop-place-preserved
loop-place-preserved c =
    let from = c.args.from in
    let marks = c.args.marks.now in
    let within : c.loop-place.place < length marks = omega (arith, c.loop-place-test.true, c.loop-place.invariant.end) in
    record {
      end = c.loop-place.invariant.end;
      later = c.in_ok-push.ensures.items
          ∙ ap (λ list. list ++ c.counted.result ∷ []) c.loop-place.invariant.later
          ∙ ap (λ mark. counted_from from (take c.loop-place.place marks) ++ mark ∷ []) c.counted.ensures
          ∙ sym (map_more (λ mark. mark - from) marks c.loop-place.place 0 within);
    }

pub returns : goal.returns
returns c =
    c.loop-place.invariant.later ∙ ap (counted_from c.args.from) (take_all c.loop-place.place c.args.marks.now (omega (arith, c.loop-place-test.false, c.loop-place.invariant.end)))
