use Rattle.asg_levels.proofs.Common.{◌+◌, ◌*◌, ◌/◌, ◌%◌, length, get_or, ◌==◌, sym, ap, ◌∙◌, subst, length_push, AreMarkWords}
use Rattle.asg_levels.proofs.MarkWordLemmas.{words_push}
use Rattle.asg_levels.proofs.mark_words.mark_words.Goals as goal

pub loop-place-preserved : goal.loop-place-preserved
loop-place-preserved c =
    let inv = c.loop-place.invariant in
    let place = c.loop-place.place in
    let outs = c.args.outs.now in
    let word = c.mark_word.result in
    record {
      width = inv.width;
      count = ap length c.in_ok-push.ensures.items ∙ length_push c.loop-place.words.items word ∙ ap (λ n. n + 1) inv.count;
      words =
          subst (AreMarkWords outs) (sym c.in_ok-push.ensures.items)
          (words_push outs c.loop-place.words.items place word inv.count inv.words
          (λ k h. c.mark_word.ensures k h ∙ ap (λ w. get_or outs (64 * (place % w) + k) 0 + 1 == place / w) inv.width));
    }
