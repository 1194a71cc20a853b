use Rattle.asg_hall_windows.proofs.Common.{◌/◌, ◌%◌, ◌<◌, ◌≤◌, ⊎_elim, arith, cases_lt}
use Rattle.asg_hall_windows.proofs.MarkLemmas.{keeps_both, marked_on, word_marked}
use Rattle.asg_hall_windows.proofs.cells.pass_words.Goals as goal

pub loop-number-preserved : goal.loop-number-preserved
loop-number-preserved c =
    let named = c.args.named.now in
    let before = c.loop-number.reached in
    let after = c.pass_word.new.reached in
    let kept = c.pass_word.ensures.kept in
    record {
      kept = keeps_both c.args.reached.now before after c.loop-number.invariant.kept kept;
      marked = λ w from below has.
          ⊎_elim
          (λ (early : w / 64 < c.loop-number.number). marked_on before after c.args.column w kept (c.loop-number.invariant.marked w from early has))
          (λ (here : c.loop-number.number ≤ w / 64).
          word_marked named before after c.args.row c.args.column c.loop-number.number c.first_bits.result w (omega (arith, here, below))
          ((c.first_bits.ensures (w % 64)).1 (omega arith, omega arith)) kept c.pass_word.ensures.marked has)
          (cases_lt (w / 64) c.loop-number.number);
    }
