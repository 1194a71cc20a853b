use Rattle.asg_verdicts.proofs.LevelCommon.{◌*◌, ◌<◌, ◌≤◌, refl, ap, ◌∙◌, subst, ⊎_elim, arith, cases_lt, has_bit, word_count, bit_in_row}
use Rattle.asg_verdicts.proofs.level_bits.split_row.Goals as goal

pub loop-number-init : goal.loop-number-init
loop-number-init c = record {
  end = c.row-words.ensures.words.count ∙ ap word_count c.requires.walk.columns;
  sized = c.requires.sized;
  done = λ d h inside. absurd (omega (arith, h));
  ahead = λ d h. c.requires.clear d;
  others = λ r d apart. refl;
}

-- the bits of the word
pub split_word-requires-clause-word : goal.split_word-requires-clause-word
split_word-requires-clause-word c k h =
    let left = c.args.walk.now.left in
    let number = c.loop-number.number in
    let below : number < word_count left.columns = subst (λ n. number < n) c.row-words.ensures.words.count c.loop-number-test.true in
    bit_in_row (has_bit left c.args.row) left.columns c.row-words.result.now number k c.row-words.ensures.words below h

pub loop-number-preserved : goal.loop-number-preserved
loop-number-preserved c =
    let inv = c.loop-number.invariant in
    let number = c.loop-number.number in
    let row = c.args.row in
    let one = c.split_word.ensures in
    record {
      end = inv.end;
      sized = one.sized;
      done = λ d h inside.
          ⊎_elim
          (λ (early : d < 64 * number). one.others row d (λ e f g. omega (arith, f, early)) ∙ inv.done d early inside)
          (λ (late : 64 * number ≤ d). one.cells d late (omega (arith, h)) inside)
          (cases_lt d (64 * number));
      ahead = λ d h. one.others row d (λ e f g. omega (arith, g, h)) ∙ inv.ahead d (omega (arith, h));
      others = λ r d apart. one.others r d (λ e f g. apart e) ∙ inv.others r d apart;
    }

pub returns-clause-cells : goal.returns-clause-cells
returns-clause-cells c d inside =
    let inv = c.loop-number.invariant in
    inv.done d (omega (arith, inside, c.loop-number-test.false, inv.end)) inside
