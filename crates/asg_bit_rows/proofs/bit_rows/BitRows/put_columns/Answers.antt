use Rattle.asg_bit_rows.proofs.Common.{◌<◌, ◌≤◌, refl, ◌∙◌, arith, word_count}
use Rattle.asg_bit_rows.proofs.RunLemmas.{done_next, kept_next, written_word, word_inside, puts_columns}
use Rattle.asg_bit_rows.proofs.bit_rows.BitRows.put_columns.Goals as goal

pub loop-number-init : goal.loop-number-init
loop-number-init c = record {
  end = omega (arith, c.div_ceil-number-end.ensures);
  rows = refl;
  columns = refl;
  done = λ d low high below. absurd (omega (arith, low, below));
  kept = λ s d _. refl;
}

pub put_word-requires-clause-inside : goal.put_word-requires-clause-inside
put_word-requires-clause-inside c k h is =
    let inv = c.loop-number.invariant in
    let n = c.loop-number.number in
    let now = c.loop-number.self in
    let within : c.args.to ≤ now.columns = omega (arith, c.requires.within, inv.columns) in
    let below : n < word_count now.columns = omega (arith, c.loop-number-test.true, inv.end, within) in
    word_inside now c.args.r c.args.from c.args.to n c.with_bits-word.result c.args.is_set c.row.ensures.table within
    (written_word now c.args.r c.args.from c.args.to n c.saturating_sub.result c.bits_between-bits.result c.with_bits-word.result c.args.is_set c.row.result.now c.with_bits-word.ensures c.bits_between-bits.ensures c.saturating_sub.ensures c.row.ensures.words below) k h is

pub loop-number-preserved : goal.loop-number-preserved
loop-number-preserved c =
    let inv = c.loop-number.invariant in
    let puts = c.put_word.ensures in
    let n = c.loop-number.number in
    let B = c.args.self.now in
    let now = c.loop-number.self in
    let after = c.put_word.new.self in
    let word = c.with_bits-word.result in
    let below : n < word_count now.columns = omega (arith, c.loop-number-test.true, inv.end, c.requires.within, inv.columns) in
    let written = written_word now c.args.r c.args.from c.args.to n c.saturating_sub.result c.bits_between-bits.result word c.args.is_set c.row.result.now c.with_bits-word.ensures c.bits_between-bits.ensures c.saturating_sub.ensures c.row.ensures.words below in
    record {
      end = inv.end;
      rows = puts.rows ∙ inv.rows;
      columns = puts.columns ∙ inv.columns;
      done = done_next B now after c.args.r c.args.from c.args.to n word c.args.is_set inv.done inv.kept written puts;
      kept = kept_next B now after c.args.r c.args.from c.args.to n word c.args.is_set inv.done inv.kept written puts;
    }

pub returns : goal.returns
returns c =
    let inv = c.loop-number.invariant in
    puts_columns c.args.self.now c.loop-number.self c.args.r c.args.from c.args.to c.loop-number.number c.args.is_set
    (omega (arith, inv.end, c.loop-number-test.false)) inv.rows inv.columns inv.done inv.kept
