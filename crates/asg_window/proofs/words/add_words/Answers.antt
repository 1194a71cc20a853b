use Rattle.asg_window.proofs.Common.{◌<◌, length, get_or, bit_or, ap, ◌∙◌, arith, length-set, get_or_read}
use Rattle.asg_window.proofs.WordLemmas.{joined_next}
use Rattle.asg_window.proofs.words.add_words.Goals as goal

pub loop-number-preserved : goal.loop-number-preserved
loop-number-preserved c =
    let inv = c.loop-number.invariant in
    let now = c.loop-number.columns.items in
    let words = c.args.words.now in
    let number = c.loop-number.number in
    let within : number < length now = omega (arith, c.loop-number-test.true, inv.end, inv.count) in
    let read = get_or_read now number c.index.result.now within c.index.ensures 0 in
    let word = bit_or c.index.result.now (get_or words number 0) in
    let next = joined_next c.args.columns.now.items words now number word within (ap (λ x. bit_or x (get_or words number 0)) read) (record { bits = inv.bits; rest = inv.rest }) in
    record {
      end = inv.end;
      count = length-set now number word ∙ inv.count;
      bits = next.bits;
      rest = next.rest;
    }
