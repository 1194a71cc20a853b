use Rattle.asg_kept.proofs.Common.{◌+◌, ◌*◌, length, get_or, bit_and, refl, ap, arith}
use Rattle.asg_kept.proofs.RowLemmas.{masked_word}
use Rattle.asg_kept.proofs.masked.MaskedValueRowSquare.row_word.Goals as goal

pub returns : goal.returns
returns g c k h =
    let Q = c.args.self.now.square.now.now in
    let words = c.args.self.now.words.now in
    let r = c.args.row in
    let n = c.args.number in
    let present = c.row_words-present.result.now in
    let are = c.row_words-present.ensures in
    masked_word Q words r present are n (bit_and (get_or present n 0) c.word_at.result) (r * length present + n)
    (omega (arith, c.requires.number, are.count)) refl
    (ap (bit_and (get_or present n 0)) c.word_at.ensures) k h
