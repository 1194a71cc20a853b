use Rattle.asg_thresh.proofs.Common.{◌≡◌, ◌+◌, ◌*◌, ◌/◌, ◌%◌, eqb, get_or, sym, ap, ◌∙◌, arith, Decides-eqb, bit_at_ones}
use Rattle.asg_bit_rows.specs.BitTable.{is_bit_set}
use Rattle.asg_thresh.proofs.grades.is_full.Goals as goal

pub returns : goal.returns
returns c h k below =
    let words = c.row_words.result.now in
    let number = c.args.number in
    let column = 64 * number + k in
    let word : get_or words number 0 ≡ 18446744073709551615 = (Decides-eqb (get_or words number 0) 18446744073709551615).0 h in
    let at : column / 64 ≡ number = omega (arith, below) in
    let bit : column % 64 ≡ k = omega (arith, below) in
    sym (c.row_words.ensures.each column (omega (arith, below, c.requires.number_below, c.row_words.ensures.count)))
    ∙ ap (λ i. is_bit_set (get_or words i 0) (column % 64)) at
    ∙ ap (λ n. is_bit_set n (column % 64)) word
    ∙ ap (is_bit_set 18446744073709551615) bit
    ∙ ap (λ n. eqb n 1) (bit_at_ones 64 k below)
