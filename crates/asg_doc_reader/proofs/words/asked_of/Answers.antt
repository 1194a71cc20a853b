use Rattle.asg_doc_reader.proofs.Common.{◌≡◌, sym, ◌∙◌, arith, decimal_same}
use Rattle.asg_doc_reader.proofs.words.asked_of.Goals as goal

pub returns-in_err-count : goal.returns-in_err-count
returns-in_err-count c = rw c.from_residual.ensures (λ n has is. c.in_err-count.ensures n (omega (arith, has.1)) is)

pub returns-then-count-eq0 : goal.returns-then-count-eq0
returns-then-count-eq0 c = λ n has is.
    let same : c.in_ok-count.count ≡ n = decimal_same c.in_ok-count.count n (omega (arith, c.in_ok-count.ensures.0)) (omega (arith, has.1)) (sym c.in_ok-count.ensures.1 ∙ is) in
    omega (arith, has.0)

pub returns-then-count-gt-MOST_RANKED : goal.returns-then-count-gt-MOST_RANKED
returns-then-count-gt-MOST_RANKED c = λ n has is.
    let same : c.in_ok-count.count ≡ n = decimal_same c.in_ok-count.count n (omega (arith, c.in_ok-count.ensures.0)) (omega (arith, has.1)) (sym c.in_ok-count.ensures.1 ∙ is) in
    omega (arith, has.1)
