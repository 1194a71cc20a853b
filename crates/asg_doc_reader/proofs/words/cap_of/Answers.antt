use Rattle.asg_doc_reader.proofs.Common.{◌≡◌, sym, ◌∙◌, arith, decimal_same}
use Rattle.asg_doc_reader.proofs.words.cap_of.Goals as goal

pub returns-then-cap-eq0 : goal.returns-then-cap-eq0
returns-then-cap-eq0 c = λ n has is.
    let same : c.in_ok-cap.cap ≡ n = decimal_same c.in_ok-cap.cap n (omega arith) (omega (arith, has.1)) (sym c.in_ok-cap.ensures.1 ∙ is) in
    omega (arith, has.0)

pub returns-then-cap-from : goal.returns-then-cap-from
returns-then-cap-from c = λ n has is.
    let same : c.in_ok-cap.cap ≡ n = decimal_same c.in_ok-cap.cap n (omega arith) (omega (arith, has.1)) (sym c.in_ok-cap.ensures.1 ∙ is) in
    omega (arith, has.1, c.from.ensures)
