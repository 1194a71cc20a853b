use Rattle.asg_grammar.proofs.Common.{◌≡◌, sym, ◌∙◌, arith, wide, decimal_same}
use Rattle.asg_grammar.proofs.fields.positive.Goals as goal

pub returns-then-number-eq0 : goal.returns-then-number-eq0
returns-then-number-eq0 c = λ n fits is.
    let same : c.in_ok-number.number ≡ n = decimal_same c.in_ok-number.number n (omega arith) (wide n fits.1) (sym c.in_ok-number.ensures.1 ∙ is) in
    omega (arith, fits.0)
