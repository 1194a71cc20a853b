use Rattle.asg_doc_reader.proofs.Common.{◌≡◌, ◌+◌, ◌-◌, decimal, ap, ◌∙◌, arith}
use Rattle.asg_doc_reader.proofs.level_reader.column_of.Goals as goal

pub returns-in_err-number : goal.returns-in_err-number
returns-in_err-number c = rw c.from_residual.ensures (λ column has is. c.in_err-number.ensures (column + 1) (omega arith, has) is)

pub returns : goal.returns
returns c =
    let number = c.in_ok-number.number in
    let has = c.in_ok-number.ensures.0 in
    let same : number ≡ number - 1 + 1 = omega (arith, has.0) in
    (omega (arith, has.0, has.1), c.in_ok-number.ensures.1 ∙ ap decimal same)
