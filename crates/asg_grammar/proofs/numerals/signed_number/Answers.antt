use Rattle.asg_grammar.proofs.Common.{sym, ◌∙◌, subst, arith, Spells, signed_spelling}
use Rattle.asg_grammar.proofs.SignedNumbers.{minus_none, minus_gives, plain_size, plain_gives}
use Rattle.asg_grammar.proofs.numerals.signed_number.Goals as goal

pub returns-in_err-wide_number-in-Some : goal.returns-in_err-wide_number-in-Some
returns-in_err-wide_number-in-Some c = rw c.from_residual.ensures
    (λ z fits is. minus_none c.in-Some.digits.now c.in_err-wide_number-in-Some.ensures z fits (sym c.in-Some.ensures ∙ is))

pub returns-in_ok-wide_number-in-Some : goal.returns-in_ok-wide_number-in-Some
returns-in_ok-wide_number-in-Some c =
    let size = c.in_ok-wide_number-in-Some.ensures in
    subst (λ word. Spells signed_spelling word c.negative_of.result) (sym c.in-Some.ensures)
    (minus_gives c.in-Some.digits.now c.in_ok-wide_number-in-Some.field-0 c.negative_of.result size.0 size.1 c.negative_of.ensures)

pub returns-in_err-wide_number-in-None : goal.returns-in_err-wide_number-in-None
returns-in_err-wide_number-in-None c = rw c.from_residual-in_err-wide_number-in-None.ensures
    (λ z fits is. let size = plain_size c.args.word.now z fits c.in-None.ensures is in c.in_err-wide_number-in-None.ensures size.0 (omega (arith, size.1)) size.3)

pub returns-in_ok-wide_number-in-None : goal.returns-in_ok-wide_number-in-None
returns-in_ok-wide_number-in-None c =
    let size = c.in_ok-wide_number-in-None.ensures in
    plain_gives c.args.word.now c.in_ok-wide_number-in-None.field-0 c.positive_of.result c.in-None.ensures size.0 size.1 c.positive_of.ensures
