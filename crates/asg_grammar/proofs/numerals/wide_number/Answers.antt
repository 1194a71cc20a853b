use Rattle.asg_grammar.proofs.Common.{refl, arith, lit≤, false≢true}
use Rattle.asg_grammar.proofs.SpelledDigits.{IsReading-none, IsReading-more, IsReading-all, IsReading-stops, not_plain}
use Rattle.asg_grammar.proofs.numerals.wide_number.Goals as goal

pub returns-then-not-is_plain : goal.returns-then-not-is_plain
returns-then-not-is_plain c = λ n below. not_plain c.args.word.now n (λ plain. false≢true (c.if-not-is_plain.ensures.1 plain)) (omega arith)

pub loop-byte-init : goal.loop-byte-init
loop-byte-init c = IsReading-none c.args.word.now (omega arith) (c.if-not-is_plain.ensures.0 refl)

pub returns-in_err-value : goal.returns-in_err-value
returns-in_err-value c = rw c.from_residual.ensures
    (λ n below. IsReading-stops c.args.word.now _ _ n (lit≤ tt) c.loop-byte.invariant c.loop-byte-test.true c.in_err-value.ensures below)

pub loop-byte-preserved : goal.loop-byte-preserved
loop-byte-preserved c = IsReading-more c.args.word.now _ _ _ (lit≤ tt) c.loop-byte.invariant c.loop-byte-test.true c.in_ok-value.ensures.0 c.in_ok-value.ensures.1

pub returns : goal.returns
returns c = IsReading-all c.args.word.now c.loop-byte.byte-index c.loop-byte.value c.loop-byte.invariant (omega arith)
