use Rattle.asg_tokens.proofs.Common.{drop, IfSome, Some, None, Option, refl, take_rest, IsShortInteger, IsShortAmount, plain_integer, negative_integer_fits}
use Rattle.asg_tokens.specs.declared.short_integers.ShortInteger.{ShortInteger}
use Rattle.asg_tokens.proofs.short_integers.short_integer.Goals as goal

pub returns-in_ok-short : goal.returns-in_ok-short
returns-in_ok-short c =
    let behind : IsShortAmount (drop 1 c.args.text.now) c.in_ok-short.short.value c.in_ok-short.short.rest.now = rw take_rest at c.in_ok-short.ensures in
    negative_integer_fits behind _ (c.if-is_negative.ensures.behind refl)

-- where there is an amount
plain : (text : _) (short : Option ShortInteger) → IfSome short (λ short. IsShortAmount text short.value short.rest.now) → IfSome short (λ short. IsShortInteger text short.value short.rest.now)
plain text None h = h
plain text (Some short) h = plain_integer h

pub returns-else-is_negative : goal.returns-else-is_negative
returns-else-is_negative c = plain _ _ c.short_amount-else-is_negative.ensures
