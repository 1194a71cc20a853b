use Rattle.asg_tokens.proofs.Common.{subst, IsShortInteger, short_pair}
use Rattle.asg_tokens.proofs.cells.pair_from.Goals as goal

pub returns : goal.returns
returns c = λ text place first.
    short_pair place text c.in_ok-behind_byte.field-0.now c.in_ok-second.second.rest.now c.in_ok-rest.rest.now c.args.first c.in_ok-second.second.value
    (subst (IsShortInteger text c.args.first) c.in_ok-behind_byte.ensures first) c.in_ok-second.ensures c.in_ok-rest.ensures
