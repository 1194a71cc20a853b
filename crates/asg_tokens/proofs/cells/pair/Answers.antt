use Rattle.asg_tokens.proofs.Common.{◌+◌, Some, option_map, ap, ◌∙◌, arith, take_rest, pair_in_range, no_pair}
use Rattle.asg_tokens.specs.Numbers.{integer_of, integer_in_range}
use Rattle.asg_tokens.proofs.cells.pair.Goals as goal

pub returns-then-colon-token : goal.returns-then-colon-token
returns-then-colon-token c = no_pair c.args.token.now c.len_before_colon-colon.result c.len_before_colon-colon.ensures (omega arith)

pub returns : goal.returns
returns c =
    ap Some c.cost_of_parts.ensures
    ∙ pair_in_range c.args.token.now c.len_before_colon-colon.result c.in_ok-a.a c.in_ok-b.b c.len_before_colon-colon.ensures c.in_ok-a.ensures (c.in_ok-b.ensures ∙ ap (λ bytes. option_map integer_in_range (integer_of bytes)) (take_rest c.args.token.now (c.len_before_colon-colon.result + 1)))
