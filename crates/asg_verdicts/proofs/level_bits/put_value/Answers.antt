use Rattle.asg_verdicts.proofs.LevelCommon.{cond, Some, sym, ap, ◌∙◌}
use Rattle.asg_verdicts.proofs.BitSquares.{one_here, one_kept, zero_here, zero_kept}
use Rattle.asg_verdicts.proofs.level_bits.put_value.Goals as goal

pub returns-then-is_one-clause-here : goal.returns-then-is_one-clause-here
returns-then-is_one-clause-here c =
    one_here c.args.bits.now.zeros c.args.bits.now.ones c.put.new.self c.args.row c.args.column c.put.ensures c.requires.clear
    ∙ ap (λ b. Some (cond b 1 0)) (sym c.if-is_one.true)

pub returns-then-is_one-clause-others : goal.returns-then-is_one-clause-others
returns-then-is_one-clause-others c = one_kept c.args.bits.now.zeros c.args.bits.now.ones c.put.new.self c.args.row c.args.column c.put.ensures

pub returns-else-is_one-clause-here : goal.returns-else-is_one-clause-here
returns-else-is_one-clause-here c =
    zero_here c.args.bits.now.zeros c.args.bits.now.ones c.put-else-is_one.new.self c.args.row c.args.column c.put-else-is_one.ensures
    ∙ ap (λ b. Some (cond b 1 0)) (sym c.if-is_one.false)

pub returns-else-is_one-clause-others : goal.returns-else-is_one-clause-others
returns-else-is_one-clause-others c = zero_kept c.args.bits.now.zeros c.args.bits.now.ones c.put-else-is_one.new.self c.args.row c.args.column c.put-else-is_one.ensures
