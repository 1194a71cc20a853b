use Rattle.asg_levels.proofs.Common.{◌≡◌, sym, refl, ◌∙◌, subst, arith, RenewsRows}
use Rattle.asg_levels.proofs.NextSteps.{renews_more, next_tight}
use Rattle.asg_levels.proofs.next_step.tighten_more.Goals as goal

pub loop-row-preserved : goal.loop-row-preserved
loop-row-preserved c =
    let inv = c.loop-row.invariant in
    let same = sym (inv.columns ∙ c.clear_left.ensures.columns) in
    renews_more c.clear_left.new.marks c.loop-row.marks c.renew_entered.new.marks c.args.zeros.now c.args.ones.now c.args.enters.now c.args.ins.now c.args.outs.now c.loop-row.row inv
    (c.requires.zero_columns ∙ same) (c.requires.one_columns ∙ same) c.renew_entered.ensures.entered c.renew_entered.ensures.other

pub returns-clause-bits : goal.returns-clause-bits
returns-clause-bits c count ins_before outs_before square duals tight counts =
    let side = c.args.marks.now.rows in
    let all : c.loop-row.row ≡ side = omega (arith, c.loop-row-test.false, c.loop-row.auto.row-end, c.requires.enters) in
    next_tight side count c.args.marks.now c.clear_left.new.marks c.loop-row.marks c.args.zeros.now c.args.ones.now c.args.enters.now c.args.leaves.now ins_before outs_before c.args.ins.now c.args.outs.now square
    refl c.requires.square (c.requires.zero_columns ∙ c.requires.square) (c.requires.one_columns ∙ c.requires.square)
    c.rows-zeros.ensures.table c.rows-ones.ensures.table c.rows-marks.ensures.table c.requires.leaves c.clear_left.ensures
    (subst (RenewsRows c.clear_left.new.marks c.loop-row.marks c.args.zeros.now c.args.ones.now c.args.enters.now c.args.ins.now c.args.outs.now) all c.loop-row.invariant)
    duals tight counts
