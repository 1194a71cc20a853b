use Rattle.asg_lex.proofs.Common.{◌≡◌, ◌∙◌, subst, arith, FreesNamed}
use Rattle.asg_lex.proofs.GroupSteps.{named_more}
use Rattle.asg_lex.proofs.groups.free_rows.Goals as goal

pub loop-place-preserved : goal.loop-place-preserved
loop-place-preserved c =
    let inv = c.loop-place.invariant in
    record {
      from = omega (arith, inv.from);
      side = c.free_row.ensures.side ∙ inv.side;
      freed = named_more c.args.matching.now c.loop-place.matching c.free_row.new.matching c.args.entries.now c.args.from c.loop-place.place inv.from inv.freed c.free_row.ensures;
    }

pub returns-clause-freed : goal.returns-clause-freed
returns-clause-freed c =
    let all : c.loop-place.place ≡ c.args.to = omega (arith, c.requires.order, c.loop-place-test.false, c.loop-place.auto.place-end) in
    subst (FreesNamed c.args.matching.now c.loop-place.matching c.args.entries.now c.args.from) all c.loop-place.invariant.freed
