use Rattle.asg_verdicts.proofs.LevelCommon.{◌≡◌, ◌+◌, ◌^◌, ◌<◌, take, sum_by, sym, ap, ◌∙◌, arith, take_all, rules, Level}
use Rattle.asg_verdicts.proofs.LevelSums.{total_more}
use Rattle.asg_verdicts.proofs.level_verdicts.total.Goals as goal

pub loop-place-preserved : goal.loop-place-preserved
loop-place-preserved c =
    let level = c.index-levels-place.result in
    let inv = c.loop-place.invariant in
    record {
      sum = ap (λ n. c.loop-place.total + n) c.from-total.ensures ∙ ap (λ (l : Level). c.loop-place.total + l.count) (sym c.index-levels-place.is) ∙ total_more c.args.levels.now c.loop-place.place c.loop-place.total level c.loop-place-test.true c.index-levels-place.is inv.sum;
      few = let fits : level.count < 2 ^ 32 = search rules in omega (arith, inv.few, c.from-total.ensures, fits);
    }

pub returns : goal.returns
returns c =
    let levels = c.args.levels.now in
    let all : take c.loop-place.place levels ≡ levels = take_all c.loop-place.place levels (omega (arith, c.loop-place-test.false)) in
    c.loop-place.invariant.sum ∙ ap (sum_by (λ (level : Level). level.count)) all
