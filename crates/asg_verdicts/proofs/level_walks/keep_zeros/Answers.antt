use Rattle.asg_verdicts.proofs.LevelCommon.{◌≡◌, ◌<◌, sym, subst, arith}
use Rattle.asg_verdicts.proofs.level_walks.keep_zeros.Goals as goal

pub returns-clause-left : goal.returns-clause-left
returns-clause-left c =
    let side = c.args.now.now.side in
    let inv = c.loop-row.invariant in
    let all : c.loop-row.row ≡ side = omega (arith, c.loop-row-test.false, inv.end, c.loop-row.auto.row-end) in
    record {
      rows = inv.rows;
      columns = inv.columns;
      each = λ r d hr hd. inv.done r d (subst (λ n. r < n) (sym all) hr) hd;
    }
