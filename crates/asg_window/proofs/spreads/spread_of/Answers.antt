use Rattle.asg_window.proofs.Common.{◌≡◌, sym, subst, arith, IsSpread, AreExtremes, IsOneMore}
use Rattle.asg_window.proofs.SpreadLemmas.{extremes_more, IsSpread-extremes}
use Rattle.asg_window.proofs.spreads.spread_of.Goals as goal

pub loop-row-preserved : goal.loop-row-preserved
loop-row-preserved c =
    record {
      end = c.side-row-end.ensures.side;
      extremes = extremes_more c.args.square.now c.args.perm.now c.loop-row.row c.loop-row.extremes c.with-extremes.result c.loop-row.invariant.extremes
          (subst (λ o. IsOneMore c.loop-row.extremes o c.with-extremes.result) c.at.ensures c.with-extremes.ensures);
    }

pub returns : goal.returns
returns c =
    let all : c.loop-row.row ≡ c.args.square.now.side = omega (arith, c.loop-row-test.false, c.loop-row.invariant.end, c.loop-row.auto.row-end) in
    subst (IsSpread c.args.square.now c.args.perm.now) (sym c.saturating_sub.ensures)
    (IsSpread-extremes c.args.square.now c.args.perm.now c.requires c.loop-row.extremes
    (subst (λ n. AreExtremes c.args.square.now c.args.perm.now n c.loop-row.extremes) all c.loop-row.invariant.extremes))
