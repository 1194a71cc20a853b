use Rattle.asg_model.proofs.Common.{◌*◌, ◌<◌, arith, div_below, mod_below}
use Rattle.asg_model.proofs.RetainedStores.{kept_more}
use Rattle.asg_model.proofs.Tables.{columns_below}
use Rattle.asg_model.proofs.retaining.retain_firsts.Goals as goal

pub keep-is_kept-requires : goal.keep-is_kept-requires
keep-is_kept-requires g c =
    let n = c.args.columns in
    let k = c.loop-k.k in
    let below : k < c.args.rows * n = omega (arith, c.loop-k-test.true) in
    let some = columns_below c.args.rows n k below in
    c.requires.may _ _ (div_below k n c.args.rows some below) (mod_below k n some)

pub loop-k-preserved : goal.loop-k-preserved
loop-k-preserved g c =
    let l = c.loop-k in
    kept_more (goal.F-post g c.args.keep.now) c.args.columns c.args.firsts.now.items l.firsts.items c.keep_first.new.firsts.items l.k c.keep-is_kept.result
    (omega (arith, c.loop-k-test.true, l.auto.k-end, l.invariant.count, c.requires.whole)) c.keep_first.ensures c.keep-is_kept.ensures l.invariant
