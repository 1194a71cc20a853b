use Rattle.asg_repair.proofs.Common.{IsNamed, label_at}
use Rattle.asg_repair.proofs.ClearedLemmas.{IsCleared-none, IsCleared-more}
use Rattle.asg_repair.proofs.cleared_rows.clear_named.Goals as goal

pub loop-r-init : goal.loop-r-init
loop-r-init g c =
    IsCleared-none (IsNamed c.args.places (label_at c.args.square.now)) c.args.matching.now

pub loop-r-preserved : goal.loop-r-preserved
loop-r-preserved g c =
    let l = c.loop-r in
    let e = c.clear_row.ensures in
    IsCleared-more (IsNamed c.args.places (label_at c.args.square.now)) c.args.matching.now l.matching c.clear_row.new.matching l.r
    l.invariant e.side e.only e.others e.cleared
