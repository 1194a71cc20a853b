use Rattle.asg_cell_tables.proofs.Common.{◌+◌, ◌*◌, set, ◌∙◌, arith, length-set, to_z-of_z, to_z, of_z, w64}
use Rattle.asg_cell_tables.proofs.GatherLemmas.{pairs_more}
use Rattle.asg_cell_tables.proofs.gathering.write_pairs.Goals as goal

pub loop-i-preserved : goal.loop-i-preserved
loop-i-preserved c =
    let i = c.loop-i.i in
    let room = c.loop-i.room in
    let before = c.loop-i.invariant in
    let from = c.args.from in
    let other = to_z w64 (of_z w64 c.args.other) in
    let item = to_z w64 (of_z w64 c.item_or-item.result) in
    let same = to_z-of_z w64 c.item_or-item.result c.item_or-item.ensures.fits in
    record {
      count = length-set (set room (2 * i) item) (2 * i + 1) item ∙ length-set room (2 * i) item ∙ before.count;
      items =
          pairs_more c.args.items.now room from i item other (omega (arith, c.loop-i-test.true, before.count, c.requires.room))
          (same ∙ c.item_or-item.ensures.item)
          before.items;
    }
