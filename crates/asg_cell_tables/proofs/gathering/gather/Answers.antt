use Rattle.asg_cell_tables.proofs.Common.{ℕ, get_or, None, ◌∙◌, arith, length-set, to_z-of_z, to_z, of_z, gathered_item, w64}
use Rattle.asg_cell_tables.proofs.GatherLemmas.{items_more}
use Rattle.asg_cell_tables.proofs.gathering.gather.Goals as goal

pub loop-k-preserved : goal.loop-k-preserved
loop-k-preserved c =
    let i = c.loop-k.invariant in
    let room = c.loop-k.room in
    let place = c.loop-k.k in
    let other = to_z w64 (of_z w64 c.args.other) in
    let item = to_z w64 (of_z w64 c.item_at-item.result) in
    let same = to_z-of_z w64 c.item_at-item.result c.item_at-item.ensures.fits in
    record {
      count = length-set room place item ∙ i.count;
      items =
          items_more room place item other (λ (k : ℕ). gathered_item c.args.items.now other (get_or c.args.columns.now k None))
          (omega (arith, c.loop-k-test.true, i.count, c.requires.few, c.requires.room)) (same ∙ c.item_at-item.ensures.item) i.items;
    }
