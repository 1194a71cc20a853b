use Rattle.asg_kept_cells.proofs.MaskLemmas.{mask_moved}
use Rattle.asg_kept_cells.proofs.masks.move_mask.Goals as goal

pub returns-clause-mask : goal.returns-clause-mask
returns-clause-mask g c =
    mask_moved c.args.inst.now c.args.choice.now c.requires.place c.args.square.now c.requires.labels c.args.branch c.args.kept.now c.mark_rows.new.kept
    c.args.before c.args.square.now.side c.min-from.result c.max-to.result c.requires.labels.side c.min-from.ensures c.max-to.ensures c.mark_rows.ensures.marks c.requires.mask
