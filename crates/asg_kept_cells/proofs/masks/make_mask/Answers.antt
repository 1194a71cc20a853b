use Rattle.asg_kept_cells.proofs.Common.{arith}
use Rattle.asg_kept_cells.proofs.MaskLemmas.{mask_made}
use Rattle.asg_kept_cells.proofs.masks.make_mask.Goals as goal

pub returns-clause-mask : goal.returns-clause-mask
returns-clause-mask g c =
    mask_made c.args.inst.now c.args.choice.now c.requires.place c.args.square.now c.requires.labels c.args.branch c.args.kept.now c.mark_rows-last.new.kept
    _ c.args.square.now.side c.requires.labels.side c.mark_rows-last.ensures.marks (omega (arith, c.requires.instance.well_formed.few_rows)) c.requires.kept

pub mark_rows-last-requires-clause-apart : goal.mark_rows-last-requires-clause-apart
mark_rows-last-requires-clause-apart g c = λ r below numbered. omega (arith, below, c.first-start.ensures.row)
