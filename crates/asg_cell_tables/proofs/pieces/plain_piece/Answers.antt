use Rattle.asg_cell_tables.proofs.Common.{◌+◌, ◌-◌, length, get_or, drop, is_some, Some, None, sym, ap, ◌∙◌, arith, length-drop, length-take, is_labelled_within, live_cost, Whole}
use Rattle.asg_cell_tables.proofs.CountedPieces.{plain_parts, cost_bit}
use Rattle.asg_cell_tables.proofs.PieceLemmas.{bits_same}
use Rattle.asg_cell_tables.proofs.pieces.plain_piece.Goals as goal

pub entered_piece-requires-clause-parts : goal.entered_piece-requires-clause-parts
entered_piece-requires-clause-parts g c =
    let first = c.args.first in
    let columns = c.args.columns.now in
    let firsts = c.args.parts.firsts.now in
    let count = first + length columns - first in
    plain_parts c.args.inst.now c.args.r first count columns firsts c.args.parts.seconds.now c.seconds_from.result.now c.requires.live c.requires.known c.seconds_from.ensures (omega arith)
    (omega (arith, length-take count (drop first firsts), length-drop first firsts, c.if-end-parts.false))

pub returns-clause-present : goal.returns-clause-present
returns-clause-present g c =
    let X = c.args.inst.now in
    let r = c.args.r in
    let columns = c.args.columns.now in
    bits_same (length c.args.values.now) c.entered_piece.result (λ k. is_some (live_cost X r (get_or columns k None))) (λ k. is_labelled_within X Whole (Some r) (get_or columns k None)) c.entered_piece.ensures.present
    (λ k h.
    let is = c.requires.known k (omega (arith, h, c.requires.count)) in
    ap (λ o. is_some (live_cost X r o)) is ∙ cost_bit X r (c.args.first + k) ∙ sym (ap (is_labelled_within X Whole (Some r)) is))
