use Rattle.asg_cell_tables.proofs.Common.{◌||◌, length, get_or, is_some, None, ap, ◌∙◌, subst, AreBitsOf, has_corner}
use Rattle.asg_cell_tables.proofs.PieceLemmas.{piece_free, bits_same, free_label}
use Rattle.asg_cell_tables.proofs.pieces.free_piece.Goals as goal

pub returns-clause-present : goal.returns-clause-present
returns-clause-present g c =
    let X = c.args.inst.now in
    let columns = c.args.columns.now in
    let corner = c.has_corner.ensures ∙ ap has_corner c.place.ensures in
    let bits = subst (λ b. AreBitsOf (length columns) (λ k. b || is_some (get_or columns k None)) c.free_bits.result) corner c.free_bits.ensures in
    bits_same (length c.args.values.now) c.free_bits.result _ _
    (subst (λ n. AreBitsOf n (λ k. has_corner X.place || is_some (get_or columns k None)) c.free_bits.result) c.requires.count bits)
    (λ k h. free_label X (get_or columns k None))

pub returns-clause-cells : goal.returns-clause-cells
returns-clause-cells g c entered =
    piece_free c.args.inst.now c.args.free entered c.args.columns.now c.fill_with.new.values c.free_bits.result (length c.args.values.now) c.fill_with.ensures.values
    (returns-clause-present g c)
