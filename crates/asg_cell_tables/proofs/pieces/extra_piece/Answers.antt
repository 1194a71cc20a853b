use Rattle.asg_cell_tables.proofs.Common.{length, get_or, Some, None, sym, ap, ◌∙◌, subst, arith, AreBitsOf, leaves_rows, is_labelled_within, entered_value, Whole}
use Rattle.asg_cell_tables.proofs.PieceLemmas.{bits_same}
use Rattle.asg_cell_tables.proofs.pieces.extra_piece.Goals as goal

pub returns-clause-present : goal.returns-clause-present
returns-clause-present g c =
    let X = c.args.inst.now in
    let columns = c.args.columns.now in
    let leaves = c.leaves_rows.ensures ∙ ap leaves_rows c.place.ensures in
    bits_same (length c.args.values.now) c.equal_bits.result (λ _. c.leaves_rows.result) (λ k. is_labelled_within X Whole (Some c.args.r) (get_or columns k None))
    (subst (λ n. AreBitsOf n (λ _. c.leaves_rows.result) c.equal_bits.result) c.requires.count c.equal_bits.ensures)
    (λ k h. leaves ∙ sym (ap (is_labelled_within X Whole (Some c.args.r)) (c.requires.known k (omega (arith, h, c.requires.count)))))

pub returns-clause-values : goal.returns-clause-values
returns-clause-values g c entered k h =
    c.fill_with.ensures.values k h
    ∙ ap (λ o. Some (entered_value c.args.inst.now c.args.free entered c.args.r o)) (sym (c.requires.known k (omega (arith, h, c.requires.count))))
