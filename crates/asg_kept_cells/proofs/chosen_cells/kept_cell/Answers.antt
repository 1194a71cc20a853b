use Rattle.asg_kept_cells.proofs.Common.{◌≡◌, true, false, cond, None, sym, ap, ◌∙◌, keeps-bit, cell_at, keeps, cell_at-masked, kept_some}
use Rattle.asg_kept_cells.proofs.chosen_cells.kept_cell.Goals as goal

pub returns-then-not-has : goal.returns-then-not-has
returns-then-not-has g c =
    let Q = c.args.square.now in
    let bits = c.args.kept.now in
    let off : keeps Q.side bits.words c.args.row c.args.column ≡ false = keeps-bit bits Q.side c.requires.size.columns c.args.row c.args.column ∙ sym c.has.ensures ∙ c.if-not-has.true in
    sym (cell_at-masked Q bits.words c.args.row c.args.column ∙ ap (λ b. cond b (cell_at Q c.args.row c.args.column) None) off)

pub returns : goal.returns
returns g c =
    let Q = c.args.square.now in
    let bits = c.args.kept.now in
    let kept : keeps Q.side bits.words c.args.row c.args.column ≡ true = keeps-bit bits Q.side c.requires.size.columns c.args.row c.args.column ∙ sym c.has.ensures ∙ c.if-not-has.false in
    c.at.ensures ∙ sym (kept_some Q bits.words c.args.row c.args.column kept)
