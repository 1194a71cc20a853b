use Rattle.asg_verdicts.proofs.LevelCommon.{◌≡◌, ℕ, cond, Some, None, Option, sym, ap, ◌∙◌, has_bit, cell_at, row_label}
use Rattle.asg_verdicts.proofs.BitSquares.{free_row, label_read, no_marks, none_where, value_free}
use Rattle.asg_verdicts.proofs.level_bits.split_any.Goals as goal

-- the row has free cells alone
pub returns-else-is_some-clause-cells : goal.returns-else-is_some-clause-cells
returns-else-is_some-clause-cells c d inside =
    let X = c.args.inst.now in
    let Q = c.args.square.now in
    let row = c.args.row in
    let walk = c.args.walk.now in
    let ones = c.args.bits.now.ones in
    let label : row_label X row ≡ None = label_read X Q c.requires.square.labels row c.row_label.result c.requires.row_below c.row_label.ensures ∙ none_where c.row_label.result (sym c.is_some.ensures ∙ c.if-is_some.false) in
    let clear = no_marks (has_bit c.args.bits.now.zeros row d) (has_bit ones row d) (c.requires.clear d) in
    ap (λ b. cond {A = Option ℕ} b (Some 0) (cond (has_bit ones row d) (Some 1) None)) (c.copy_row.ensures.cells d inside)
    ∙ value_free (has_bit walk.left row d) walk.before c.args.level.now.cost (cell_at Q row d) (has_bit ones row d) (λ found e. free_row X Q c.requires.square row d found label e) clear.1

pub returns-else-is_some-clause-others : goal.returns-else-is_some-clause-others
returns-else-is_some-clause-others c r d apart =
    ap (λ b. cond {A = Option ℕ} b (Some 0) (cond (has_bit c.args.bits.now.ones r d) (Some 1) None)) (c.copy_row.ensures.others r d apart)
