use Rattle.asg_kept_phases.proofs.Common.{◌≡◌, ◌<◌, Some, None, sym, ◌∙◌, subst, false≢true, get_or_from_slice_get, phases_along, label_of_column, square_cell, column_label}
use Rattle.asg_kept_phases.proofs.MendLemmas.{MendsCells-set, MendsCells-same, MendsCells-none}
use Rattle.asg_kept_phases.proofs.mended_cells.mend_at.Goals as goal

pub copy_through-cell-requires-clause-label : goal.copy_through-cell-requires-clause-label
copy_through-cell-requires-clause-label g c =
    let X = c.args.inst.now in
    let Q = c.args.square.now in
    let low = subst (λ n. c.args.k < n) c.requires.may.side c.requires.column in
    sym (label_of_column X Q c.args.k c.requires.columns low)
    ∙ get_or_from_slice_get Q.column_labels c.args.k c.column_label.result None c.column_label.ensures
    ∙ c.is_at_column.ensures.0 c.if-is_at_column.true

pub returns-then-is_at_column : goal.returns-then-is_at_column
returns-then-is_at_column g c =
    let m = g.K.Kind.monoid c.args.kind.now in
    let M = g.K.M.Ordered.monoid_of m in
    let d = g.K.M.DMonoid.difference m in
    let X = c.args.inst.now in
    let Q = c.args.square.now in
    let phases = phases_along c.args.region.now c.args.trails.now in
    let after = square_cell X M.unit (g.K.Kind.entered c.args.kind.now) in
    let side = c.requires.may.side ∙ sym c.requires.columns.side in
    let low = subst (λ n. c.args.k < n) c.requires.may.side c.requires.column in
    let label : column_label X c.args.k ≡ Some c.args.q =
    sym (label_of_column X Q c.args.k c.requires.columns low)
    ∙ get_or_from_slice_get Q.column_labels c.args.k c.column_label.result None c.column_label.ensures
    ∙ c.is_at_column.ensures.0 c.if-is_at_column.true in
    MendsCells-same M d phases after (λ s j. (s ≡ c.args.r) × (j ≡ c.args.k)) (λ s j. ((s ≡ c.args.r) × (j ≡ c.args.k)) × (column_label X j ≡ Some c.args.q)) Q c.set.new.self
    (λ s j hs hj seen. seen.0)
    (λ s j at. (at, subst (λ n. column_label X n ≡ Some c.args.q) (sym at.1) label))
    (MendsCells-set M d phases after c.args.r c.args.k c.copy_through-cell.result Q c.set.new.self c.side-side.ensures.grid
    (subst (λ n. c.args.r < n) side c.requires.row) (subst (λ n. c.args.k < n) side c.requires.column)
    c.copy_through-cell.ensures c.set.ensures)

pub returns-else-is_at_column : goal.returns-else-is_at_column
returns-else-is_at_column g c =
    let m = g.K.Kind.monoid c.args.kind.now in
    let M = g.K.M.Ordered.monoid_of m in
    let X = c.args.inst.now in
    let Q = c.args.square.now in
    let low = subst (λ n. c.args.k < n) c.requires.may.side c.requires.column in
    let label : column_label X c.args.k ≡ c.column_label.result =
    sym (label_of_column X Q c.args.k c.requires.columns low)
    ∙ get_or_from_slice_get Q.column_labels c.args.k c.column_label.result None c.column_label.ensures in
    MendsCells-none M (g.K.M.DMonoid.difference m) (phases_along c.args.region.now c.args.trails.now) (square_cell X M.unit (g.K.Kind.entered c.args.kind.now))
    (λ s j. ((s ≡ c.args.r) × (j ≡ c.args.k)) × (column_label X j ≡ Some c.args.q)) Q
    (λ s j hs hj seen.
    let at : c.column_label.result ≡ Some c.args.q = sym label ∙ subst (λ n. column_label X n ≡ Some c.args.q) seen.0.1 seen.1 in
    false≢true (sym c.if-is_at_column.false ∙ c.is_at_column.ensures.1 at))
