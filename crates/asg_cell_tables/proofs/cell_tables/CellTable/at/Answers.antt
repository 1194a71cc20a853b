use Rattle.asg_cell_tables.proofs.Common.{◌≡◌, ℕ, ◌+◌, ◌*◌, ◌<◌, length, Some, None, sym, refl, ap, ◌∙◌, subst, slice_get_read, entry_at}
use Rattle.asg_cell_tables.proofs.TableLemmas.{entry_there, entry_absent, place_below}
use Rattle.asg_cell_tables.proofs.cell_tables.CellTable.at.Goals as goal

pub returns-then-has : goal.returns-then-has
returns-then-has g c =
    let s = c.self.inside in
    let row = subst (λ (n : ℕ). c.args.r < n) (sym (ap (λ t. t.side) c.self.view_is)) c.requires.row_below in
    let column = subst (λ (n : ℕ). c.args.c < n) (sym (ap (λ t. t.side) c.self.view_is)) c.requires.column_below in
    subst (λ t. Some c.index.result.now ≡ entry_at t.side t.cells c.args.r c.args.c) c.self.view_is
    (entry_there s.side s.values.items s.present c.self.invariant c.args.r c.args.c c.index.result.now row column (sym c.has.ensures ∙ c.if-has.true)
    (slice_get_read s.values.items (length s.values.items) (c.args.r * s.side + c.args.c) c.index.result.now refl
    (place_below s.side s.values.items s.present c.self.invariant c.args.r c.args.c row column) c.index.ensures))

pub returns-else-has : goal.returns-else-has
returns-else-has g c =
    let s = c.self.inside in
    let row = subst (λ (n : ℕ). c.args.r < n) (sym (ap (λ t. t.side) c.self.view_is)) c.requires.row_below in
    let column = subst (λ (n : ℕ). c.args.c < n) (sym (ap (λ t. t.side) c.self.view_is)) c.requires.column_below in
    subst (λ t. None ≡ entry_at t.side t.cells c.args.r c.args.c) c.self.view_is
    (entry_absent s.side s.values.items s.present c.self.invariant c.args.r c.args.c row column (sym c.has.ensures ∙ c.if-has.false))
