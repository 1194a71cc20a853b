use Rattle.asg_cell_tables.proofs.Common.{ℕ, ◌<◌, is_some, sym, ap, subst, AreWordsOf, entry_at}
use Rattle.asg_cell_tables.proofs.TableLemmas.{words_of_row}
use Rattle.asg_cell_tables.proofs.cell_tables.CellTable.row_words.Goals as goal

pub returns : goal.returns
returns g c =
    let s = c.self.inside in
    let row = subst (λ (n : ℕ). c.args.r < n) (sym (ap (λ t. t.side) c.self.view_is)) c.requires in
    subst (λ t. AreWordsOf (λ k. is_some (entry_at t.side t.cells c.args.r k)) t.side c.row.result.now) c.self.view_is
    (words_of_row s.side s.values.items s.present c.self.invariant c.args.r c.row.result.now row c.row.ensures.table c.row.ensures.words)
