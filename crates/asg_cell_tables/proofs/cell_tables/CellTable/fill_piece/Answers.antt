use Rattle.asg_cell_tables.proofs.Common.{ℕ, ◌-◌, ◌*◌, ◌<◌, sym, ap, ◌∙◌, subst, arith, word_count, CellTable, table_at, is_present_at, stored_cells, FillsPiece, labelled_cell, is_labelled_within, Whole}
use Rattle.asg_cell_tables.proofs.TableLemmas.{is_table}
use Rattle.asg_cell_tables.proofs.RowLemmas.{stored_piece, labelled_piece, labelled_bits, fills_piece, fills_present, piece_enough}
use Rattle.asg_cell_tables.proofs.cell_tables.CellTable.fill_piece.Goals as goal

pub write_piece-word-requires-clause-near : goal.write_piece-word-requires-clause-near
write_piece-word-requires-clause-near g c =
    let side = sym (ap (λ t. t.side) c.self.view_is) in
    let number = subst (λ (n : ℕ). c.args.number < word_count n) side c.requires.number_below in
    omega (arith, number, c.self.invariant.few)

pub invariant_of-self : goal.invariant_of-self
invariant_of-self g c =
    let s = c.self.inside in
    let side = sym (ap (λ t. t.side) c.self.view_is) in
    let row = subst (λ (n : ℕ). c.args.r < n) side c.requires.row_below in
    let number = subst (λ (n : ℕ). c.args.number < word_count n) side c.requires.number_below in
    let piece = c.write_piece-word.ensures.piece in
    (stored_piece s.side s.values.items c.write_piece-word.new.values.items s.present c.put_word.new.self c.self.invariant c.args.r c.args.number c.write_piece-word.result c.min-end.result c.args.columns.now.labels.now piece.piece row number (c.requires.count ∙ side) c.min-end.ensures piece.count_is c.put_word.ensures piece.written).0

pub returns-clause-table : goal.returns-clause-table
returns-clause-table g c =
    let s = c.self.inside in
    is_table s.side c.write_piece-word.new.values.items c.put_word.new.self (invariant_of-self g c)

pub returns-clause-piece : goal.returns-clause-piece
returns-clause-piece g c entered enters =
    let s = c.self.inside in
    let side = sym (ap (λ t. t.side) c.self.view_is) in
    let row = subst (λ (n : ℕ). c.args.r < n) side c.requires.row_below in
    let number = subst (λ (n : ℕ). c.args.number < word_count n) side c.requires.number_below in
    let piece = c.write_piece-word.ensures.piece in
    let columns = c.args.columns.now.labels.now in
    let first = 64 * c.args.number in
    let cell = labelled_cell c.args.inst.now c.args.free entered c.args.row in
    let puts = (stored_piece s.side s.values.items c.write_piece-word.new.values.items s.present c.put_word.new.self c.self.invariant c.args.r c.args.number c.write_piece-word.result c.min-end.result columns piece.piece row number (c.requires.count ∙ side) c.min-end.ensures piece.count_is c.put_word.ensures piece.written).1 in
    let Table = CellTable g.row.V.Denot in
    let after : Table = record { side = s.side; cells = stored_cells s.side c.write_piece-word.new.values.items c.put_word.new.self } in
    subst (λ (t : Table). FillsPiece t.side (table_at t) (table_at after) c.args.r c.args.number columns cell) c.self.view_is
    (fills_piece (record { side = s.side; cells = stored_cells s.side s.values.items s.present }) after c.args.r c.args.number columns cell piece.piece c.write_piece-word.result _
    (piece_enough s.side c.args.number c.min-end.result columns (c.requires.count ∙ side) c.min-end.ensures)
    puts
    (labelled_piece (c.min-end.result - first) first columns cell piece.piece c.write_piece-word.result (piece.holds entered enters)))

pub returns-clause-present : goal.returns-clause-present
returns-clause-present g c =
    let s = c.self.inside in
    let side = sym (ap (λ t. t.side) c.self.view_is) in
    let row = subst (λ (n : ℕ). c.args.r < n) side c.requires.row_below in
    let number = subst (λ (n : ℕ). c.args.number < word_count n) side c.requires.number_below in
    let piece = c.write_piece-word.ensures.piece in
    let columns = c.args.columns.now.labels.now in
    let first = 64 * c.args.number in
    let has = is_labelled_within c.args.inst.now Whole c.args.row in
    let puts = (stored_piece s.side s.values.items c.write_piece-word.new.values.items s.present c.put_word.new.self c.self.invariant c.args.r c.args.number c.write_piece-word.result c.min-end.result columns piece.piece row number (c.requires.count ∙ side) c.min-end.ensures piece.count_is c.put_word.ensures piece.written).1 in
    let Table = CellTable g.row.V.Denot in
    let after : Table = record { side = s.side; cells = stored_cells s.side c.write_piece-word.new.values.items c.put_word.new.self } in
    subst (λ (t : Table). FillsPiece t.side (is_present_at t) (is_present_at after) c.args.r c.args.number columns has) c.self.view_is
    (fills_present (record { side = s.side; cells = stored_cells s.side s.values.items s.present }) after c.args.r c.args.number columns has piece.piece c.write_piece-word.result _
    (piece_enough s.side c.args.number c.min-end.result columns (c.requires.count ∙ side) c.min-end.ensures)
    (omega (arith, piece.count_is))
    puts
    (labelled_bits (c.min-end.result - first) first columns has c.write_piece-word.result c.write_piece-word.ensures.present))
