use Rattle.asg_kept_cells.proofs.Common.{◌*◌, sym, ◌∙◌, arith, HasSide-cell_at}
use Rattle.asg_kept_cells.proofs.CellLemmas.{inside, row_more, row_none, row_whole}
use Rattle.asg_kept_cells.proofs.taking_out.take_out_row.Goals as goal

pub words-init : goal.words-init
words-init g c = row_none c.args.kept.now c.args.row c.args.square.now

pub unkept_columns-word-requires-clause-size : goal.unkept_columns-word-requires-clause-size
unkept_columns-word-requires-clause-size g c =
    let side = c.words.invariant.labels.side in
    record { rows = c.requires.size.rows ∙ sym side; columns = c.requires.size.columns ∙ sym side }

pub take_out_bits-requires-clause-inside : goal.take_out_bits-requires-clause-inside
take_out_bits-requires-clause-inside g c = λ k low has.
    let Q = c.args.square.now in
    let l = c.words in
    let within = inside c.args.kept.now c.args.row Q l.number c.unkept_columns-word.result l.square l.invariant c.unkept_columns-word.ensures Q.side (HasSide-cell_at Q c.side-side.ensures.grid) k low has in
    omega (arith, within, l.invariant.labels.side)

pub words-preserved : goal.words-preserved
words-preserved g c =
    let l = c.words in
    row_more c.args.kept.now c.args.row c.args.square.now l.number c.unkept_columns-word.result l.square l.invariant c.unkept_columns-word.ensures c.take_out_bits.new.square c.take_out_bits.ensures

pub returns : goal.returns
returns g c =
    let Q = c.args.square.now in
    let l = c.words in
    row_whole c.args.kept.now c.args.row Q (64 * l.number) Q.side l.square (HasSide-cell_at Q c.side-side.ensures.grid) (omega (arith, c.words-test.false, c.side-side.ensures.side)) l.invariant
