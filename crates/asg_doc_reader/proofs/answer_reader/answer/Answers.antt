use Rattle.asg_doc_reader.proofs.Common.{Halts-first, Halts-second, Halts-shape, Halts-stops, IsRead-both, IsRead-shape, ReadsOrFails-err}
use Rattle.asg_doc_reader.proofs.AnswerParts.{answer_shape, value_cells, counted_cells}
use Rattle.asg_doc_reader.proofs.answer_reader.answer.Goals as goal

pub returns-in_err-value : goal.returns-in_err-value
returns-in_err-value c = ReadsOrFails-err c.from_residual.result c.from_residual.ensures.1
    (Halts-shape (answer_shape c.args.word.now c.args.objective) (Halts-first (value_cells c.args.word.now c.requires c.args.objective) c.in_err-value.ensures))

pub returns-in_err-count : goal.returns-in_err-count
returns-in_err-count c = ReadsOrFails-err c.from_residual-in_err-count.result c.from_residual-in_err-count.ensures.1
    (Halts-shape (answer_shape c.args.word.now c.args.objective) (Halts-second (value_cells c.args.word.now c.requires c.args.objective) c.in_ok-value.ensures (Halts-first counted_cells (Halts-stops c.in_err-count.ensures))))

pub returns-in_err-cells : goal.returns-in_err-cells
returns-in_err-cells c = ReadsOrFails-err c.from_residual-in_err-cells.result c.from_residual-in_err-cells.ensures.1
    (Halts-shape (answer_shape c.args.word.now c.args.objective) (Halts-second (value_cells c.args.word.now c.requires c.args.objective) c.in_ok-value.ensures (Halts-second counted_cells c.in_ok-count.ensures c.in_err-cells.ensures)))

pub returns : goal.returns
unfolding answer_shape
returns c = IsRead-shape (answer_shape c.args.word.now c.args.objective)
    (IsRead-both (value_cells c.args.word.now c.requires c.args.objective) c.in_ok-value.ensures (IsRead-both counted_cells c.in_ok-count.ensures c.in_ok-cells.ensures))
