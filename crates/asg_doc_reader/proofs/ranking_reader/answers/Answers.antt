use Rattle.asg_doc_reader.proofs.Common.{Halts-first, Halts-second, Halts-shape, Halts-stops, IsRead-both, IsRead-shape, ReadsOrFails-err}
use Rattle.asg_doc_reader.proofs.RankingParts.{answers_shape, counted_answers}
use Rattle.asg_doc_reader.proofs.ranking_reader.answers.Goals as goal

pub returns-in_err-count : goal.returns-in_err-count
returns-in_err-count c = ReadsOrFails-err c.from_residual.result c.from_residual.ensures.1
    (Halts-shape (answers_shape c.args.objective) (Halts-first (counted_answers c.args.objective) (Halts-stops c.in_err-count.ensures)))

pub returns-in_err-answers : goal.returns-in_err-answers
returns-in_err-answers c = ReadsOrFails-err c.from_residual-in_err-answers.result c.from_residual-in_err-answers.ensures.1
    (Halts-shape (answers_shape c.args.objective) (Halts-second (counted_answers c.args.objective) c.in_ok-count.ensures c.in_err-answers.ensures))

pub returns : goal.returns
unfolding answers_shape
returns c = IsRead-shape (answers_shape c.args.objective) (IsRead-both (counted_answers c.args.objective) c.in_ok-count.ensures c.in_ok-answers.ensures)
