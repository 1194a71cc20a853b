use Rattle.asg_doc_reader.proofs.Common.{subst, tree_part, Halts, IsRead, Halts-first, Halts-second, IsRead-both, ReadsOrFails-err}
use Rattle.asg_doc_reader.proofs.RankingParts.{answers_tree}
use Rattle.asg_doc_reader.proofs.ranking_reader.ranked.Goals as goal

pub returns-in_err-answers : goal.returns-in_err-answers
returns-in_err-answers c = ReadsOrFails-err c.from_residual.result c.from_residual.ensures.1 (Halts-first (answers_tree c.args.objective) c.in_err-answers.ensures)

pub returns-in_err-nodes : goal.returns-in_err-nodes
returns-in_err-nodes c = ReadsOrFails-err c.from_residual-in_err-nodes.result c.from_residual-in_err-nodes.ensures.1
    (Halts-second (answers_tree c.args.objective) c.in_ok-answers.ensures
    (subst (λ graded. Halts (tree_part graded) c.answers.new.lines c.tree.new.lines c.in_err-nodes.field-0.0) c.has_grades.ensures c.in_err-nodes.ensures))

pub returns : goal.returns
returns c = IsRead-both (answers_tree c.args.objective) c.in_ok-answers.ensures
    (subst (λ graded. IsRead (tree_part graded) c.answers.new.lines c.tree.new.lines c.in_ok-nodes.nodes) c.has_grades.ensures c.in_ok-nodes.ensures)
