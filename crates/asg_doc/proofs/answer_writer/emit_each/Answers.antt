use Rattle.asg_doc.proofs.Common.{codes, sym, ap, subst, HasAnswerText, ended, answer_lines_behind, Wrote-append, Wrote-as, Wrote-nothing}
use Rattle.asg_doc.proofs.ListTexts.{lines_more}
use Rattle.asg_doc.proofs.answer_writer.emit_each.Goals as goal

pub answers-init : goal.answers-init
answers-init g c = Wrote-nothing _ _ _ _

pub answers-preserved : goal.answers-preserved
answers-preserved g c =
    Wrote-as (lines_more (answer_lines_behind (codes "answer")) c.args.answers.now c.answers.answer-index c.answer-item.result c.answers-test.true)
    (Wrote-append c.answers.invariant (Wrote-as (ap (λ answer. ended (answer_lines_behind (codes "answer") answer)) c.answer-item.is) c.emit_answer.ensures))

pub emit_answer-requires : goal.emit_answer-requires
emit_answer-requires g c =
    (c.requires.0, subst (HasAnswerText c.requires.0) (sym c.answer-item.is) (c.requires.1 c.answers.answer-index c.answer-item.result c.answers-test.true))
