use Rattle.asg_answers.proofs.Common.{◌+◌, take, sym, subst, AreAnswersOf}
use Rattle.asg_answers.proofs.RankedAnswers.{AreAnswersOf-more, IsAnswerOf}
use Rattle.asg_answers.proofs.documents.listed_answers.Goals as goal

pub choices-preserved : goal.choices-preserved
choices-preserved c =
    let objective = c.args.objective in
    let X = c.args.inst.now in
    let choices = c.args.choices.now in
    let told = c.in_ok-answer.ensures in
    let one : IsAnswerOf objective X c.index-choices-place.result c.in_ok-answer.field-0 = record {
      cells = told.cells;
      value = told.value;
      text = record { value = told.value_text; cells = told.cells_text };
    } in
    subst (AreAnswersOf objective X (take (c.choices.place + 1) choices)) (sym c.in_ok-push.ensures.items)
    (AreAnswersOf-more objective X choices c.choices.place c.choices.answers.items c.index-choices-place.result c.in_ok-answer.field-0 c.choices-test.true c.index-choices-place.is c.choices.invariant one)
