use Rattle.asg_check.proofs.Common.{sym, ap, ◌∙◌, subst, IsWrittenAs, SpellChoice}
use Rattle.asg_check.proofs.RankedTold.{count_more, written_more}
use Rattle.asg_check.proofs.ranked_answers.read_choices.Goals as goal

pub spelled_choice-requires-clause-spelled : goal.spelled_choice-requires-clause-spelled
spelled_choice-requires-clause-spelled c =
    subst (SpellChoice c.args.inst.now) (sym c.as_slice.ensures.items) (c.requires.each c.loop-place.place c.index-answers-place.result c.loop-place-test.true)

-- the choice that the next answer spells is added to those of the answers before it
pub loop-place-preserved : goal.loop-place-preserved
loop-place-preserved c =
    let X = c.args.inst.now in
    let answers = c.args.answers.now in
    let n = c.loop-place.place in
    let choices = c.loop-place.choices in
    let w = c.loop-place.invariant in
    let answer = c.index-answers-place.result in
    let within = c.loop-place-test.true in
    let at = c.index-answers-place.is in
    let choice = c.in_ok-choice.choice in
    let chosen = subst (λ cells. IsWrittenAs X cells choice) (c.as_slice.ensures.items ∙ ap (λ a. a.cells) (sym at)) c.in_ok-choice.ensures in
    rw c.in_ok-choices-2.ensures
    (count_more X answers n choices w.0 w.1 answer choice within at chosen, written_more X answers n choices w.0 w.1 answer choice within at chosen)
