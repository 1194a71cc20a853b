use Rattle.asg_check.proofs.Common.{sym, ap, ◌∙◌, subst, IsWrittenAs}
use Rattle.asg_check.proofs.Reading.{written-read}
use Rattle.asg_check.proofs.written_choices.spelled_choice.Goals as goal

pub returns : goal.returns
returns c =
    let X = c.args.inst.now in
    let cells = c.args.cells.now in
    let spelled = c.requires.spelled in
    let read = c.in_ok-choice.ensures ∙ written-read X cells spelled.0 c.requires.instance spelled.1 in
    subst (IsWrittenAs X cells) (sym (ap (λ r. r.0) read)) spelled.1
