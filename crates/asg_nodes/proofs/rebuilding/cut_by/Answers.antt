use Rattle.asg_nodes.proofs.Common.{◌≡◌, ◌-◌, ◌<◌, [], length, get_or, sym, ap, ◌∙◌, subst, arith, All-get_or, get_or_default, LosesCells, answer_in, keeps_cell, answer_at}
use Rattle.asg_nodes.proofs.rebuilding.cut_by.Goals as goal

pub cut_branch-requires-clause-over : goal.cut_branch-requires-clause-over
cut_branch-requires-clause-over g c =
    let given = c.args.choices.now in
    let f = c.index-choices-answer.result in
    let is = c.answer_of-answer.ensures in
    let from = c.requires.from in
    let upto = c.requires.upto in
    let below : c.answer_of-answer.result - 1 < length given = omega (arith, is, from, upto) in
    subst (λ h. length h ≡ length c.args.inst.now.rows) (sym c.index-choices-answer.is)
    (All-get_or (λ h. length h ≡ length c.args.inst.now.rows) given (c.answer_of-answer.result - 1) f below c.requires.over)

pub returns : goal.returns
returns g c =
    let given = c.args.choices.now in
    let f = c.index-choices-answer.result in
    let is = c.answer_of-answer.ensures in
    let from = c.requires.from in
    let upto = c.requires.upto in
    let below : answer_in c.args.state - 1 < length given = omega (arith, from, upto) in
    let same : f ≡ answer_at given (answer_in c.args.state) =
    c.index-choices-answer.is ∙ ap (λ k. get_or given (k - 1) f) is ∙ get_or_default given (answer_in c.args.state - 1) f [] below in
    subst (λ h. LosesCells (keeps_cell c.args.inst.now h c.args.branch) c.args.square.now c.cut_branch.new.square) same c.cut_branch.ensures
