use Rattle.asg_check.proofs.Common.{◌≡◌, ◌&&◌, ◌≢◌, sym, ◌∙◌, arith, rules, IfOk-weaker, answers_form, is_command_of, takes_claim, Stands, StandsAgainst, Tells, claim_reasons, reasons_in_order}
use Rattle.asg_check.proofs.Certified.{left_of, of_other, of_wrong_form, right_of, to_claim}
use Rattle.asg_check.proofs.checker.document_verdict.Goals as goal

pub returns-then-ne : goal.returns-then-ne
returns-then-ne c =
    let other : c.args.doc.now.objective ≢ c.args.objective = search rules in
    of_other c.args.objective c.args.inst.now c.args.form c.args.doc.now c.verdict.result other c.verdict.ensures

pub returns-then-not-has_form : goal.returns-then-not-has_form
returns-then-not-has_form c =
    let same : c.args.doc.now.objective ≡ c.args.objective = grind arith in
    of_wrong_form c.args.objective c.args.inst.now c.args.form c.args.doc.now c.verdict-then-not-has_form.result
    same (sym c.has_form.ensures ∙ c.if-not-has_form.true) c.verdict-then-not-has_form.ensures

pub claim_verdict-requires-clause-answers : goal.claim_verdict-requires-clause-answers
claim_verdict-requires-clause-answers c =
    let form = c.args.form in
    let document = c.args.doc.now in
    left_of (answers_form form document.claim) (takes_claim c.args.objective document.claim)
    (right_of (is_command_of form document.command) (answers_form form document.claim && takes_claim c.args.objective document.claim) (sym c.has_form.ensures ∙ c.if-not-has_form.false))

pub claim_verdict-requires-clause-takes : goal.claim_verdict-requires-clause-takes
claim_verdict-requires-clause-takes c =
    let form = c.args.form in
    let document = c.args.doc.now in
    right_of (answers_form form document.claim) (takes_claim c.args.objective document.claim)
    (right_of (is_command_of form document.command) (answers_form form document.claim && takes_claim c.args.objective document.claim) (sym c.has_form.ensures ∙ c.if-not-has_form.false))

pub returns : goal.returns
returns c =
    let objective = c.args.objective in
    let X = c.args.inst.now in
    let document = c.args.doc.now in
    let same : document.objective ≡ objective = grind arith in
    IfOk-weaker c.claim_verdict.result (Tells (StandsAgainst objective X document.claim) claim_reasons) (Tells (Stands objective X c.args.form document) reasons_in_order)
    (λ verdict told. to_claim objective X c.args.form document verdict same (sym c.has_form.ensures ∙ c.if-not-has_form.false) told)
    c.claim_verdict.ensures
