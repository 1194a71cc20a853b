use Rattle.asg_check.proofs.Common.{◌≤◌, length, IfOk, IsTrue, sym, subst, answers_form, takes_claim, StandsAgainst, Ranked, Tells, claim_reasons}
use Rattle.asg_check.proofs.RankingStages.{all_placed, some_answer}
use Rattle.asg_check.proofs.claims.claim_verdict.Goals as goal

pub returns-in-Best : goal.returns-in-Best
returns-in-Best c =
    subst (λ claim. IfOk c.answer_verdict.result (Tells (StandsAgainst c.args.objective c.args.inst.now claim) claim_reasons)) (sym c.in-Best.is) c.answer_verdict.ensures

pub ranking_verdict-requires-clause-algebraic : goal.ranking_verdict-requires-clause-algebraic
ranking_verdict-requires-clause-algebraic c = subst (λ claim. IsTrue (takes_claim c.args.objective claim)) c.in-Ranked.is c.requires.takes

pub ranking_verdict-requires-clause-place : goal.ranking_verdict-requires-clause-place
ranking_verdict-requires-clause-place c =
    all_placed c.args.form c.args.objective c.args.inst.now c.in-Ranked.count c.in-Ranked.answers c.in-Ranked.nodes c.requires.asked (subst (λ claim. IsTrue (answers_form c.args.form claim)) c.in-Ranked.is c.requires.answers)

pub ranking_verdict-requires-clause-some : goal.ranking_verdict-requires-clause-some
ranking_verdict-requires-clause-some c =
    subst (λ answers. 1 ≤ length answers) (sym c.as_slice-in-Ranked.ensures)
    (some_answer c.args.form c.in-Ranked.count c.in-Ranked.answers c.in-Ranked.nodes (subst (λ claim. IsTrue (answers_form c.args.form claim)) c.in-Ranked.is c.requires.answers))

pub returns-in-Ranked : goal.returns-in-Ranked
returns-in-Ranked c =
    let objective = c.args.objective in
    let X = c.args.inst.now in
    let told =
    subst (λ answers. IfOk c.ranking_verdict.result (Tells (StandsAgainst objective X (Ranked c.in-Ranked.count answers c.in-Ranked.nodes)) claim_reasons)) c.as_slice-in-Ranked.ensures
    (subst (λ nodes. IfOk c.ranking_verdict.result (Tells (StandsAgainst objective X (Ranked c.in-Ranked.count c.as_slice-in-Ranked.result.now nodes)) claim_reasons)) c.as_slice-in-Ranked-2.ensures.items c.ranking_verdict.ensures) in
    subst (λ claim. IfOk c.ranking_verdict.result (Tells (StandsAgainst objective X claim) claim_reasons)) (sym c.in-Ranked.is) told
