use Rattle.asg_check.proofs.Common.{◌≤◌, subst, IfOk-weaker, NodesStand, StandsAgainst, Ranked, Tells, node_reasons, proof_reasons}
use Rattle.asg_check.proofs.Certified.{to_nodes}
use Rattle.asg_check.proofs.RankingTold.{as_many}
use Rattle.asg_check.proofs.ranking_verdicts.proof_verdict.Goals as goal

pub nodes_verdict-requires-clause-some : goal.nodes_verdict-requires-clause-some
nodes_verdict-requires-clause-some c =
    subst (λ n. 1 ≤ n) (as_many c.args.inst.now c.requires.instance c.args.answers.now c.in_ok-choices.choices c.in_ok-choices.ensures) c.requires.some

pub returns : goal.returns
returns c =
    let objective = c.args.objective in
    let X = c.args.inst.now in
    let answers = c.args.answers.now in
    let choices = c.in_ok-choices.choices in
    let nodes = c.args.nodes.now in
    IfOk-weaker c.nodes_verdict.result (Tells (NodesStand objective X c.args.count choices nodes) node_reasons) (Tells (StandsAgainst objective X (Ranked c.args.count answers nodes)) proof_reasons)
    (λ verdict told. to_nodes objective X c.requires.instance c.args.count answers nodes choices verdict c.in_ok-choices.ensures told)
    c.nodes_verdict.ensures
