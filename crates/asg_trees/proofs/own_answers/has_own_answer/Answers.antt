use Rattle.asg_trees.proofs.Common.{sym, subst, arith}
use Rattle.asg_trees.proofs.GroupLemmas.{IsNextAnswer, first_is}
use Rattle.asg_trees.proofs.own_answers.has_own_answer.Goals as goal

pub returns : goal.returns
returns c =
    let nodes = c.args.nodes.now in
    let a = c.args.answer in
    let is = subst (IsNextAnswer nodes a) (sym c.first_of.ensures) (c.requires.given.firsts a c.if-number-answers.false) in
    let told = first_is nodes a c.args.n c.first_of.result c.requires.from c.requires.upto c.requires.answer is in (
      λ ok. record {
        from = omega (arith, c.if-number-eq0.false);
        upto = c.if-number-answers.false;
        first = told.0 c.if-first_of-n.false;
        branches = c.has_branches.ensures.0 ok;
      },
      λ has. c.has_branches.ensures.1 has.branches,
    )
