use Rattle.asg_check.proofs.Common.{sym, subst}
use Rattle.asg_check.proofs.KnownTold.{proves_told}
use Rattle.asg_verdicts.specs.PhaseReasons.{AreAdmittedFor}
use Rattle.asg_check.proofs.known_phases.known_phases_verdict.Goals as goal

pub prove-requires-clause-admitted : goal.prove-requires-clause-admitted
prove-requires-clause-admitted c = subst (AreAdmittedFor c.args.objective c.args.inst.now) (sym (c.are_same.ensures c.if-not-are_same.false)) (c.requires.known c.requires.algebraic)

pub returns : goal.returns
returns c = proves_told c.args.objective c.args.inst.now c.args.choice.now c.args.phases.now (c.in_ok-prove.ensures c.if-not-branch.false)
