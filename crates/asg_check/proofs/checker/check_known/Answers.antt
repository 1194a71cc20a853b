use Rattle.asg_check.proofs.Common.{subst, Stands, Tells, reasons_in_order, No, one_verdict}
use Rattle.asg_check.proofs.Certified.{yes_exactly}
use Rattle.asg_check.proofs.KnownTold.{certified_known}
use Rattle.asg_check.proofs.checker.check_known.Goals as goal

pub returns-clause-exact : goal.returns-clause-exact
returns-clause-exact c = yes_exactly c.decision_law.ensures c.args.objective c.args.inst.now c.rows.ensures.instance c.args.form c.args.doc.now c.in_ok-verdict.verdict c.in_ok-verdict.ensures

pub returns-clause-reason : goal.returns-clause-reason
returns-clause-reason c = λ number place.
    let Against = Stands c.args.objective c.args.inst.now c.args.form c.args.doc.now in (
      λ same. record { told = subst (Tells Against reasons_in_order) same c.in_ok-verdict.ensures },
      λ first. one_verdict Against reasons_in_order c.in_ok-verdict.verdict (No number place) c.in_ok-verdict.ensures first.told,
    )

pub returns-clause-sound : goal.returns-clause-sound
returns-clause-sound c = λ same. c.soundness_law.ensures c.args.objective c.args.inst.now c.args.form c.args.doc.now c.rows.ensures.instance c.requires.passes c.requires.asked
    ((yes_exactly c.decision_law.ensures c.args.objective c.args.inst.now c.rows.ensures.instance c.args.form c.args.doc.now c.in_ok-verdict.verdict c.in_ok-verdict.ensures).0 same)

pub returns-clause-known : goal.returns-clause-known
returns-clause-known c = λ same. certified_known c.args.objective c.args.inst.now c.args.form c.args.doc.now
    ((yes_exactly c.decision_law.ensures c.args.objective c.args.inst.now c.rows.ensures.instance c.args.form c.args.doc.now c.in_ok-verdict.verdict c.in_ok-verdict.ensures).0 same)
