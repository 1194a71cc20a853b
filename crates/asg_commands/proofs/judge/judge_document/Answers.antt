use Rattle.asg_commands.proofs.Common.{◌+◌, sym, ap, ◌∙◌, subst, to_z-of_z, no_text, HasText, w64}
use Rattle.asg_check.specs.KnownPhases.{AreKnown}
use Rattle.asg_commands.proofs.JudgeLemmas.{judges_certified, judges_denied}
use Rattle.asg_commands.proofs.ReasonPlaces.{place_fits}
use Rattle.asg_commands.proofs.judge.judge_document.Goals as goal

pub returns-in-Yes-clause-judged : goal.returns-in-Yes-clause-judged
returns-in-Yes-clause-judged c = λ instances.
    let objective = c.args.job.now.objective in
    let X = c.args.inst.now in
    let document = c.index-documents-count.result in
    let certifies = c.in_ok-check_known.ensures.exact.0 c.in-Yes.is in
    judges_certified objective c.args.form c.args.count X instances c.args.documents.now document c.requires.within c.index-documents-count.is certifies (c.in_ok-check_known.ensures.sound c.in-Yes.is)

pub returns-in-Yes-clause-known : goal.returns-in-Yes-clause-known
returns-in-Yes-clause-known c = λ _.
    subst (AreKnown c.args.job.now.objective c.args.inst.now) (sym c.phases_of-phases.ensures) (c.in_ok-check_known.ensures.known c.in-Yes.is)

pub returns-in_ok-denied-in-No-clause-judged : goal.returns-in_ok-denied-in-No-clause-judged
returns-in_ok-denied-in-No-clause-judged c = λ instances.
    let objective = c.args.job.now.objective in
    let X = c.args.inst.now in
    let document = c.index-documents-count.result in
    let first = (c.in_ok-check_known.ensures.reason _ _).0 c.in-No.is in
    let has_text = subst HasText (sym c.index-documents-count.is) (c.requires.text c.args.count document c.requires.within) in
    let fits = place_fits _ _ _ _ _ _ c.rows-rows.ensures.instance has_text first in
    let says = c.in_ok-denied-in-No.ensures in
    judges_denied objective c.args.form c.args.count X instances c.args.documents.now document c.requires.within c.index-documents-count.is c.in-No.reason c.in-No.place c.in_ok-denied-in-No.denied
    (λ certifies. let yes_too = c.in_ok-check_known.ensures.exact.1 certifies in cc)
    first
    (says.0, sym (ap (no_text (c.args.count + 1) c.in-No.reason) (to_z-of_z w64 c.in-No.place fits)) ∙ says.1)
