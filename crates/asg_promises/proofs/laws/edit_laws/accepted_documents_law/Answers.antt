use Rattle.asg_promises.proofs.Common.{length, sym, subst, yes_text, Done, DueForAsked, files_of, MayHoldAll}
use Rattle.asg_promises.proofs.EditLaws.{accepted_documents}
use Rattle.asg_promises.proofs.StageLaws.{job_due}
use Rattle.asg_promises.proofs.laws.edit_laws.accepted_documents_law.Goals as goal

pub returns : goal.returns
returns c = λ editing checking told later text script says answer edit check is whole edits due is_check checks alike within same_file same_script written.
    let own = job_due editing told Done text edit is due in
    let found = accepted_documents told later edit check text script says answer own.0 whole edits own.1 own.2 checks alike within same_file same_script written in
    (found.0, found.1, found.2, (found.3, subst (λ a. MayHoldAll later (files_of a) found.3) (sym is_check) found.4, subst (λ a. DueForAsked a found.3 Done (yes_text (length found.0))) (sym is_check) found.5))
