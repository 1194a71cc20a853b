use Rattle.asg_commands.proofs.Common.{sym, refl, ◌∙◌, refused_document_text, Document, texts_of, DueToCheck, Miscounted, Read, DueToJudge, solved_count, solved_instances}
use Rattle.asg_commands.proofs.ReplyLemmas.{owed_as, replied}
use Rattle.asg_commands.proofs.check.documents_reply.Goals as goal

pub returns-then-found-due : goal.returns-then-found-due
returns-then-found-due c =
    let instances = solved_instances c.args.inst c.args.lines.now in
    let documents = c.args.documents.now in
    let objective = c.args.job.now.objective in
    owed_as (DueToJudge objective c.args.form 0 instances documents) (DueToCheck objective c.args.form instances (texts_of documents)) c.verdict.result
    (λ status text owed. Read documents c.requires.text refl (c.if-found-due.true ∙ c.solve_count-due.ensures ∙ sym (solved_count c.args.inst c.args.lines.now)) owed)
    c.verdict.ensures

pub returns-else-found-due : goal.returns-else-found-due
returns-else-found-due c =
    let instances = solved_instances c.args.inst c.args.lines.now in
    let documents = c.args.documents.now in
    replied (DueToCheck c.args.job.now.objective c.args.form instances (texts_of documents)) Document (refused_document_text 0) c.refusal.result
    (Miscounted documents c.requires.text refl (λ same. c.if-found-due.false (same ∙ solved_count c.args.inst c.args.lines.now ∙ sym c.solve_count-due.ensures)) refl refl)
    c.refusal.ensures
