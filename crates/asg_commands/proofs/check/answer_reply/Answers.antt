use Rattle.asg_commands.proofs.Common.{◌≡◌, IfOk, sym, refl, ap, ◌∙◌, subst, Answers, refused_document_text, Document, texts_of, DueToCheck, NotRead, solved_instances}
use Rattle.asg_commands.proofs.ReplyLemmas.{replied}
use Rattle.asg_commands.proofs.check.answer_reply.Goals as goal

pub returns-in-Ok : goal.returns-in-Ok
returns-in-Ok c =
    let instances = solved_instances c.args.inst c.args.lines.now in
    let same : texts_of c.deref.result.now ≡ c.args.answer.now = ap texts_of c.deref.ensures.value ∙ sym c.in-Ok.ensures.read.1 in
    subst (λ bytes. IfOk c.documents_reply.result (Answers (DueToCheck c.args.job.now.objective c.args.form instances bytes))) same c.documents_reply.ensures

pub returns-in-Err-Line : goal.returns-in-Err-Line
returns-in-Err-Line c =
    let instances = solved_instances c.args.inst c.args.lines.now in
    let refusal = rw c.in-Err-Line.field-0-is at c.in-Err-Line.ensures.line in
    let told = rw c.in-Err-Line.field-0-is at c.refusal.ensures in
    replied (DueToCheck c.args.job.now.objective c.args.form instances c.args.answer.now) Document (refused_document_text c.in-Err-Line.line) c.refusal.result (NotRead c.in-Err-Line.line refusal.0 refusal.1 refl refl) told
