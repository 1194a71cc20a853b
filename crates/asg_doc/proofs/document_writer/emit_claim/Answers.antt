use Rattle.asg_doc.proofs.Common.{◌≡◌, ap, arith, common_steps, ended, claim_lines, Nothing, Wrote-as}
use Rattle.asg_doc.proofs.document_writer.emit_claim.Goals as goal

pub returns-in-Nothing : goal.returns-in-Nothing
returns-in-Nothing g c =
    let claim : Nothing c.as_slice.result.now ≡ c.args.claim.now = grind (arith, common_steps) in
    Wrote-as (ap (λ told. ended (claim_lines c.args.objective told)) claim) (c.emit_nothing.ensures c.args.objective)
