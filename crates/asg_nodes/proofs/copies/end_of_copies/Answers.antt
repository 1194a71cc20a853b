use Rattle.asg_nodes.proofs.Common.{length, ap, ◌∙◌, first_copy}
use Rattle.asg_nodes.proofs.CopyLemmas.{end_is}
use Rattle.asg_nodes.proofs.copies.end_of_copies.Goals as goal

pub returns : goal.returns
returns g c =
    let X = c.args.inst.now in
    record { end = c.first_copy.ensures.first X c.requires.labels ∙ ap (λ xs. first_copy X (length xs)) c.columns.ensures.columns ∙ end_is X }
