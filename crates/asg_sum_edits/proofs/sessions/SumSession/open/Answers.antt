use Rattle.asg_sum_edits.proofs.Common.{length, replicate, None, ap, ◌∙◌}
use Rattle.asg_sum_edits.proofs.EditedFound.{session_open}
use Rattle.asg_sum_edits.proofs.sessions.SumSession.open.Goals as goal

pub invariant_of-result : goal.invariant_of-result
invariant_of-result c =
    session_open c.args.objective c.args.inst c.is_one_to_one-stands.result c.in_ok-found.found c.requires.narrow c.requires.small c.is_one_to_one-stands.ensures
    (c.in_ok-found.ensures.falls ∙ ap (λ rows. replicate (length rows) 0) c.rows.ensures.rows)
    (c.in_ok-found.ensures.rises ∙ ap (λ columns. replicate (length columns) 0) c.columns.ensures.columns)
    (c.in_ok-found.ensures.choice ∙ ap (λ rows. replicate (length rows) None) c.rows.ensures.rows)
