use Rattle.asg_match.proofs.Common.{◌<◌, slice_get, Some, None, option_map, sym, ap, ◌∙◌, subst, square_side, option_and_then}
use Rattle.asg_match.proofs.HallSteps.{label_read}
use Rattle.asg_match.proofs.hall_set.id_of.Goals as goal

pub returns-in-Some : goal.returns-in-Some
returns-in-Some g c =
    let X = c.args.inst.now in
    let below : c.args.r < square_side X = subst (λ n. c.args.r < n) c.requires.labels.side c.requires.below in
    let label = label_read X c.args.square.now.row_labels (square_side X) c.args.r (Some c.in-Some.place) c.requires.labels.row_labels below c.in-Some.ensures in
    c.row_id.ensures
    ∙ sym (ap (option_and_then (λ k. option_map (λ row. row.id) (slice_get X.rows k))) label)

pub returns-in-None : goal.returns-in-None
returns-in-None g c =
    let X = c.args.inst.now in
    let below : c.args.r < square_side X = subst (λ n. c.args.r < n) c.requires.labels.side c.requires.below in
    let label = label_read X c.args.square.now.row_labels (square_side X) c.args.r None c.requires.labels.row_labels below c.in-None.ensures in
    sym (ap (option_and_then (λ k. option_map (λ row. row.id) (slice_get X.rows k))) label)
