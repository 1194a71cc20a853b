-- One more id.
use Rattle.asg_values.proofs.Common.{Bool, false, ◌||◌, List, get_or, sym, ap, ◌∙◌, list_any_more, reaches, most_columns}
use Rattle.asg_values.proofs.Slots.{get_or-unmarked}
use Rattle.asg_values.proofs.hall_sets.reached_columns.Goals as goal

pub loop-id-init : goal.loop-id-init
loop-id-init c col within = ap (λ (list : List Bool). get_or list col false) c.no_columns-reached.ensures ∙ get_or-unmarked most_columns col

pub loop-id-preserved : goal.loop-id-preserved
loop-id-preserved c col within =
    let X = c.args.inst.now in
    let ids = c.args.ids.now in
    let i = c.loop-id.id-index in
    let reach = reaches X c.args.band col in
    c.reach_id.ensures col within
    ∙ ap (λ b. b || reach (get_or ids i 0)) (c.loop-id.invariant col within)
    ∙ sym (list_any_more reach ids i 0 c.loop-id-test.true)
