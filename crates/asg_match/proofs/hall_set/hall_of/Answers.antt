use Rattle.asg_match.proofs.Common.{◌≢◌, AllPairs, sym, ◌∙◌, subst, IsDeficient, IsHall}
use Rattle.asg_match.proofs.HallIds.{hall_from_short}
use Rattle.asg_match.proofs.HallSteps.{same_ids, same_side, same_range}
use Rattle.asg_match.proofs.hall_set.hall_of.Goals as goal

pub returns-clause-hall : goal.returns-clause-hall
returns-clause-hall g c = λ Y band rows columns place allowed.
    let X = c.args.inst.now in
    let side = c.requires.labels.side ∙ sym (same_side X Y rows columns place) in
    subst (IsHall Y band) (sym (c.write_ids.ensures.ids ∙ sym (same_ids X Y c.args.rows.now rows place)))
    (hall_from_short Y band (g.A.Allowed.allows c.args.allowed.now) c.args.rows.now
    (same_range X Y rows columns place c.rows-rows.ensures.instance.well_formed.place_in_range)
    (subst (λ xs. AllPairs (λ x y. x.id ≢ y.id) xs) (sym rows) c.rows-rows.ensures.instance.well_formed.rows_differ)
    (subst (λ n. IsDeficient (g.A.Allowed.allows c.args.allowed.now) n c.args.rows.now) side c.requires.short)
    allowed)
