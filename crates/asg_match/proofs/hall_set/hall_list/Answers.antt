use Rattle.asg_match.proofs.Common.{◌≤◌, length, sym, ap, subst, arith, length-take, IfOk-weaker, GivesHallSets}
use Rattle.asg_match.proofs.hall_set.hall_list.Goals as goal

pub slice_bounds-ids-end : goal.slice_bounds-ids-end
slice_bounds-ids-end g c = omega (arith, c.hall_of-count.ensures.few, c.rows-rows.ensures.instance.well_formed.few_rows)

pub slice_bounds-from_slice-end : goal.slice_bounds-from_slice-end
slice_bounds-from_slice-end g c =
    let upto : c.hall_of-count.result ≤ length c.hall_of-count.new.out = omega (arith, c.hall_of-count.ensures.few, c.rows-rows.ensures.instance.well_formed.few_rows) in
    omega (arith, upto, length-take c.hall_of-count.result c.hall_of-count.new.out)

pub returns-clause-few : goal.returns-clause-few
returns-clause-few g c =
    IfOk-weaker c.from_slice.result _ _
    (λ ids same. omega (arith, ap length same, length-take c.hall_of-count.result c.hall_of-count.new.out, c.hall_of-count.ensures.few))
    c.from_slice.ensures.items

pub returns-clause-hall : goal.returns-clause-hall
returns-clause-hall g c =
    IfOk-weaker c.from_slice.result _ _
    (λ ids same. subst (GivesHallSets c.args.inst.now (g.A.Allowed.allows c.args.allowed.now)) (sym same) c.hall_of-count.ensures.hall)
    c.from_slice.ensures.items
