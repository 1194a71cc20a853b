use Rattle.asg_branching.proofs.Common.{◌≤◌, length, sym, arith, length-take-le}
use Rattle.asg_branching.proofs.child_nodes.write_hall.Goals as goal

pub slice_bounds-push-end : goal.slice_bounds-push-end
slice_bounds-push-end g c = omega (arith, c.hall_of-count.ensures.few, c.rows-rows.ensures.instance.well_formed.few_rows)

pub slice_bounds-push-end-2 : goal.slice_bounds-push-end-2
slice_bounds-push-end-2 g c =
    let upto : c.hall_of-count.result ≤ length c.hall_of-count.new.out = omega (arith, c.hall_of-count.ensures.few, c.rows-rows.ensures.instance.well_formed.few_rows) in
    sym (length-take-le c.hall_of-count.result c.hall_of-count.new.out upto)
