-- A place is below the greatest number of rows.
use Rattle.asg_values.proofs.Common.{◌<◌, length, arith}
use Rattle.asg_values.proofs.hall_sets.counted_place.Goals as goal

pub returns-in-Some-clause-below : goal.returns-in-Some-clause-below
returns-in-Some-clause-below c =
    let there : c.in-Some.row < length c.args.inst.now.rows = rw c.in-Some.is at c.row_place.ensures.there in
    omega (arith, there, c.row_place.ensures.instance.well_formed.few_rows)
