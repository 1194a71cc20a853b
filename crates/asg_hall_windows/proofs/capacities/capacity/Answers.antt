use Rattle.asg_hall_windows.proofs.Common.{IsMarked, ◌<◌, ◌≤◌, IsTrue, List, length, get_or, subst, arith, sum_by, false, Column, is_reached, reached_part, no_column}
use Rattle.asg_hall_windows.proofs.CellLemmas.{usable_there}
use Rattle.asg_values.specs.laws.Elements.{sum_by-enumerate_more, take-enumerate_all, part-le}
use Rattle.asg_hall_windows.proofs.capacities.capacity.Goals as goal

pub loop-place-preserved : goal.loop-place-preserved
loop-place-preserved c =
    let X = c.args.inst.now in
    let place = c.loop-place.place in
    let columns = c.columns-columns.ensures.columns in
    let within : place < length X.columns = rw columns at c.loop-place-test.true in
    let column = get_or X.columns place no_column in
    let here = subst (λ (list : List Column). IsTrue (get_or list place no_column).usable → IsMarked c.args.reached.now place c.args.window → (get_or list place no_column).cap ≤ c.part_of-total.result) columns c.part_of-total.ensures.whole in
    let few = subst (λ (list : List Column). c.part_of-total.result ≤ (get_or list place no_column).cap) columns c.part_of-total.ensures.bound in
    let small = (c.columns-columns.ensures.instance.well_formed.capacities place no_column within).1 in
    record {
      whole = λ band ids marked.
          let step = sum_by-enumerate_more (reached_part X band ids) X.columns place no_column within in
          let part = part-le (is_reached X band ids place) column.cap c.part_of-total.result
          (λ reached. let both = marked place within reached in here (usable_there X place no_column both.0) both.1) in
          rw step (omega (arith, c.loop-place.invariant.whole band ids marked, part));
      bound = omega (arith, few, small, c.loop-place.invariant.bound);
    }

pub returns-clause-whole : goal.returns-clause-whole
returns-clause-whole c band ids marked =
    let X = c.args.inst.now in
    subst (λ list. sum_by (reached_part X band ids) list ≤ c.loop-place.total)
    (take-enumerate_all X.columns c.loop-place.place (rw c.columns-columns.ensures.columns at c.loop-place-test.false))
    (c.loop-place.invariant.whole band ids marked)
