use Rattle.asg_square.proofs.Common.{◌<◌, ◌≤◌, false, length, option_map, sym, ap, ◌∙◌, arith, slice_get-get_or, slice_get_past, label_in, label_past}
use Rattle.asg_model.specs.declared.parts.Column.{Column}
use Rattle.asg_square.proofs.labels.run_of.Goals as goal

pub returns-then-c-first-clause-label : goal.returns-then-c-first-clause-label
returns-then-c-first-clause-label c =
    let X = c.args.inst.now in
    let d = c.loop-place.place in
    let i = c.loop-place.invariant in
    let columns = c.columns-columns.ensures.columns in
    let within : d < length X.columns = rw columns at c.loop-place-test.true in
    let below = rw columns at c.if-c-first.true in
    let none : Column = record { id = 0; cap = 0; usable = false } in
    label_in X d c.args.c none within (omega (arith, i.1, i.2)) (omega (arith, below, i.1))
    ∙ sym (ap (option_map (λ (column : Column). d)) (slice_get-get_or X.columns d none within))

pub returns-clause-label : goal.returns-clause-label
returns-clause-label c =
    let X = c.args.inst.now in
    let i = c.loop-place.invariant in
    let columns = c.columns-columns.ensures.columns in
    let count = length c.columns-columns.result.now in
    let past : length X.columns ≤ c.loop-place.place = rw columns at c.loop-place-test.false in
    label_past X c.loop-place.place c.args.c past (omega (arith, i.1, i.2))
    ∙ sym (ap (option_map (λ (column : Column). count)) (slice_get_past X.columns count (omega (arith, ap length columns))))
