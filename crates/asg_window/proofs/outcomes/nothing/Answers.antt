use Rattle.asg_window.proofs.Common.{refl, Whole, first_part_in_range, no_bound}
use Rattle.asg_window.proofs.SquareBands.{AllowsCells-within, IsBandOf-whole}
use Rattle.asg_window.proofs.outcomes.nothing.Goals as goal

pub returns-clause-outcome : goal.returns-clause-outcome
returns-clause-outcome c =
    let X = c.args.inst.now in
    c.in_ok-rows.ensures X Whole refl refl refl
    (AllowsCells-within 1 no_bound Whole IsBandOf-whole X (first_part_in_range X c.rows-rows.ensures.instance) c.args.square.now c.requires.square)
