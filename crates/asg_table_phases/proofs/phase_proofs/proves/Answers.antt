use Rattle.asg_table_phases.proofs.Common.{IfSome, Option, sym, ◌∙◌, subst, arith, admitted_values, square_side, bounded_sums, bounded_difference, sum_entered, AreTotals, Totals, square_cell, AreSized}
use Rattle.std.specs.Prelude.{◌^◌}
use Rattle.asg_table_phases.specs.TableRows.{bound_of}
use Rattle.asg_table_phases.proofs.ProvedChoices.{bound_small, few_phases, proves_choice}
use Rattle.asg_table_phases.proofs.phase_proofs.proves.Goals as goal

pub returns-clause-proved : goal.returns-clause-proved
returns-clause-proved c = λ yes.
    let phases = c.args.phases.now in
    let are = subst (λ (found : Option Totals). IfSome found (AreTotals phases)) c.in-Some.is c.in_ok-totals.ensures.totals in
    proves_choice c.lesser_tops_law.ensures.folds (bound_of c.args.objective) c.args.objective c.requires.objective c.args.inst.now c.args.choice.now phases c.sum.result
    (λ top above. c.fits_table.ensures.admitted c.if-not-fits_table.false top phases above are)
    (λ top above. c.fits_table.ensures.index c.if-not-fits_table.false top phases above are ∙ sym c.sum.ensures)
    (c.adds_up_to.ensures.few yes) (c.adds_up_to.ensures.sum yes)

pub returns-clause-few : goal.returns-clause-few
returns-clause-few c = λ _.
    let X = c.args.inst.now in
    let phases = c.args.phases.now in
    let are = subst (λ (found : Option Totals). IfSome found (AreTotals phases)) c.in-Some.is c.in_ok-totals.ensures.totals in
    few_phases (bound_of c.args.objective) (square_side X) phases (square_cell X 0 (sum_entered c.args.objective))
    (c.fits_table.ensures.admitted c.if-not-fits_table.false (bound_of c.args.objective) phases (omega arith) are)
    (subst (λ n. AreSized n phases) c.side-side.ensures.side (c.are_sized.ensures c.if-not-are_sized.false))

pub returns-clause-values : goal.returns-clause-values
returns-clause-values c = λ _.
    let X = c.args.inst.now in
    let phases = c.args.phases.now in
    let are = subst (λ (found : Option Totals). IfSome found (AreTotals phases)) c.in-Some.is c.in_ok-totals.ensures.totals in
    admitted_values (bounded_sums (2 ^ 120)) bounded_difference (square_side X) phases (square_cell X 0 (sum_entered c.args.objective))
    (c.fits_table.ensures.admitted c.if-not-fits_table.false (2 ^ 120) phases (bound_small c.args.objective) are)
