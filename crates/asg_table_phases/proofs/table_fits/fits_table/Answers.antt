use Rattle.asg_table_phases.proofs.Common.{sym, ◌∙◌, arith}
use Rattle.asg_table_phases.proofs.AdmittedTables.{fit_admitted}
use Rattle.asg_table_phases.proofs.table_fits.fits_table.Goals as goal

pub returns-clause-admitted : goal.returns-clause-admitted
returns-clause-admitted c = λ yes.
    fit_admitted c.args.objective c.args.inst.now c.rows-rows.ensures.instance c.args.totals.now c.requires.side (c.fit_totals.ensures yes)
    c.one_pass_law.ensures.admitted

pub returns-clause-index : goal.returns-clause-index
returns-clause-index c = λ yes top phases above are.
    let fit = c.fit_totals.ensures yes in
    c.one_pass_law.ensures.index top phases (omega (arith, fit.few, are.sum, above)) ∙ sym are.sum
