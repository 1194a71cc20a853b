use Rattle.asg_window.proofs.Common.{sym, subst, arith, ShowLeast}
use Rattle.asg_window.proofs.ProofLemmas.{ProvesSpread-windows, grades_in_chain}
use Rattle.asg_window.proofs.outcomes.needed_windows.Goals as goal

pub windows_of-requires-clause-gaps : goal.windows_of-requires-clause-gaps
windows_of-requires-clause-gaps c =
    let X = c.args.inst.now in
    let Q = c.args.cells.now.square.now in
    let l = c.requires.least in (
      l.low,
      subst (λ gaps. ShowLeast Q gaps l.low c.args.least.now.spread) (sym c.as_slice-gaps.ensures.value) l.gaps,
      grades_in_chain X Q c.rows-rows.ensures.instance c.requires.square c.args.cells.now.entries.now c.requires.entries c.args.grades.now c.requires.grades c.args.least.now l (omega arith),
    )

pub returns-clause-proof : goal.returns-clause-proof
returns-clause-proof c =
    ProvesSpread-windows c.args.inst.now c.args.cells.now.square.now c.rows-rows.ensures.instance c.requires.square c.args.cells.now.entries.now c.requires.entries c.args.grades.now c.requires.grades c.in_ok-windows.windows.items c.args.least.now.spread c.in_ok-windows.ensures.halls c.in_ok-windows.ensures.held
