use Rattle.asg_kept.proofs.Common.{ℕ, ◌^◌, true, sym, subst, arith, phase_of, KeepsSums, narrow_top}
use Rattle.asg_kept.proofs.DualPhases.{duals_fit}
use Rattle.asg_kept.proofs.WrittenOut.{out_reduced, out_admitted, after_keeps, after_phase_to}
use Rattle.asg_kept.proofs.sums.DualSquareU128KeptSquareBounded.settle.Goals as goal

pub write_out-requires-clause-fits : goal.write_out-requires-clause-fits
write_out-requires-clause-fits c = λ r k.
    duals_fit c.self.invariant.duals (2 ^ 128) (omega arith) r k

pub settle-requires-clause-reduced : goal.settle-requires-clause-reduced
settle-requires-clause-reduced c =
    out_reduced c.self.invariant c.side.ensures.grid c.write_out.ensures.labels c.write_out.ensures.cells c.self.view_is c.args.m.now.top c.requires.reduced

pub settle-requires-clause-admitted : goal.settle-requires-clause-admitted
settle-requires-clause-admitted c =
    out_admitted c.self.invariant c.side.ensures.grid c.write_out.ensures.labels c.write_out.ensures.cells c.self.view_is c.args.m.now.top c.requires.admitted

pub invariant_of-self : goal.invariant_of-self
invariant_of-self c =
    after_keeps c.self.invariant c.side.ensures.grid c.write_out.ensures.labels c.write_out.ensures.cells c.self.view_is c.write_out.new.rows.items c.write_out.new.columns.items c.write_out.ensures.row_count c.write_out.ensures.column_count c.write_out.ensures.zero_rows c.write_out.ensures.zero_columns c.args.m.now.small c.side-2.ensures.grid c.settle.ensures.phase.labels c.settle.ensures.phase.reduced c.greatest_sum-self-inside.ensures

pub returns-clause-phase : goal.returns-clause-phase
returns-clause-phase c =
    after_phase_to c.self.invariant c.side.ensures.grid c.write_out.ensures.labels c.write_out.ensures.cells c.self.view_is c.write_out.new.rows.items c.write_out.new.columns.items c.write_out.ensures.row_count c.write_out.ensures.column_count c.write_out.ensures.zero_rows c.write_out.ensures.zero_columns c.args.m.now.small c.side-2.ensures.grid c.settle.ensures.phase.labels c.settle.ensures.phase.reduced c.settle.ensures.phase
