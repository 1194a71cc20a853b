use Rattle.asg_kept.proofs.Common.{ℕ, ◌^◌, true, sym, subst, arith, phase_of, KeepsSums, narrow_top}
use Rattle.asg_kept.proofs.DualPhases.{duals_fit}
use Rattle.asg_kept.proofs.WrittenOut.{out_reduced, tested, after_keeps, after_phase_to}
use Rattle.asg_kept.proofs.sums.DualSquareU64KeptSquareNarrowSums.replay.Goals as goal

pub write_out-requires-clause-fits : goal.write_out-requires-clause-fits
write_out-requires-clause-fits c = λ r k.
    duals_fit c.self.invariant.duals (2 ^ 64) (omega arith) r k

pub replay_within-is_admitted-requires-clause-reduced : goal.replay_within-is_admitted-requires-clause-reduced
replay_within-is_admitted-requires-clause-reduced c =
    out_reduced c.self.invariant c.side.ensures.grid c.write_out.ensures.labels c.write_out.ensures.cells c.self.view_is narrow_top c.requires.reduced

pub invariant_of-self : goal.invariant_of-self
invariant_of-self c =
    after_keeps c.self.invariant c.side.ensures.grid c.write_out.ensures.labels c.write_out.ensures.cells c.self.view_is c.write_out.new.rows.items c.write_out.new.columns.items c.write_out.ensures.row_count c.write_out.ensures.column_count c.write_out.ensures.zero_rows c.write_out.ensures.zero_columns (omega arith) c.side-2.ensures.grid c.replay_within-is_admitted.ensures.labels c.replay_within-is_admitted.ensures.reduced c.greatest_sum-self-inside.ensures

pub returns-clause-admitted : goal.returns-clause-admitted
returns-clause-admitted c =
    tested c.self.invariant c.side.ensures.grid c.write_out.ensures.labels c.write_out.ensures.cells c.self.view_is narrow_top c.replay_within-is_admitted.ensures.admitted

pub returns-clause-applied : goal.returns-clause-applied
returns-clause-applied c = λ is.
    after_phase_to c.self.invariant c.side.ensures.grid c.write_out.ensures.labels c.write_out.ensures.cells c.self.view_is c.write_out.new.rows.items c.write_out.new.columns.items c.write_out.ensures.row_count c.write_out.ensures.column_count c.write_out.ensures.zero_rows c.write_out.ensures.zero_columns (omega arith) c.side-2.ensures.grid c.replay_within-is_admitted.ensures.labels c.replay_within-is_admitted.ensures.reduced (c.replay_within-is_admitted.ensures.applied is)
