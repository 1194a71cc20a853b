use Rattle.asg_table_phases.proofs.Common.{ℤ, length, sym, ◌∙◌, subst}
use Rattle.std.proofs.Common.{w64}
use Rattle.std.proofs.lemmas.Int.{to_z-of_z}
use Rattle.asg_table_phases.proofs.GradedEnds.{row_by_ends}
use Rattle.asg_table_phases.specs.GradedRows.{CostsBelow, CostsReach}
use Rattle.asg_table_phases.proofs.graded_rows.row_ends_well.Goals as goal

pub returns : goal.returns
returns c = λ told.
    let firsts = c.in-Some.parts.firsts.now in
    let seconds = c.in-Some.parts.seconds.now in
    let columns = c.args.columns.now in
    record {
      counted = sym c.is_counted.ensures ∙ c.if-not-is_counted.false;
      each =
          row_by_ends c.args.inst.now c.args.row firsts seconds c.in-Some.ensures.parts columns c.args.limit c.args.raise
          (subst (λ (l : ℤ). CostsReach firsts seconds columns l c.args.raise (length firsts)) (to_z-of_z w64 c.args.limit c.ranges.limit) (c.costs_end_well.ensures.at told))
          (subst (λ (l : ℤ). CostsBelow firsts columns l c.args.raise (length firsts)) (to_z-of_z w64 c.args.limit c.ranges.limit) (c.costs_end_well.ensures.below told));
    }
